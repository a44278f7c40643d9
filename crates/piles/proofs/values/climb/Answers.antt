use Rattle.std.proofs.Common.{◌≡◌, ℕ, ◌+◌, ◌<◌, List, ◌∷◌, length, get_or, drop, sym, ap, ◌∙◌}
use Rattle.std.proofs.lemmas.List.{drop_more}
use Rattle.piles.specs.Walks.{climbed}
use Rattle.piles.specs.declared.rows.Step.{Step}
use Rattle.piles.proofs.Climbing.{next_climbs}
use Rattle.piles.proofs.values.climb.Goals as goal

-- the steps that are left begin with the next one
from_here : (steps : List Step) (i : ℕ) (step : Step) → i < length steps → step ≡ get_or steps i step → drop i steps ≡ step ∷ drop (i + 1) steps
from_here steps i step h is = drop_more steps i step h ∙ ap (λ x. x ∷ drop (i + 1) steps) (sym is)

pub loop-step-preserved : goal.loop-step-preserved
loop-step-preserved c =
    let steps = c.args.steps.now in
    let i = c.loop-step.step-index in
    let n = c.loop-step.value in
    let step = c.step-item.result in
    let here = from_here steps i step c.loop-step-test.true c.step-item.is in
    rw c.raise-value.ensures
    (next_climbs n step (drop (i + 1) steps) (rw here at c.loop-step.invariant.0), sym (ap (climbed n) here) ∙ c.loop-step.invariant.1)
