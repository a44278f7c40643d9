-- Values carried up accepted rows.
use Rattle.std.proofs.Common.{◌≡◌, ℕ, ◌*◌, ◌<◌, ◌≤◌, true, false, ◌⊎◌, List, [], ◌∷◌, sym, refl, ap, ◌∙◌, subst, inl, inr, arith}
use Rattle.std.proofs.lemmas.Bool.{true≢false, eqb-true, eq-eqb, lt-ltb, le-leb, ltb-false, and_parts, not-true}
use Rattle.faults.proofs.Refusals.{within}
use Rattle.dual_feasible.specs.Laws.{InRange, greatest}
use Rattle.dual_feasible.proofs.Lawful.{value_below}
use Rattle.functions.specs.Values.{identity, threshold, rounding, division, counting}
use Rattle.functions.specs.SuperadditiveValues.{threshold_lawful, rounding_lawful, division_lawful}
use Rattle.functions.specs.CountingLaw.{counting_lawful}
use Rattle.layers.specs.Layers.{scaled}
use Rattle.layers.specs.ScaledLaw.{scaled_lawful}
use Rattle.piles.specs.Kinds.{symmetrises}
use Rattle.piles.specs.Laying.{accepted}
use Rattle.piles.specs.Layered.{image_over_kind, value_over, image_of, values_of}
use Rattle.piles.specs.Standing.{rows_of, stands, plain}
use Rattle.piles.specs.Walks.{raised, climbed, Climbs}
use Rattle.piles.specs.declared.rows.Kind.{Kind}
use Rattle.piles.specs.declared.rows.Kind.TheVariants.{Threshold, Rounding, Division, Counting, Symmetrisation, Scaling}
use Rattle.piles.specs.declared.rows.Step.{Step}
use Rattle.piles.specs.Images.{accepted_parts, stands_parts, counting_range, image_in_range}

-- a symmetrisation that is accepted over d has twice d in range
pub twice_in_range : (d p : ℕ) → accepted Symmetrisation d p ≡ true → 2 * d ≤ greatest
twice_in_range d p e = ltb-false greatest (2 * d) (accepted_parts Symmetrisation d p e).1

-- an accepted row makes at most its image capacity of a value up to d
pub raised_below : (kind : Kind) (d p n : ℕ) → InRange d → accepted kind d p ≡ true → n ≤ d → raised kind d p n ≤ image_over_kind kind d p
raised_below Threshold d p n limits e h =
    value_below d d (threshold d p) (threshold_lawful d p (ltb-false d (2 * p) (accepted_parts Threshold d p e).0)) n h
raised_below Rounding d p n limits e h = value_below d (d * p) (rounding d p) (rounding_lawful d p limits.0) n h
raised_below Division d p n limits e h =
    value_below d (image_over_kind Division d p) (division p) (division_lawful d p (within 1 d p (accepted_parts Division d p e).0).0) n h
raised_below Counting d p n limits e h =
    value_below d (image_over_kind Counting d p) (counting d p) (counting_lawful d p (counting_range d p (accepted_parts Counting d p e).0).0) n h
raised_below Symmetrisation d p n limits e h = rw (le-leb (2 * d) greatest (twice_in_range d p e)) (omega arith)
raised_below Scaling d p n limits e h = value_below d p (scaled d p identity) (scaled_lawful d p identity limits.0 d (λ sizes k. k)) n h

-- a value carried up standing steps is at most their image capacity
pub climbed_below : (d n : ℕ) (steps : List Step) → InRange d → stands d steps ≡ true → n ≤ d → climbed n steps ≤ image_of d (rows_of steps)
climbed_below d n [] limits e h = h
climbed_below d n (step ∷ steps) limits e h =
    let p = stands_parts d step steps e in
    let row = step.row in
    let same : step.below ≡ d = eqb-true step.below d p.0 in
    let next : raised row.kind step.below row.parameter n ≤ image_over_kind row.kind d row.parameter = subst (λ (b : ℕ). raised row.kind b row.parameter n ≤ image_over_kind row.kind d row.parameter) (sym same) (raised_below row.kind d row.parameter n limits p.1 h) in
    climbed_below (image_over_kind row.kind d row.parameter) (raised row.kind step.below row.parameter n) steps (image_in_range row.kind d row.parameter limits p.1) p.2 next

-- a row's value is what it makes of the value below it, for a size below half the capacity or where it mirrors nothing
row_raised : (kind : Kind) (c d p : ℕ) (v : ℕ → ℕ) (s : ℕ) → accepted kind d p ≡ true → (2 * s < c) ⊎ (symmetrises kind ≡ false) → value_over kind c d p v s ≡ raised kind d p (v s)
row_raised Threshold c d p v s e h = rw (eq-eqb d d refl)
row_raised Rounding c d p v s e h = rw (eq-eqb d d refl)
row_raised Division c d p v s e h = rw (eq-eqb d d refl)
row_raised Counting c d p v s e h = rw (eq-eqb d d refl)
row_raised Symmetrisation c d p v s e (inl h) = rw (le-leb (2 * d) greatest (twice_in_range d p e), lt-ltb (2 * s) c h)
row_raised Symmetrisation c d p v s e (inr h) = absurd (true≢false h)
row_raised Scaling c d p v s e h = refl

-- no row of some steps mirrors a size s
abbrev pub Unmirrored : ℕ → ℕ → List Step → Type 0
Unmirrored c s steps = (2 * s < c) ⊎ (plain (rows_of steps) ≡ true)

first_unmirrored : (c s : ℕ) (step : Step) (steps : List Step) → Unmirrored c s (step ∷ steps) → ((2 * s < c) ⊎ (symmetrises step.row.kind ≡ false)) × Unmirrored c s steps
first_unmirrored c s step steps (inl h) = (inl h, inl h)
first_unmirrored c s step steps (inr h) = let p = and_parts _ (plain (rows_of steps)) h in (inr (not-true (symmetrises step.row.kind) p.0), inr p.1)

-- the layered function's value is the value carried up
pub values_climbed : (c d : ℕ) (v : ℕ → ℕ) (s : ℕ) (steps : List Step) → stands d steps ≡ true → Unmirrored c s steps → values_of c d v (rows_of steps) s ≡ climbed (v s) steps
values_climbed c d v s [] e h = refl
values_climbed c d v s (step ∷ steps) e h =
    let p = stands_parts d step steps e in
    let q = first_unmirrored c s step steps h in
    let row = step.row in
    let same : step.below ≡ d = eqb-true step.below d p.0 in
    values_climbed c (image_over_kind row.kind d row.parameter) (value_over row.kind c d row.parameter v) s steps p.2 q.1
    ∙ ap (λ n. climbed n steps) (row_raised row.kind c d row.parameter v s p.1 q.0)
    ∙ ap (λ b. climbed (raised row.kind b row.parameter (v s)) steps) (sym same)

-- the step that a read past the end would give
abbrev pub no_step : Step
no_step = record { row = record { kind = Threshold; parameter = 0 }; below = 1; limits = (omega arith, omega arith); accepted = refl }

module _ (n : ℕ) (step : Step) (steps : List Step) (climbs : Climbs n (step ∷ steps)) where
  on_ground : step.below ≡ climbs.ground
  on_ground = eqb-true step.below climbs.ground (stands_parts climbs.ground step steps climbs.standing).0

  -- the first step takes the value below it
  pub step_takes : n ≤ step.below
  step_takes = rw on_ground climbs.low

  -- the raised value climbs the others
  pub next_climbs : Climbs (raised step.row.kind step.below step.row.parameter n) steps
  next_climbs =
      let row = step.row in
      record {
        ground = image_over_kind row.kind step.below row.parameter;
        limits = image_in_range row.kind step.below row.parameter step.limits step.accepted;
        standing = rw on_ground (stands_parts climbs.ground step steps climbs.standing).2;
        low = raised_below row.kind step.below row.parameter n step.limits step.accepted step_takes;
      }
