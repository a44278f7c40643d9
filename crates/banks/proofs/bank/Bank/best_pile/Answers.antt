use Rattle.std.proofs.Common.{ℕ, Option, ap, ◌∙◌, rules}
use Rattle.banks.specs.Banks.{best_pile_of}
use Rattle.banks.specs.Contents.{bank_piles}
use Rattle.banks.proofs.Surveys.{pile_found, survey_refused, survey_told}
use Rattle.banks.proofs.bank.Bank.best_pile.Goals as goal

pub returns-in_err-best : goal.returns-in_err-best
returns-in_err-best c =
    let b = c.args.self.now in
    survey_refused b c.args.list.now (best_pile_of b.capacity (bank_piles b)) c.in_err-best.field-0.0 c.from_residual.result c.in_err-best.ensures c.from_residual.ensures.1

pub returns : goal.returns
returns c =
    let b = c.args.self.now in
    let best = c.in_ok-best.best in
    survey_told b c.args.list.now (best_pile_of b.capacity (bank_piles b)) best c.in_ok-best.ensures c.map-number.result
    (λ e. pile_found best _ c.map-number.result (λ found pile p. search rules) c.map-number.ensures.cases ∙ ap (λ (p : ℕ × Option ℕ). p.1) e)
