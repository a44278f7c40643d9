use Rattle.std.proofs.Common.{ℕ, Option, ap, ◌∙◌, rules}
use Rattle.banks.specs.Banks.{bank_number}
use Rattle.banks.specs.Contents.{bank_piles}
use Rattle.banks.proofs.Surveys.{bound_found, survey_refused, survey_told}
use Rattle.banks.proofs.asking.BankBounder.number.Goals as goal

pub returns-in_err-best : goal.returns-in_err-best
returns-in_err-best c =
    let b = c.args.self.now in
    survey_refused b c.args.list.now (bank_number b.capacity (bank_piles b)) c.in_err-best.field-0.0 c.from_residual.result c.in_err-best.ensures c.from_residual.ensures.1

pub returns : goal.returns
returns c =
    let b = c.args.self.now in
    let best = c.in_ok-best.best in
    survey_told b c.args.list.now (bank_number b.capacity (bank_piles b)) best c.in_ok-best.ensures c.map_or-greatest.result
    (λ e. bound_found best _ c.map_or-greatest.result (λ found p. search rules) c.map_or-greatest.ensures ∙ ap (λ (p : ℕ × Option ℕ). p.0) e)
