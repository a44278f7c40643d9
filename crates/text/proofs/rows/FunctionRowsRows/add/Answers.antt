use Rattle.std.proofs.Common.{◌≡◌, false, leb, map, length, ap, arith}
use Rattle.std.proofs.lemmas.Bool.{lt-leb}
use Rattle.std.proofs.lemmas.List.{length-map}
use Rattle.std.proofs.lemmas.Result.{err_from_is_err_and}
use Rattle.faults.specs.Faults.{checked}
use Rattle.text.specs.Functions.{function_row}
use Rattle.text.specs.Rows.{row_made}
use Rattle.text.proofs.Functions.{then_is, then_refused, all_for_push}
use Rattle.text.proofs.rows.FunctionRowsRows.add.Goals as goal

pub returns-in_err-new-clause-answer : goal.returns-in_err-new-clause-answer
returns-in_err-new-clause-answer c =
    let q = err_from_is_err_and c.from_residual.result c.from_residual.ensures.1 in
    let rows = map function_row c.args.self.now.functions.items in
    let few : leb 8 (length rows) ≡ false = lt-leb 8 (length rows) (omega (arith, length-map c.args.self.now.functions.items function_row)) in
    rw (q.1, q.2, few) (ap checked (then_refused (row_made c.args.kind c.args.self.now.capacity c.args.parameter) c.in_err-new.field-0.0 _ _ c.in_err-new.ensures))

pub invariant_of-self-2 : goal.invariant_of-self-2
invariant_of-self-2 c =
    let f = c.in_ok-new.field-0 in
    let made = then_is (row_made c.args.kind c.args.self.now.capacity c.args.parameter) _ _ c.in_ok-new.ensures in
    record {
      limits = c.args.self.now.limits;
      same = rw c.push.ensures.items (all_for_push c.args.self.now.capacity c.args.self.now.functions.items f c.args.self.now.same (ap (λ p. p.0) made));
    }
