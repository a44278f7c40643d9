use Rattle.std.proofs.Common.{◌≡◌, ℕ, ◌≤◌, max, List, map, length, Ok, sym, ap, ◌∙◌, arith}
use Rattle.std.proofs.lemmas.List.{at_drop_all, length-map}
use Rattle.std.proofs.lemmas.Result.{err_from_is_err_and}
use Rattle.bounds.specs.Bounds.{asked_of, bound}
use Rattle.bounds.proofs.Entries.{asked_refused, asked_answered}
use Rattle.functions.specs.Values.{identity}
use Rattle.text.specs.Functions.{function_capacity, function_row, function_image, function_value}
use Rattle.text.specs.Lower.{greatest_of, lower_of}
use Rattle.text.proofs.LowerFigure.{identity_for, is_for, comes_next}
use Rattle.text.proofs.lower.FunctionRowsBounding.lower_figure.Goals as goal

pub returns-in_err-greatest : goal.returns-in_err-greatest
returns-in_err-greatest c =
    let size = c.args.self.now.capacity in
    let own = c.in_ok-identity.identity.capacity in
    let q = err_from_is_err_and c.from_residual-in_err-greatest.result c.from_residual-in_err-greatest.ensures.1 in
    let figure = λ (list : List ℕ). lower_of size list (map function_row c.args.self.now.functions.items) in
    rw (q.1, q.2)
    (asked_refused own (bound own identity) figure c.args.cuts.now c.in_err-greatest.field-0.0 c.in_err-greatest.ensures.answer
    ∙ ap (λ k. asked_of k figure c.args.cuts.now) (identity_for size own c.in_ok-identity.ensures))

pub loop-function-init : goal.loop-function-init
loop-function-init c =
    let size = c.args.self.now.capacity in
    let own = c.in_ok-identity.identity.capacity in
    let cuts = c.args.cuts.now in
    let rows = map function_row c.args.self.now.functions.items in
    let told = asked_answered own (bound own identity) (λ list. lower_of size list rows) cuts c.in_ok-greatest.greatest c.in_ok-greatest.ensures.answer in
    ap (λ n. greatest_of size cuts n rows) (told.0 ∙ ap (λ k. bound k identity cuts) (identity_for size own c.in_ok-identity.ensures))

pub returns-in_err-lower_bound : goal.returns-in_err-lower_bound
returns-in_err-lower_bound c =
    let rows = c.args.self.now in
    let f = c.function-item.result in
    let q = err_from_is_err_and c.from_residual-in_err-lower_bound.result c.from_residual-in_err-lower_bound.ensures.1 in
    let figure = λ (list : List ℕ). lower_of rows.capacity list (map function_row rows.functions.items) in
    let own = is_for rows.capacity c.args.cuts.now rows.functions.items c.as_slice-function-items.result.now rows.same c.as_slice-function-items.ensures.value c.loop-function.function-index f c.loop-function-test.true c.function-item.is in
    rw (q.1, q.2)
    (asked_refused (function_capacity f) (bound (function_image f) (function_value f)) figure c.args.cuts.now c.in_err-lower_bound.field-0.0 c.in_err-lower_bound.ensures.answer
    ∙ ap (λ k. asked_of k figure c.args.cuts.now) own)

pub loop-function-preserved : goal.loop-function-preserved
loop-function-preserved c =
    let rows = c.args.self.now in
    let f = c.function-item.result in
    let number = bound (function_image f) (function_value f) in
    let told = asked_answered (function_capacity f) number number c.args.cuts.now c.in_ok-lower_bound.field-0 c.in_ok-lower_bound.ensures.answer in
    comes_next rows.capacity c.args.cuts.now rows.functions.items c.as_slice-function-items.result.now rows.same c.as_slice-function-items.ensures.value c.loop-function.function-index f c.loop-function-test.true c.function-item.is c.loop-function.greatest c.max-greatest.result (c.max-greatest.ensures ∙ ap (max c.loop-function.greatest) told.0)
    ∙ c.loop-function.invariant

pub returns : goal.returns
returns c =
    let size = c.args.self.now.capacity in
    let own = c.in_ok-identity.identity.capacity in
    let cuts = c.args.cuts.now in
    let rows = map function_row c.args.self.now.functions.items in
    let figure = λ (list : List ℕ). lower_of size list rows in
    let told = asked_answered own (bound own identity) figure cuts c.in_ok-greatest.greatest c.in_ok-greatest.ensures.answer in
    let end : length rows ≤ c.loop-function.function-index = omega (arith, c.loop-function-test.false, ap length c.as_slice-function-items.ensures.value, length-map c.args.self.now.functions.items function_row) in
    let all : c.loop-function.greatest ≡ lower_of size cuts rows = sym (at_drop_all (greatest_of size cuts c.loop-function.greatest) rows c.loop-function.function-index end) ∙ c.loop-function.invariant in
    ap Ok all ∙ sym (sym (ap (λ k. asked_of k figure cuts) (identity_for size own c.in_ok-identity.ensures)) ∙ told.1)
