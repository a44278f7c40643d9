use Rattle.std.proofs.Common.{◌≡◌, ℕ, ◌≤◌, length, get_or, None, Ok, sym, ap, ◌∙◌, arith}
use Rattle.std.proofs.lemmas.List.{at_drop_all, length-map}
use Rattle.std.proofs.lemmas.Result.{err_from_is_err_and}
use Rattle.bounds.proofs.Entries.{asked_refused, asked_answered}
use Rattle.piles.specs.Plain.{rows_in}
use Rattle.banks.specs.Banks.{pile_bound, pile_bounds, surveyed}
use Rattle.banks.specs.Best.{findings}
use Rattle.banks.specs.Contents.{bank_piles}
use Rattle.banks.proofs.Surveys.{along, found_all, no_rows, held_made, bound_along}
use Rattle.banks.proofs.bank.Bank.survey.Goals as goal

pub returns-in_err-check_list : goal.returns-in_err-check_list
returns-in_err-check_list c =
    let b = c.args.self.now in
    let q = err_from_is_err_and c.from_residual.result c.from_residual.ensures.1 in
    rw (q.1, q.2) (asked_refused {X = Unit} b.capacity (λ _. tt) (surveyed b.capacity (bank_piles b)) c.args.list.now c.in_err-check_list.field-0.0 c.in_err-check_list.ensures)

pub bound_of-requires : goal.bound_of-requires
bound_of-requires c =
    let b = c.args.self.now in
    rw c.held-piles.ensures (held_made b.capacity b.piles.items c.loop-i.i (rw (sym c.held-piles.ensures) c.loop-i-test.true) b.standing)

pub returns-in_err-bound : goal.returns-in_err-bound
returns-in_err-bound c =
    let b = c.args.self.now in
    let q = err_from_is_err_and c.from_residual-in_err-bound.result c.from_residual-in_err-bound.ensures.1 in
    rw (q.1, q.2) (asked_refused {X = ℕ} b.capacity (λ l. pile_bound b.capacity l (rows_in (get_or c.held-piles.result.now c.loop-i.i no_rows))) (surveyed b.capacity (bank_piles b)) c.args.list.now c.in_err-bound.field-0.0 c.in_err-bound.ensures)

pub loop-i-preserved : goal.loop-i-preserved
loop-i-preserved c =
    let b = c.args.self.now in
    let list = c.args.list.now in
    let a = asked_answered {X = ℕ} b.capacity (λ l. pile_bound b.capacity l (rows_in (get_or c.held-piles.result.now c.loop-i.i no_rows))) (surveyed b.capacity (bank_piles b)) list c.in_ok-bound.bound c.in_ok-bound.ensures in
    rw c.better_of-found.ensures
    (sym (bound_along b.capacity b.piles.items c.loop-i.i (rw (sym c.held-piles.ensures) c.loop-i-test.true) list c.loop-i.found c.in_ok-bound.bound (rw (sym c.held-piles.ensures) a.0)) ∙ c.loop-i.invariant)

pub returns : goal.returns
returns c =
    let b = c.args.self.now in
    let list = c.args.list.now in
    let numbers = pile_bounds b.capacity (bank_piles b) list in
    let end : length b.piles.items ≤ c.loop-i.i = rw (sym c.held-piles.ensures) c.loop-i-test.false in
    let all : length numbers ≤ c.loop-i.i = omega (arith, length-map (bank_piles b) (pile_bound b.capacity list), length-map b.piles.items rows_in) in
    let found : c.loop-i.found ≡ along None 0 numbers = sym (at_drop_all (along c.loop-i.found c.loop-i.i) numbers c.loop-i.i all) ∙ c.loop-i.invariant in
    ap (λ f. Ok (findings f)) found ∙ ap Ok (found_all numbers) ∙ sym (asked_answered {X = Unit} b.capacity (λ _. tt) (surveyed b.capacity (bank_piles b)) list tt c.in_ok-check_list.ensures).1
