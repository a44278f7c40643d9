use Rattle.std.proofs.Common.{◌≡◌, ℕ, ◌≤◌, List, length, get_or, Ok, Err, Result, sym, ap, ◌∙◌, arith}
use Rattle.std.proofs.lemmas.List.{at_drop_more, at_drop_all}
use Rattle.std.proofs.lemmas.Bool.{lt-ltb, le-ltb}
use Rattle.faults.specs.declared.Fault.{Fault}
use Rattle.plans.specs.Plans.{total, AtLeast}
use Rattle.dual_feasible.proofs.Lawful.{value_below}
use Rattle.dual_feasible.proofs.Questions.{value_told, refusal_told}
use Rattle.bounds.specs.Bounds.{bound}
use Rattle.bounds.proofs.Entries.{entry_passes, entry_refused, entries_passed}
use Rattle.bounds.specs.Sound.{bound_sound}
use Rattle.bounds.proofs.lower_bound.Given as given
use Rattle.bounds.proofs.lower_bound.Goals as goal

-- the law of the function gives the second clause, at every return
least-of : (g : given.Over) (f : g.row.F.Denot) (list : List ℕ)
    → AtLeast (g.F.DualFeasible.capacity f) list (bound (g.F.DualFeasible.image f) (g.F.DualFeasible.map f) list)
least-of g f list =
    bound_sound (g.F.DualFeasible.capacity f) (g.F.DualFeasible.image f) (g.F.DualFeasible.map f) (g.met.F.DualFeasible.limits f).1.0 (g.met.F.DualFeasible.lawful f) list

pub returns-then-list-gt-MOST : goal.returns-then-list-gt-MOST
returns-then-list-gt-MOST g c =
    record {
      answer = rw (lt-ltb 64 (length c.args.list.now) c.if-list-gt-MOST.true) (ap Err c.new.ensures);
      least = least-of g c.args.f.now c.args.list.now;
    }

pub returns-in_default : goal.returns-in_default
returns-in_default g c =
    let above = refusal_told (g.F.DualFeasible.capacity c.args.f.now) (g.F.DualFeasible.map c.args.f.now) (get_or c.args.list.now c.loop-i.i 0) c.in_default.field-0 c.in_default.ensures in
    let later : Result ℕ Fault = Ok (bound (g.F.DualFeasible.image c.args.f.now) (g.F.DualFeasible.map c.args.f.now) c.args.list.now) in
    record {
      answer =
          rw (le-ltb 64 (length c.args.list.now) c.if-list-gt-MOST.false)
          (ap Err c.new-in_default.ensures ∙ sym (c.loop-i.invariant.2 later ∙ entry_refused (g.F.DualFeasible.capacity c.args.f.now) c.args.list.now c.loop-i.i later c.loop-i-test.true above));
      least = least-of g c.args.f.now c.args.list.now;
    }

-- what is known where the value of an entry was told
told : (g : given.Over) (c : goal.In-Ok g)
    → (get_or c.args.list.now c.loop-i.i 0 ≤ g.F.DualFeasible.capacity c.args.f.now)
    × (c.in-Ok.value ≡ g.F.DualFeasible.map c.args.f.now (get_or c.args.list.now c.loop-i.i 0))
told g c =
    value_told (g.F.DualFeasible.capacity c.args.f.now) (g.F.DualFeasible.map c.args.f.now) (get_or c.args.list.now c.loop-i.i 0) c.in-Ok.value c.in-Ok.ensures

-- no value is above 1,000,000,000
small : (g : given.Over) (c : goal.In-Ok g) → c.in-Ok.value ≤ 1000000000
small g c =
    let t = told g c in
    let f = c.args.f.now in
    let most : g.F.DualFeasible.map f (get_or c.args.list.now c.loop-i.i 0) ≤ g.F.DualFeasible.image f = value_below (g.F.DualFeasible.capacity f) (g.F.DualFeasible.image f) (g.F.DualFeasible.map f) (g.met.F.DualFeasible.lawful f) (get_or c.args.list.now c.loop-i.i 0) t.0 in
    omega (arith, (g.met.F.DualFeasible.limits f).1.1)

pub overflow_add-total : goal.overflow_add-total
overflow_add-total g c = omega (arith, small g c)

pub loop-i-preserved : goal.loop-i-preserved
loop-i-preserved g c =
    let t = told g c in
    let list = c.args.list.now in
    let i = c.loop-i.i in
    let v = g.F.DualFeasible.map c.args.f.now in (
      omega (arith, small g c),
      omega (arith, at_drop_more (total v) list i 0 c.loop-i-test.true),
      λ later. c.loop-i.invariant.2 later ∙ entry_passes (g.F.DualFeasible.capacity c.args.f.now) list i later c.loop-i-test.true t.0,
    )

pub rounded_up-requires : goal.rounded_up-requires
rounded_up-requires g c =
    let d = ap (λ (p : ℕ × ℕ). p.1) c.capacities-image.ensures in
    let limits = (g.met.F.DualFeasible.limits c.args.f.now).1 in
    omega arith

pub returns : goal.returns
returns g c =
    let list = c.args.list.now in
    let v = g.F.DualFeasible.map c.args.f.now in
    let d : c.capacities-image.result.1 ≡ g.F.DualFeasible.image c.args.f.now = ap (λ (p : ℕ × ℕ). p.1) c.capacities-image.ensures in
    let e : c.loop-i.total ≡ total v list = omega (arith, at_drop_all (total v) list c.loop-i.i c.loop-i-test.false) in
    let later : Result ℕ Fault = Ok (bound (g.F.DualFeasible.image c.args.f.now) v list) in
    let b : c.rounded_up.result ≡ bound (g.F.DualFeasible.image c.args.f.now) v list = c.rounded_up.ensures ∙ rw (d, e) in
    record {
      answer =
          rw (le-ltb 64 (length list) c.if-list-gt-MOST.false, b)
          (sym (c.loop-i.invariant.2 later ∙ entries_passed (g.F.DualFeasible.capacity c.args.f.now) list c.loop-i.i later c.loop-i-test.false));
      least = least-of g c.args.f.now list;
    }
