use Rattle.std.proofs.Common.{◌≡◌, ℕ, ◌+◌, ◌*◌, ◌≤◌, drop, Result}
use Rattle.faults.specs.declared.Fault.{Fault}
use Rattle.plans.specs.Plans.{total}
use Rattle.bounds.specs.Bounds.{entries_check}
use Rattle.bounds.proofs.lower_bound.Given as goal

-- what is left of the list gives the rest of the total and the first entry above the capacity
abbrev pub invariant-loop-i : goal.invariant-loop-i
invariant-loop-i g l =
    (l.total ≤ l.i * 1000000000)
    × (l.total + total (g.F.DualFeasible.map l.f) (drop l.i l.list) ≡ total (g.F.DualFeasible.map l.f) l.list)
    × ((later : Result ℕ Fault) → entries_check (g.F.DualFeasible.capacity l.f) 0 l.list later ≡ entries_check (g.F.DualFeasible.capacity l.f) l.i (drop l.i l.list) later)
