use Rattle.std.proofs.Common.{ℕ, ◌-◌, ◌≤◌, ap, arith}
use Rattle.dual_feasible.proofs.Questions.{told_below}
use Rattle.layers.proofs.symmetrisation.SymmetrisationDualFeasible.value.Given as given
use Rattle.layers.proofs.symmetrisation.SymmetrisationDualFeasible.value.Goals as goal

-- what the function below tells is at most its image capacity
rest_below : (g : given.Over) (c : goal.In_ok-rest g) → c.in_ok-rest.rest ≤ c.own_capacities-capacity.result.1
rest_below g c =
    let f = c.args.self.now.inner in
    let d = ap (λ (p : ℕ × ℕ). p.1) c.own_capacities-capacity.ensures.same in
    omega (arith, told_below (g.F.DualFeasible.capacity f) (g.F.DualFeasible.map f) (c.own_capacities-capacity.result.0 - c.args.size) (g.F.DualFeasible.image f) (g.met.F.DualFeasible.lawful f) c.in_ok-rest.rest c.in_ok-rest.ensures)

pub overflow_mul-result-then-size-capacity : goal.overflow_mul-result-then-size-capacity
overflow_mul-result-then-size-capacity g c = omega (arith, rest_below g c)

pub overflow_sub-result : goal.overflow_sub-result
overflow_sub-result g c = omega (arith, rest_below g c)

pub overflow_mul-result-2 : goal.overflow_mul-result-2
overflow_mul-result-2 g c =
    let f = c.args.self.now.inner in
    let d = ap (λ (p : ℕ × ℕ). p.1) c.own_capacities-capacity.ensures.same in
    omega (arith, told_below (g.F.DualFeasible.capacity f) (g.F.DualFeasible.map f) c.args.size (g.F.DualFeasible.image f) (g.met.F.DualFeasible.lawful f) c.in_ok-value.value c.in_ok-value.ensures)
