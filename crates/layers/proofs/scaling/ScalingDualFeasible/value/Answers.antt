use Rattle.std.proofs.Common.{◌≤◌, arith}
use Rattle.dual_feasible.specs.Laws.{greatest}
use Rattle.dual_feasible.proofs.Questions.{told_below}
use Rattle.layers.specs.ScaledLaw.{product_fits}
use Rattle.layers.proofs.scaling.ScalingDualFeasible.value.Goals as goal

pub overflow_mul-result : goal.overflow_mul-result
overflow_mul-result g c =
    let f = c.args.self.now.inner in
    let below : c.in_ok-value.value ≤ greatest = omega (arith, told_below (g.F.DualFeasible.capacity f) (g.F.DualFeasible.map f) c.args.size (g.F.DualFeasible.image f) (g.met.F.DualFeasible.lawful f) c.in_ok-value.value c.in_ok-value.ensures, (g.met.F.DualFeasible.limits f).1.1) in
    omega (arith, product_fits c.in_ok-value.value c.args.self.now.target below c.args.self.now.limits.1)
