use Rattle.std.proofs.Common.{◌≡◌, ℕ, ◌≤◌, sym, ap, ◌∙◌, arith}
use Rattle.std.proofs.lemmas.Bool.{eq-eqb, le-ltb}
use Rattle.dual_feasible.specs.Answers.{valued}
use Rattle.dual_feasible.proofs.Lawful.{value_below}
use Rattle.dual_feasible.proofs.Questions.{value_told, value_tells}
use Rattle.layers.proofs.composition.composed_value.Goals as goal

-- the inner value is at most the inner image capacity, which is the outer capacity: the outer function refuses nothing
pub returns : goal.returns
returns g c =
    let outer = c.args.outer.now in
    let inner = c.args.inner.now in
    let v = g.I.DualFeasible.map inner in
    let w = g.O.DualFeasible.map outer in
    let told = value_told (g.I.DualFeasible.capacity inner) v c.args.size c.in_ok-value.value c.in_ok-value.ensures in
    let same : g.O.DualFeasible.capacity outer ≡ g.I.DualFeasible.image inner = ap (λ (p : ℕ × ℕ). p.0) (sym c.capacities-capacity.ensures) ∙ c.if-capacity-image.false ∙ ap (λ (p : ℕ × ℕ). p.1) c.capacities-image.ensures in
    let below : v c.args.size ≤ g.O.DualFeasible.capacity outer = omega (arith, value_below (g.I.DualFeasible.capacity inner) (g.I.DualFeasible.image inner) v (g.met.I.DualFeasible.lawful inner) c.args.size told.0) in
    rw (le-ltb (g.I.DualFeasible.capacity inner) c.args.size told.0, eq-eqb (g.O.DualFeasible.capacity outer) (g.I.DualFeasible.image inner) same)
    (c.value-2.ensures ∙ ap (valued (g.O.DualFeasible.capacity outer) w) told.1 ∙ value_tells (g.O.DualFeasible.capacity outer) w (v c.args.size) below)
