use Rattle.std.proofs.Common.{◌≡◌, ℕ, sym, ap, ◌∙◌, rules}
use Rattle.dual_feasible.proofs.Lawful.{value_below}
use Rattle.layers.specs.ComposedLaw.{composed_same}
use Rattle.layers.proofs.composition.CompositionSuperadditive.own_capacities.Goals as goal

-- the two meanings agree up to the capacity, since those of both parts do
pub returns : goal.returns
returns g c =
    let outer = c.args.self.now.outer in
    let inner = c.args.self.now.inner in
    let o = c.own_capacities-image.ensures in
    let i = c.own_capacities-capacity.ensures in
    let capacities : g.O.Superadditive.capacity outer ≡ g.O.DualFeasible.capacity outer = ap (λ (p : ℕ × ℕ). p.0) (sym o.value ∙ o.same) in
    let images : g.I.Superadditive.image inner ≡ g.I.DualFeasible.image inner = ap (λ (p : ℕ × ℕ). p.1) (sym i.value ∙ i.same) in
    record {
      value = search rules;
      same = search rules;
      map = λ s h. composed_same _ _ (g.O.Superadditive.map outer) (g.O.DualFeasible.map outer) _ _ (g.I.Superadditive.map inner) (g.I.DualFeasible.map inner) s capacities images (i.map s h) (o.map (g.I.Superadditive.map inner s)) (value_below _ _ _ (g.met.I.Superadditive.lawful inner) s h);
    }
