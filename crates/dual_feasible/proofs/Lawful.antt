-- What the law gives, and how a function comes by it.
use Rattle.std.proofs.Common.{◌≡◌, ℕ, ◌+◌, ◌-◌, ◌≤◌, List, [], ◌∷◌, subst, arith}
use Rattle.plans.specs.Plans.{total, sum}
use Rattle.dual_feasible.specs.Laws.{Lawful, Adds}

-- no value is above the image capacity
pub value_below : (c d : ℕ) (v : ℕ → ℕ) → Lawful c d v → (s : ℕ) → s ≤ c → v s ≤ d
value_below c d v lawful s h = let e : v s + 0 ≤ d = lawful (s ∷ []) (omega arith) in omega arith

module _ (c : ℕ) (v : ℕ → ℕ) (adds : Adds c v) where
  -- a superadditive function gives nothing to nothing
  pub adds_none : v 0 ≡ 0
  adds_none = let e : v 0 + v 0 ≤ v 0 = adds 0 0 (omega arith) in omega arith

  -- a longer size never weighs less
  pub adds_rises : (a b : ℕ) → a ≤ b → b ≤ c → v a ≤ v b
  adds_rises a b h k =
      let e : a + (b - a) ≡ b = omega arith in
      let more : v a + v (b - a) ≤ v b = subst (λ (n : ℕ). v a + v (b - a) ≤ v n) e (adds a (b - a) (omega arith)) in
      omega arith

module _ (c d : ℕ) (v : ℕ → ℕ) (adds : Adds c v) where
  -- the sizes of a list that fits weigh at most what one piece of their sum does
  total_below_whole : (sizes : List ℕ) → sum sizes ≤ c → total v sizes ≤ v (sum sizes)
  total_below_whole [] h = omega arith
  total_below_whole (s ∷ sizes) h =
      let rest : total v sizes ≤ v (sum sizes) = total_below_whole sizes (omega arith) in
      omega (arith, adds s (sum sizes) h)

  -- a superadditive function whose value at the capacity is at most the image capacity is lawful
  pub lawful_from_adds : v c ≤ d → Lawful c d v
  lawful_from_adds top sizes h =
      let whole : total v sizes ≤ v (sum sizes) = total_below_whole sizes h in
      omega (arith, adds_rises c v adds (sum sizes) c h (omega arith))
