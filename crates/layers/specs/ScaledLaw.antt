-- Scaling keeps both laws.
use Rattle.std.specs.Prelude.{ℕ, ◌+◌, ◌*◌, ◌/◌, ◌<◌, ◌≤◌, List, [], ◌∷◌}
use Rattle.std.proofs.Common.{add-mul, mul_comm, zero-mul, div-mul-le_self, mul-le-mul_right, le_of_mul-le-mul_right, arith}
use Rattle.std.proofs.lemmas.Nat.{le-div, mul-le}
use Rattle.plans.specs.Plans.{total}
use Rattle.dual_feasible.specs.Laws.{Lawful, Adds, greatest}
use Rattle.layers.specs.Layers.{scaled}

module _ (d m : ℕ) (v : ℕ → ℕ) (positive : 0 < d) where
  -- in parts of d, scaled values are no more than m times the values
  total_scaled : (sizes : List ℕ) → total (scaled d m v) sizes * d ≤ total v sizes * m
  total_scaled [] = omega (arith, zero-mul d, zero-mul m)
  total_scaled (s ∷ sizes) =
      omega (arith, add-mul (scaled d m v s) (total (scaled d m v) sizes) d, add-mul (v s) (total v sizes) m, div-mul-le_self (v s * m) d, total_scaled sizes)

  -- scaling of a lawful function is lawful
  pub scaled_lawful : (c : ℕ) → Lawful c d v → Lawful c m (scaled d m v)
  scaled_lawful c lawful sizes h =
      let most : total v sizes * m ≤ d * m = mul-le-mul_right m (lawful sizes h) in
      le_of_mul-le-mul_right (let e : total (scaled d m v) sizes * d ≤ m * d = omega (arith, total_scaled sizes, mul_comm d m) in e) positive

  -- scaling of a superadditive function is superadditive
  pub scaled_adds : (c : ℕ) → Adds c v → Adds c (scaled d m v)
  scaled_adds c adds a b h =
      let up : (v a + v b) * m ≤ v (a + b) * m = mul-le-mul_right m (adds a b h) in
      le-div (v a * m / d + v b * m / d) (v (a + b) * m) d positive
      (omega (arith, add-mul (v a * m / d) (v b * m / d) d, add-mul (v a) (v b) m, div-mul-le_self (v a * m) d, div-mul-le_self (v b * m) d))

-- a value times a target is far below 2 ^ 64
pub product_fits : (a m : ℕ) → a ≤ greatest → m ≤ greatest → a * m ≤ 1000000000000000000
product_fits a m h k = mul-le a m greatest greatest h k
