-- Whole parts of quotients.
use Rattle.std.specs.Prelude.{ℕ, suc, ◌+◌, ◌-◌, ◌*◌, ◌/◌, ◌<◌, ◌≤◌}
use Rattle.std.proofs.Common.{add-mul, suc-mul, div-mul-le_self, mul-le-mul_right, lt_of_mul-lt-mul_right, arith}
use Rattle.std.proofs.lemmas.Nat.{le-div}

-- a smaller number has no greater quotient
pub div_rises : (a b k : ℕ) → 0 < k → a ≤ b → a / k ≤ b / k
div_rises a b k pos h = le-div (a / k) b k pos (omega (arith, div-mul-le_self a k))

-- x parts of size k that lie within s, and those of what is left of m beside s, are parts of m
pub div_beside : (x s m k : ℕ) → 0 < k → s ≤ m → x * k ≤ s → x + (m - s) / k ≤ m / k
div_beside x s m k pos h inside =
    le-div (x + (m - s) / k) m k pos (omega (arith, add-mul x ((m - s) / k) k, div-mul-le_self (m - s) k))

-- a greater multiple of c is greater by c at least
pub multiple_gap : (m n c : ℕ) → m * c < n * c → m * c + c ≤ n * c
multiple_gap m n c h =
    let less : m < n = lt_of_mul-lt-mul_right c h in
    let more : suc m * c ≤ n * c = mul-le-mul_right c less in
    omega (arith, suc-mul m c)
