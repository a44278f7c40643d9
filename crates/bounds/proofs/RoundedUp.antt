-- A quotient, rounded up, in the library's words.
use Rattle.std.proofs.Common.{◌≡◌, ℕ, suc, ◌+◌, ◌-◌, ◌*◌, ◌/◌, ◌%◌, ◌<◌, ◌≤◌, min, suc-mul, arith}
use Rattle.std.proofs.lemmas.Grind.{div_ceil_times}
use Rattle.std.proofs.lemmas.Nat.{le-div, div_below}

-- the number r of whole parts of d that hold t, and not one more, is the quotient of what rounds up
holds : (t d r : ℕ) → 0 < d → (t ≤ r * d) × (r * d < t + d) → (t + (d - 1)) / d ≡ r
holds t d r pos b =
    let low : r ≤ (t + (d - 1)) / d = le-div r (t + (d - 1)) d pos (omega (arith, b.1)) in
    let high : (t + (d - 1)) / d < suc r = div_below (t + (d - 1)) d (suc r) pos (omega (arith, b.0, suc-mul r d)) in
    omega arith

-- the bound's quotient is what the library calls rounded up
pub rounded_up_is : (t d : ℕ) → 0 < d → (t + (d - 1)) / d ≡ t / d + min 1 (t % d)
rounded_up_is t d pos = holds t d (t / d + min 1 (t % d)) pos (div_ceil_times t d pos)
