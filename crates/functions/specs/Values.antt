-- The values of the five functions at a size s from 0 to the capacity c, and their image capacities.
use Rattle.std.specs.Prelude.{ℕ, ◌+◌, ◌-◌, ◌*◌, ◌/◌, ◌%◌, cond, ◌==◌, nat_le, nat_lt}

abbrev pub identity : ℕ → ℕ
identity s = s

-- a whole bar above c - t, nothing below t, and the size itself between them
abbrev pub threshold : ℕ → ℕ → ℕ → ℕ
threshold c t s = cond (nat_lt (c - t) s) c (cond (nat_le t s) s 0)

-- where c divides (k + 1) × s, exactly k × s; else c times the whole part of (k + 1) × s / c
abbrev pub rounding : ℕ → ℕ → ℕ → ℕ
rounding c k s = cond ((k + 1) * s % c == 0) (s * k) (c * ((k + 1) * s / c))

-- how many pieces of size k go into s
abbrev pub division : ℕ → ℕ → ℕ
division k s = s / k

-- how many pieces of size e a piece of size s takes the place of: above half the capacity, all that no longer fit beside
-- it; else one if s is at least e
abbrev pub counting : ℕ → ℕ → ℕ → ℕ
counting c e s = cond (nat_lt c (2 * s)) (c / e - (c - s) / e) (cond (nat_le e s) 1 0)

-- The image capacity of identity and threshold is c.
abbrev pub rounding_image : ℕ → ℕ → ℕ
rounding_image c k = c * k

abbrev pub division_image : ℕ → ℕ → ℕ
division_image c k = c / k

abbrev pub counting_image : ℕ → ℕ → ℕ
counting_image c e = c / e
