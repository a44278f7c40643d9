-- The entries above half the capacity: no bar takes two of them.
use Rattle.std.specs.Prelude.{ℕ, ◌*◌, cond, List, nat_lt}
use Rattle.plans.specs.Plans.{total}

-- 1 for a size above half the capacity c, else 0
abbrev pub half : ℕ → ℕ → ℕ
half c s = cond (nat_lt c (2 * s)) 1 0

-- how many entries are above half the capacity c
abbrev pub above_half : ℕ → List ℕ → ℕ
above_half c list = total (half c) list
