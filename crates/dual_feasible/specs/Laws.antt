-- The laws of dual feasible and of superadditive functions.
use Rattle.std.specs.Prelude.{ℕ, ◌+◌, ◌≤◌, List}
use Rattle.plans.specs.Plans.{total, sum}

-- the greatest capacity that any function, pile or bounder may have
abbrev pub greatest : ℕ
greatest = 1000000000

abbrev pub InRange : ℕ → Type 0
InRange c = (1 ≤ c) × (c ≤ greatest)

-- what the capacity c and the image capacity d of a function keep to
abbrev pub Limits : ℕ → ℕ → Type 0
Limits c d = InRange c × InRange d

-- Lueker's law: the values of a list of sizes, of any length and with repeats, that fits into c add up to at most d
abbrev pub Lawful : ℕ → ℕ → (ℕ → ℕ) → Type 0
Lawful c d v = (sizes : List ℕ) → sum sizes ≤ c → total v sizes ≤ d

-- superadditive up to c
abbrev pub Adds : ℕ → (ℕ → ℕ) → Type 0
Adds c v = (a b : ℕ) → a + b ≤ c → v a + v b ≤ v (a + b)
