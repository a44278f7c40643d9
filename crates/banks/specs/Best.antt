-- The greatest of some numbers, and the first of them that reaches it.
use Rattle.std.specs.Prelude.{ℕ, ◌+◌, max, cond, List, [], ◌∷◌, Some, None, Option, ◌==◌, nat_le}
use Rattle.banks.specs.declared.asking.Best.{Best}

abbrev pub greatest_of : List ℕ → ℕ
greatest_of [] = 0
greatest_of (n ∷ numbers) = max n (greatest_of numbers)

-- the place, counted on from i, of the first number that is m
abbrev pub first_with : ℕ → ℕ → List ℕ → Option ℕ
first_with m i [] = None
first_with m i (n ∷ numbers) = cond (n == m) (Some i) (first_with m (i + 1) numbers)

-- the place of the greatest, the lowest on equality; no numbers have no best one
abbrev pub best_of : List ℕ → Option ℕ
best_of numbers = first_with (greatest_of numbers) 0 numbers

-- the better of what was found of the numbers before, and a number n at place i: what was found, on equality
abbrev pub improved : Option Best → ℕ → ℕ → Option Best
improved None n i = Some (record { bound = n; pile = i })
improved (Some best) n i = cond (nat_le n best.bound) (Some best) (Some (record { bound = n; pile = i }))

-- what was found: the greatest number, 0 where there is none, and its place
abbrev pub findings : Option Best → ℕ × Option ℕ
findings None = (0, None)
findings (Some best) = (best.bound, Some best.pile)
