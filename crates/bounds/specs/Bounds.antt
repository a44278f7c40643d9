-- Bounds of a list, and what asking for one answers.
use Rattle.std.specs.Prelude.{ℕ, ◌+◌, ◌-◌, ◌/◌, ◌≤◌, max, cond, not, List, [], ◌∷◌, length, Ok, Result, ◌==◌, nat_lt}
use Rattle.faults.specs.declared.Fault.{Fault}
use Rattle.faults.specs.declared.Layer.TheVariants.{Bound}
use Rattle.faults.specs.declared.Refusal.TheVariants.{Size, CapacitiesDiffer, TooMany}
use Rattle.faults.specs.Faults.{fault, refuse}
use Rattle.plans.specs.Plans.{total, AtLeast}

-- the bound of a function with the values v and the image capacity d: the total divided by d, rounded up
abbrev pub bound : ℕ → (ℕ → ℕ) → List ℕ → ℕ
bound d v list = (total v list + (d - 1)) / d

-- 4 with the position, counted on from i, of the first entry above the capacity c
abbrev pub entries_check : {X : Type 0} → ℕ → ℕ → List ℕ → Result X Fault → Result X Fault
entries_check c i [] later = later
entries_check c i (s ∷ list) later = refuse (nat_lt c s) (fault Size Bound i) (entries_check c (i + 1) list later)

-- a list has at most this many entries
abbrev pub most : ℕ
most = 64

-- 6 for a list with too many entries, then 4, else the list's answer
abbrev pub asked_of : {X : Type 0} → ℕ → (List ℕ → X) → List ℕ → Result X Fault
asked_of c answer list = refuse (nat_lt most (length list)) (fault TooMany Bound most) (entries_check c 0 list (Ok (answer list)))

-- where the answer is a number
abbrev pub asked : ℕ → (List ℕ → ℕ) → List ℕ → Result ℕ Fault
asked c number list = asked_of c number list

-- the law of a bounder: every plan of a list that it takes has at least the list's number of bars
abbrev pub Sound : ℕ → (List ℕ → ℕ) → Type 0
Sound c number = (list : List ℕ) → length list ≤ most → AtLeast c list (number list)

-- the greater of the numbers m and n of two bounders, and 0 where their capacities c and d differ
abbrev pub greater : ℕ → ℕ → ℕ → ℕ → ℕ
greater c d m n = cond (c == d) (max m n) 0

-- 5 with the second capacity where the two differ, else what was made
abbrev pub greater_made : {X : Type 0} → ℕ → ℕ → X → Result X Fault
greater_made c d made = refuse (not (c == d)) (fault CapacitiesDiffer Bound d) (Ok made)
