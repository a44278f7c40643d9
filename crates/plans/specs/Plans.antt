-- Plans of a list of sizes over bars of one capacity.
use Rattle.std.specs.Prelude.{◌≡◌, ℕ, ◌+◌, ◌<◌, ◌≤◌, cond, List, [], ◌∷◌, length, ◌==◌}
use Rattle.std.specs.List.{AllByRecursion}

-- the values of the sizes of a list, added up
abbrev pub total : (ℕ → ℕ) → List ℕ → ℕ
total v [] = 0
total v (s ∷ sizes) = v s + total v sizes

-- the sizes themselves, added up
abbrev pub sum : List ℕ → ℕ
sum sizes = total (λ s. s) sizes

-- A plan gives each entry of a list a bar number. What lies in bar b: the sizes of its entries, added up.
abbrev pub load : ℕ → List ℕ → List ℕ → ℕ
load b [] plan = 0
load b (s ∷ sizes) [] = 0
load b (s ∷ sizes) (j ∷ plan) = cond (j == b) s 0 + load b sizes plan

-- the plan puts each entry into one of the bars 0 to n - 1, and the entries of each bar fit into the capacity
pub record Packs (capacity : ℕ) (sizes : List ℕ) (n : ℕ) (plan : List ℕ) : Type 0 where
  pub each : length plan ≡ length sizes
  pub below : AllByRecursion (λ j. j < n) plan
  pub fits : (b : ℕ) → load b sizes plan ≤ capacity

-- every plan of the list has at least m bars
abbrev pub AtLeast : ℕ → List ℕ → ℕ → Type 0
AtLeast capacity sizes m = (n : ℕ) (plan : List ℕ) → Packs capacity sizes n plan → m ≤ n
