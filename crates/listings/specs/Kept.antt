-- What every list that is read keeps to.
use Rattle.std.specs.Prelude.{◌≡◌, ℕ, ◌≤◌, List, length, Ok}
use Rattle.std.specs.List.{AllByRecursion}
use Rattle.listings.specs.Laying.{Laying}

-- there are at most 64 cuts, none is above the capacity, and the rows keep to rules of their own
pub record Kept {Row : Type 0} (Rules : ℕ → List Row → Type 0) (c : ℕ) (cuts : List ℕ) (rows : List Row) : Type 0 where
  pub few : length cuts ≤ 64
  pub sized : AllByRecursion (λ s. s ≤ c) cuts
  pub ruled : Rules c rows

-- rows that begin keep to the rules, and each row more leaves them so
pub record Keeps {Kind Row : Type 0} (laying : Laying Kind Row) (Rules : ℕ → List Row → Type 0) : Type 0 where
  pub begun : (n : ℕ) (p : ℕ × List Row) → laying.begun n ≡ Ok p → Rules p.0 p.1
  pub added : (c : ℕ) (rows : List Row) (kind : Kind) (n : ℕ) (next : List Row) → Rules c rows → laying.added c rows kind n ≡ Ok next → Rules c next
