-- What keeps the rows of a text answers.
use Rattle.std.specs.Prelude.{ℕ, List, Result}
use Rattle.faults.specs.declared.Fault.{Fault}

-- the capacity and the rows that the `bar` line begins with, and the rows after one more, at a capacity
pub record Laying (Kind Row : Type 0) : Type 0 where
  pub begun : ℕ → Result (ℕ × List Row) Fault
  pub added : ℕ → List Row → Kind → ℕ → Result (List Row) Fault
