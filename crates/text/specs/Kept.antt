-- What the rows of every list that is read keep to.
use Rattle.std.specs.Prelude.{◌≡◌, ℕ, true, List, is_ok}
use Rattle.std.specs.List.{AllByRecursion}
use Rattle.functions.specs.Made.{identity_made}
use Rattle.text.specs.Rows.{row_made}
use Rattle.text.specs.declared.kinds.Row.{Row}

-- the capacity is in its range, and each row's function can be made
pub record Makes (c : ℕ) (rows : List Row) : Type 0 where
  pub bar : is_ok (identity_made c) ≡ true
  pub made : AllByRecursion (λ row. is_ok (row_made row.kind c row.parameter) ≡ true) rows
