-- The lower figure of a cutting list.
use Rattle.std.specs.Prelude.{ℕ, max, List, [], ◌∷◌}
use Rattle.bounds.specs.Bounds.{bound}
use Rattle.functions.specs.Values.{identity}
use Rattle.text.specs.Rows.{row_image, row_value}
use Rattle.text.specs.declared.kinds.Row.{Row}

-- the bound of a row's function
abbrev pub bound_of_row : ℕ → List ℕ → Row → ℕ
bound_of_row c cuts row = bound (row_image row.kind c row.parameter) (row_value row.kind c row.parameter) cuts

-- the greatest of n and the bounds of the rows
abbrev pub greatest_of : ℕ → List ℕ → ℕ → List Row → ℕ
greatest_of c cuts n [] = n
greatest_of c cuts n (row ∷ rows) = greatest_of c cuts (max n (bound_of_row c cuts row)) rows

-- the greatest of the identity's bound and the bounds of the rows
abbrev pub lower_of : ℕ → List ℕ → List Row → ℕ
lower_of c cuts rows = greatest_of c cuts (bound c identity cuts) rows
