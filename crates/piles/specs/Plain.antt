-- Plain rows.
use Rattle.std.specs.Prelude.{min, List, take}
use Rattle.piles.specs.declared.rows.Row.{Row}
use Rattle.piles.specs.declared.rows.Rows.{Rows}

-- the rows that a table entry means, the lowest first, at most 8
abbrev pub rows_in : Rows → List Row
rows_in r = take (min r.count 8) r.rows
