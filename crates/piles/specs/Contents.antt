-- What a pile holds.
use Rattle.std.specs.Prelude.{List}
use Rattle.piles.specs.Standing.{rows_of}
use Rattle.piles.specs.declared.pile.Pile.{Pile}
use Rattle.piles.specs.declared.rows.Row.{Row}

-- its rows, the lowest first
abbrev pub pile_rows : Pile → List Row
pile_rows p = rows_of p.steps.items
