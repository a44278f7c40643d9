use Rattle.std.proofs.Common.{◌≡◌, [], drop}
use Rattle.piles.specs.Contents.{pile_rows}
use Rattle.piles.specs.Laying.{all_laid}
use Rattle.piles.proofs.pile.Pile.from_rows.Given as goal

-- what is left of the rows gives the answer
abbrev pub invariant-loop-row : goal.invariant-loop-row
invariant-loop-row l =
    (l.pile.capacity ≡ l.capacity)
    × (all_laid l.capacity (pile_rows l.pile) (drop l.row-index l.rows) ≡ all_laid l.capacity [] l.rows)
