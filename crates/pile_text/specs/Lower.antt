-- The lower figure of a cutting list.
use Rattle.std.specs.Prelude.{ℕ, List, [], ◌∷◌}
use Rattle.bounds.specs.Bounds.{bound, greater}
use Rattle.banks.specs.Banks.{bank_number}
use Rattle.functions.specs.Values.{identity}
use Rattle.piles.specs.declared.rows.Row.{Row}

-- the greater of the identity's bound and the number of a bank that holds the pile of the rows
abbrev pub lower_of : ℕ → List ℕ → List Row → ℕ
lower_of c cuts rows = greater c c (bound c identity cuts) (bank_number c (rows ∷ []) cuts)
