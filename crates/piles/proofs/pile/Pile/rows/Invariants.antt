use Rattle.std.proofs.Common.{◌≡◌, length, take}
use Rattle.piles.specs.Standing.{rows_of}
use Rattle.piles.proofs.pile.Pile.rows.Given as goal

abbrev pub invariant-loop-i : goal.invariant-loop-i
invariant-loop-i l = (length l.rows ≡ 8) × (take l.i l.rows ≡ rows_of (take l.i l.self.steps.items))
