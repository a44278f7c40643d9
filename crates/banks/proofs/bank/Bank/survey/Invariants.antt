use Rattle.std.proofs.Common.{◌≡◌, drop, map, None}
use Rattle.piles.specs.Plain.{rows_in}
use Rattle.banks.specs.Banks.{pile_bounds}
use Rattle.banks.proofs.Surveys.{along}
use Rattle.banks.proofs.bank.Bank.survey.Given as goal

-- what is left of the piles gives the answer
abbrev pub invariant-loop-i : goal.invariant-loop-i
invariant-loop-i l =
    let numbers = pile_bounds l.self.capacity (map rows_in l.self.piles.items) l.list in
    along l.found l.i (drop l.i numbers) ≡ along None 0 numbers
