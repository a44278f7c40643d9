-- What a bank holds.
use Rattle.std.specs.Prelude.{List, map}
use Rattle.piles.specs.Plain.{rows_in}
use Rattle.piles.specs.declared.rows.Row.{Row}
use Rattle.banks.specs.declared.bank.Bank.{Bank}

-- its piles, by their rows
abbrev pub bank_piles : Bank → List (List Row)
bank_piles b = map rows_in b.piles.items
