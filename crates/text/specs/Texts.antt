-- A text whose rows each name a function.
use Rattle.std.specs.Prelude.{ℕ, List, [], ◌∷◌, ◌++◌, length, Ok, Result, nat_le}
use Rattle.faults.specs.declared.Fault.{Fault}
use Rattle.faults.specs.declared.Layer.TheVariants.{Text}
use Rattle.faults.specs.declared.Refusal.TheVariants.{TooMany}
use Rattle.faults.specs.Faults.{fault, refuse, and_then}
use Rattle.functions.specs.Made.{identity_made}
use Rattle.listings.specs.Laying.{Laying}
use Rattle.listings.specs.Texts as texts
use Rattle.listings.specs.Texts.{CuttingList}
use Rattle.listings.specs.declared.reading.Stop.{Stop}
use Rattle.text.specs.Kinds.{kind_words}
use Rattle.text.specs.Rows.{row_made}
use Rattle.text.specs.declared.kinds.Kind.{Kind}
use Rattle.text.specs.declared.kinds.Row.{Row}

-- the capacity, from 1 to 1,000,000,000, and no row
abbrev pub bar_begun : ℕ → Result (ℕ × List Row) Fault
bar_begun n = and_then (identity_made n) (λ c. Ok (c, []))

-- a row: at most 8 of them, and its function can be made
abbrev pub row_added : ℕ → List Row → Kind → ℕ → Result (List Row) Fault
row_added c rows kind p =
    refuse (nat_le 8 (length rows)) (fault TooMany Text 8)
    (and_then (row_made kind c p) (λ _. Ok (rows ++ record { kind = kind; parameter = p } ∷ [])))

abbrev pub function_laying : Laying Kind Row
function_laying = record { begun = bar_begun; added = row_added }

-- the cutting list of a text, or its first refusal
abbrev pub list_of : List ℕ → Result (CuttingList Row) Stop
list_of text = texts.list_of kind_words function_laying text
