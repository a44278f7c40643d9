-- A text whose rows are laid on a pile.
use Rattle.std.specs.Prelude.{ℕ, List, Result}
use Rattle.listings.specs.Laying.{Laying}
use Rattle.listings.specs.Texts as texts
use Rattle.listings.specs.Texts.{CuttingList}
use Rattle.listings.specs.declared.reading.Stop.{Stop}
use Rattle.piles.specs.Kinds.{kind_number}
use Rattle.piles.specs.Laying.{pile_made, laid}
use Rattle.piles.specs.declared.rows.Kind.{Kind}
use Rattle.piles.specs.declared.rows.Row.{Row}
use Rattle.pile_text.specs.Kinds.{kind_words}

-- the bar begins a pile, and each row is one more on it
abbrev pub pile_laying : Laying Kind Row
pile_laying = record { begun = pile_made; added = λ c rows kind p. laid c rows (kind_number kind) p }

-- the cutting list of a text, or its first refusal
abbrev pub list_of : List ℕ → Result (CuttingList Row) Stop
list_of text = texts.list_of kind_words pile_laying text
