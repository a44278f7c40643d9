-- What the lines of a text say, one after the other.
use Rattle.std.specs.Prelude.{ℕ, List, [], ◌∷◌, ◌++◌, length, Some, None, Ok, Err, vec_items, Option, Result, nat_le}
use Rattle.faults.specs.declared.Fault.{Fault}
use Rattle.faults.specs.declared.Layer.TheVariants.{Text}
use Rattle.faults.specs.declared.Refusal.TheVariants.{Size, TooMany, Malformed}
use Rattle.faults.specs.Faults.{fault, refuse, outside, and_then}
use Rattle.lines.specs.declared.Word.{Word}
use Rattle.lines.specs.declared.Word.TheVariants.{Bar, Cut, Row as RowWord}
use Rattle.lines.specs.Lines.{entry_of}
use Rattle.lines.specs.Words.{Words}
use Rattle.listings.specs.Laying.{Laying}
use Rattle.listings.specs.declared.listing.Listing.{Listing}

-- the content of the lines so far: the bar's capacity, once there was a `bar` line, the cuts and the rows, in their order
pub record Content (Row : Type 0) : Type 0 where
  pub bar : Option ℕ
  pub cuts : List ℕ
  pub rows : List Row

-- the rows are there once the bar is read
abbrev pub bar_of : {R Row : Type 0} → (R → ℕ × List Row) → Option R → Option ℕ
bar_of seen None = None
bar_of seen (Some r) = Some (seen r).0

abbrev pub rows_on : {R Row : Type 0} → (R → ℕ × List Row) → Option R → List Row
rows_on seen None = []
rows_on seen (Some r) = (seen r).1

abbrev pub content : {R Row : Type 0} → (R → ℕ × List Row) → Listing R → Content Row
content seen l = record { bar = bar_of seen l.rows; cuts = vec_items l.cuts; rows = rows_on seen l.rows }

abbrev pub empty : {Row : Type 0} → Content Row
empty = record { bar = None; cuts = []; rows = [] }

-- refusal 12 with the line
abbrev pub malformed : ℕ → Fault
malformed l = fault Malformed Text l

-- bar n: what the rows begin with
abbrev pub bar_read : {Kind Row : Type 0} → Laying Kind Row → ℕ → Content Row → Result (Content Row) Fault
bar_read laying n s = and_then (laying.begun n) (λ p. Ok (record { bar = Some p.0; cuts = s.cuts; rows = p.1 }))

-- cut n: a size from 1 to the capacity, and at most 64 of them
abbrev pub cut_read : {Row : Type 0} → ℕ → ℕ → Content Row → Result (Content Row) Fault
cut_read c n s =
    refuse (outside 1 c n) (fault Size Text n)
    (refuse (nat_le 64 (length s.cuts)) (fault TooMany Text 64) (Ok (record { bar = s.bar; cuts = s.cuts ++ n ∷ []; rows = s.rows })))

-- a row: one more after the others
abbrev pub row_read : {Kind Row : Type 0} → Laying Kind Row → ℕ → Kind → ℕ → Content Row → Result (Content Row) Fault
row_read laying c kind n s =
    and_then (laying.added c s.rows kind n) (λ rows. Ok (record { bar = s.bar; cuts = s.cuts; rows = rows }))

-- a word and its number on line l: `bar` comes first and once only
abbrev pub word_read : {Kind Row : Type 0} → Laying Kind Row → ℕ → Option ℕ → Word Kind → ℕ → Content Row → Result (Content Row) Fault
word_read laying l None Bar n s = bar_read laying n s
word_read laying l None Cut n s = Err (malformed l)
word_read laying l None (RowWord kind) n s = Err (malformed l)
word_read laying l (Some c) Bar n s = Err (malformed l)
word_read laying l (Some c) Cut n s = cut_read c n s
word_read laying l (Some c) (RowWord kind) n s = row_read laying c kind n s

abbrev pub entry_read : {Kind Row : Type 0} → Laying Kind Row → ℕ → Option (Word Kind × ℕ) → Content Row → Result (Content Row) Fault
entry_read laying l None s = Err (malformed l)
entry_read laying l (Some e) s = word_read laying l s.bar e.0 e.1 s

-- line l
abbrev pub line_read : {Kind Row : Type 0} → Words Kind → Laying Kind Row → ℕ → List ℕ → Content Row → Result (Content Row) Fault
line_read words laying l line s = entry_read laying l (entry_of words line) s

-- what a call that reads something leaves behind
abbrev pub left : {X E Row : Type 0} → Result X E → Content Row → Result (Content Row) E
left (Ok x) s = Ok s
left (Err e) s = Err e
