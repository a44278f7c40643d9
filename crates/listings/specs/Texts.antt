-- What a whole text says.
use Rattle.std.specs.Prelude.{ℕ, ◌+◌, Bool, cond, List, [], ◌∷◌, ◌++◌, length, Some, None, Ok, Err, Option, Result, ◌==◌, nat_lt}
use Rattle.faults.specs.declared.Fault.{Fault}
use Rattle.lines.specs.Words.{Words}
use Rattle.listings.specs.Laying.{Laying}
use Rattle.listings.specs.declared.reading.Stop.{Stop}
use Rattle.listings.specs.Listings.{Content, empty, malformed, line_read}

-- a text is refused at a line
abbrev pub stop : Fault → ℕ → Stop
stop f l = record { fault = f; line = l }

abbrev pub malformed_at_line : ℕ → Stop
malformed_at_line l = stop (malformed l) l

-- an answer of line l, with the line where it is refused
abbrev pub stopped : {X : Type 0} → ℕ → Result X Fault → Result X Stop
stopped l (Ok x) = Ok x
stopped l (Err f) = Err (stop f l)

-- the content after line l, unless that line is refused
abbrev pub go_on : {Row : Type 0} → Result (Content Row) Fault → ℕ → (Content Row → Result (Content Row) Stop) → Result (Content Row) Stop
go_on (Ok s) l next = next s
go_on (Err f) l next = Err (stop f l)

-- byte 10 ends a line
abbrev pub ends_line : ℕ → Bool
ends_line b = b == 10

-- the content after the bytes to come, where the lines before have the content s, and line l has begun with the bytes
-- `line`; a text ends with the end of a line
abbrev pub scanned : {Kind Row : Type 0} → Words Kind → Laying Kind Row → ℕ → Content Row → List ℕ → List ℕ → Result (Content Row) Stop
scanned words laying l s line [] = cond (length line == 0) (Ok s) (Err (malformed_at_line l))
scanned words laying l s line (b ∷ bytes) =
    cond (ends_line b)
    (go_on (line_read words laying l line s) l (λ t. scanned words laying (l + 1) t [] bytes))
    (scanned words laying l s (line ++ b ∷ []) bytes)

-- the capacity of the bars, the sizes to cut and the rows to bound with
pub record CuttingList (Row : Type 0) : Type 0 where
  pub capacity : ℕ
  pub cuts : List ℕ
  pub rows : List Row

-- a text with no `bar` line is refused at line 1
abbrev pub with_bar : {Row : Type 0} → Option ℕ → Content Row → Result (CuttingList Row) Stop
with_bar None s = Err (malformed_at_line 1)
with_bar (Some c) s = Ok (record { capacity = c; cuts = s.cuts; rows = s.rows })

abbrev pub whole : {Row : Type 0} → Result (Content Row) Stop → Result (CuttingList Row) Stop
whole (Ok s) = with_bar s.bar s
whole (Err e) = Err e

-- the cutting list of a text that comes after the content s, or the first refusal in the order of its lines; more than 65,536
-- bytes are refused at line 0
abbrev pub list_from : {Kind Row : Type 0} → Words Kind → Laying Kind Row → Content Row → List ℕ → Result (CuttingList Row) Stop
list_from words laying s text =
    cond (nat_lt 65536 (length text)) (Err (malformed_at_line 0)) (whole (scanned words laying 1 s [] text))

abbrev pub list_of : {Kind Row : Type 0} → Words Kind → Laying Kind Row → List ℕ → Result (CuttingList Row) Stop
list_of words laying text = list_from words laying empty text

-- what a call that reads a text leaves behind, where it answers the rows
abbrev pub listed : {R Row : Type 0} → (R → ℕ × List Row) → Result R Stop → List ℕ → Result (CuttingList Row) Stop
listed seen (Ok r) cuts = Ok (record { capacity = (seen r).0; cuts = cuts; rows = (seen r).1 })
listed seen (Err e) cuts = Err e
