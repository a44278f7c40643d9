-- How a list of lines is written as a text, and what the reading of a text has to do with it.
use Rattle.std.specs.Prelude.{◌≡◌, ℕ, ◌+◌, ◌^◌, ◌<◌, ◌≤◌, List, [], ◌∷◌, ◌++◌, length, Some, Ok, decimal, Result}
use Rattle.std.specs.List.{flat_map, AllByRecursion}
use Rattle.lines.specs.declared.Word.{Word}
use Rattle.lines.specs.Lines.{spelling}
use Rattle.lines.specs.Words.{Words}
use Rattle.listings.specs.Laying.{Laying}
use Rattle.listings.specs.Listings.{Content, empty, entry_read}
use Rattle.listings.specs.Texts.{CuttingList, go_on, whole, list_of}
use Rattle.listings.specs.declared.reading.Stop.{Stop}

-- a word, one blank, a number in decimal, and byte 10
abbrev pub line_written : {Kind : Type 0} → Words Kind → Word Kind × ℕ → List ℕ
line_written words e = spelling words e.0 ++ (32 ∷ (decimal e.1 ++ (10 ∷ [])))

abbrev pub written : {Kind : Type 0} → Words Kind → List (Word Kind × ℕ) → List ℕ
written words lines = flat_map (line_written words) lines

-- numbers have at most 10 digits
abbrev pub Short : {Kind : Type 0} → List (Word Kind × ℕ) → Type 0
Short {Kind} lines = AllByRecursion (λ (e : Word Kind × ℕ). e.1 < 10 ^ 10) lines

-- the content after some lines, where s comes before them and the first of them is line l
abbrev pub lines_read : {Kind Row : Type 0} → Laying Kind Row → ℕ → List (Word Kind × ℕ) → Content Row → Result (Content Row) Stop
lines_read laying l [] s = Ok s
lines_read laying l (e ∷ lines) s = go_on (entry_read laying l (Some e) s) l (λ t. lines_read laying (l + 1) lines t)

-- the reading of a text is that of its lines, and a text that is not refused is nothing but its lines
pub record ReadAsWritten {Kind Row : Type 0} (words : Words Kind) (laying : Laying Kind Row) (text : List ℕ) : Type 0 where
  pub reads : (lines : List (Word Kind × ℕ)) → Short lines → text ≡ written words lines → length text ≤ 65536 → list_of words laying text ≡ whole (lines_read laying 1 lines empty)
  pub nothing_else : (l : CuttingList Row) → list_of words laying text ≡ Ok l → (lines : List (Word Kind × ℕ)) × Short lines × (text ≡ written words lines)
