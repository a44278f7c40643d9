-- What one line says.
use Rattle.std.specs.Prelude.{ℕ, ◌+◌, ◌-◌, ◌*◌, Bool, false, cond, not, ◌&&◌, ◌||◌, List, [], ◌∷◌, length, take, drop, Some, None, codes, Option, ◌==◌, nat_lt}
use Rattle.std.specs.List.{prefix_len}
use Rattle.std.specs.Str.{bytes_eq}
use Rattle.lines.specs.Words.{Words, kind_named}
use Rattle.lines.specs.declared.Word.{Word}
use Rattle.lines.specs.declared.Word.TheVariants.{Bar, Cut, Row}

-- how each word is spelled
abbrev pub spelling : {K : Type 0} → Words K → Word K → List ℕ
spelling kinds Bar = codes "bar"
spelling kinds Cut = codes "cut"
spelling kinds (Row k) = kinds.word k

-- a row of the kind, if there is one
abbrev pub row_of : {K : Type 0} → Option K → Option (Word K)
row_of None = None
row_of (Some k) = Some (Row k)

-- the word that the text spells
abbrev pub word_of : {K : Type 0} → Words K → List ℕ → Option (Word K)
word_of kinds text =
    cond (bytes_eq text (codes "bar")) (Some Bar)
    (cond (bytes_eq text (codes "cut")) (Some Cut) (row_of (kind_named kinds text)))

-- the number of which n is read and the digits are to come; the bytes 48 to 57 are the digits 0 to 9
abbrev pub digits_from : ℕ → List ℕ → Option ℕ
digits_from n [] = Some n
digits_from n (b ∷ bytes) = cond (nat_lt b 48 || nat_lt 57 b) None (digits_from (n * 10 + (b - 48)) bytes)

-- 1 to 10 bytes, of which the first is no 0 unless it is the only one
abbrev pub in_form : List ℕ → Bool
in_form [] = false
in_form (b ∷ bytes) = nat_lt (length bytes) 10 && (not (b == 48) || length bytes == 0)

abbrev pub numeral : List ℕ → Option ℕ
numeral bytes = cond (in_form bytes) (digits_from 0 bytes) None

-- byte 32 is the blank
abbrev pub is_blank : ℕ → Bool
is_blank b = b == 32

abbrev pub not_blank : ℕ → Bool
not_blank b = not (is_blank b)

abbrev pub both : {X Y : Type 0} → Option X → Option Y → Option (X × Y)
both None y = None
both (Some x) None = None
both (Some x) (Some y) = Some (x, y)

-- what stands before the first blank is the word, and what stands after it the number
abbrev pub entry_of : {K : Type 0} → Words K → List ℕ → Option (Word K × ℕ)
entry_of kinds line =
    both (word_of kinds (take (prefix_len not_blank line) line)) (numeral (drop (prefix_len not_blank line + 1) line))
