-- What the words of a text's rows have to be.
use Rattle.std.specs.Prelude.{◌≡◌, ℕ, Bool, true, not, ◌&&◌, List, [], ◌∷◌, Some, ◌==◌}
use Rattle.lines.specs.Words.{Words}
use Rattle.lines.specs.Lines.{word_of}
use Rattle.lines.specs.declared.Word.TheVariants.{Row}

-- no byte is a blank, and none ends a line
abbrev pub unbroken : List ℕ → Bool
unbroken [] = true
unbroken (b ∷ bytes) = not (b == 32) && (not (b == 10) && unbroken bytes)

-- each kind's word names that kind and is neither `bar` nor `cut`, and it is one word of one line
pub record AreWords {K : Type 0} (kinds : Words K) : Type 0 where
  pub told : (k : K) → word_of kinds (kinds.word k) ≡ Some (Row k)
  pub whole : (k : K) → unbroken (kinds.word k) ≡ true
