-- The words of the rows that each name a function.
use Rattle.std.specs.Prelude.{ℕ, List, [], ◌∷◌, codes, refl}
use Rattle.lines.specs.Words.{Words}
use Rattle.lines.specs.Told.{AreWords}
use Rattle.text.specs.declared.kinds.Kind.{Kind}
use Rattle.text.specs.declared.kinds.Kind.TheVariants.{Threshold, Rounding, Division, Counting}

-- how each kind is spelled
abbrev pub kind_word : Kind → List ℕ
kind_word Threshold = codes "threshold"
kind_word Rounding = codes "rounding"
kind_word Division = codes "division"
kind_word Counting = codes "counting"

abbrev pub kind_words : Words Kind
kind_words = record { word = kind_word; kinds = Threshold ∷ Rounding ∷ Division ∷ Counting ∷ [] }

pub kinds_told : AreWords kind_words
kinds_told =
    record {
      told = elim [ Threshold ↦ refl | Rounding ↦ refl | Division ↦ refl | Counting ↦ refl ];
      whole = elim [ Threshold ↦ refl | Rounding ↦ refl | Division ↦ refl | Counting ↦ refl ];
    }
