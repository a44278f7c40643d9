-- The words of the rows that are laid on a pile.
use Rattle.std.specs.Prelude.{ℕ, List, codes, refl}
use Rattle.lines.specs.Told.{AreWords}
use Rattle.lines.specs.Words.{Words}
use Rattle.piles.specs.Kinds.{kinds}
use Rattle.piles.specs.declared.rows.Kind.{Kind}
use Rattle.piles.specs.declared.rows.Kind.TheVariants.{Threshold, Rounding, Division, Counting, Symmetrisation, Scaling}

-- how each kind is spelled
abbrev pub kind_word : Kind → List ℕ
kind_word Threshold = codes "threshold"
kind_word Rounding = codes "rounding"
kind_word Division = codes "division"
kind_word Counting = codes "counting"
kind_word Symmetrisation = codes "symmetrise"
kind_word Scaling = codes "scale"

abbrev pub kind_words : Words Kind
kind_words = record { word = kind_word; kinds = kinds }

pub kinds_told : AreWords kind_words
kinds_told =
    record {
      told = elim [ Threshold ↦ refl | Rounding ↦ refl | Division ↦ refl | Counting ↦ refl | Symmetrisation ↦ refl | Scaling ↦ refl ];
      whole = elim [ Threshold ↦ refl | Rounding ↦ refl | Division ↦ refl | Counting ↦ refl | Symmetrisation ↦ refl | Scaling ↦ refl ];
    }
