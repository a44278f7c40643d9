-- The words of the kinds of rows.
use Rattle.std.specs.Prelude.{ℕ, cond, List, [], ◌∷◌, Some, None, Option}
use Rattle.std.specs.Str.{bytes_eq}

-- each kind's word, and all kinds
pub record Words (K : Type 0) : Type 0 where
  pub word : K → List ℕ
  pub kinds : List K

-- the one of some things that the text spells
abbrev pub spelled : {X : Type 0} → (X → List ℕ) → List ℕ → List X → Option X
spelled spelling text [] = None
spelled spelling text (x ∷ more) = cond (bytes_eq text (spelling x)) (Some x) (spelled spelling text more)

-- the kind whose word the text is
abbrev pub kind_named : {K : Type 0} → Words K → List ℕ → Option K
kind_named kinds text = spelled kinds.word text kinds.kinds
