-- The kinds of rows and their numbers.
use Rattle.std.specs.Prelude.{◌≡◌, ℕ, Bool, true, false, cond, List, [], ◌∷◌, Some, None, Option, Result, MatchResult, ◌==◌}
use Rattle.piles.specs.declared.rows.Kind.{Kind}
use Rattle.piles.specs.declared.rows.Kind.TheVariants.{Threshold, Rounding, Division, Counting, Symmetrisation, Scaling}
use Rattle.piles.specs.declared.rows.UnknownKind.{UnknownKind}

-- the number that stands for a kind in every call
abbrev pub kind_number : Kind → ℕ
kind_number Threshold = 1
kind_number Rounding = 2
kind_number Division = 3
kind_number Counting = 4
kind_number Symmetrisation = 5
kind_number Scaling = 6

abbrev pub kinds : List Kind
kinds = Threshold ∷ Rounding ∷ Division ∷ Counting ∷ Symmetrisation ∷ Scaling ∷ []

-- the one of the kinds that has the number n
abbrev pub numbered : ℕ → List Kind → Option Kind
numbered n [] = None
numbered n (kind ∷ more) = cond (n == kind_number kind) (Some kind) (numbered n more)

abbrev pub kind_of : ℕ → Option Kind
kind_of n = numbered n kinds

-- the answer r is the kind that has the number n, or n itself as an error where no kind has it
abbrev pub Numbers : ℕ → Result Kind UnknownKind → Type 0
Numbers n r = MatchResult r (λ kind. kind_of n ≡ Some kind) (λ e. (kind_of n ≡ None) × (e.0 ≡ n))

abbrev pub symmetrises : Kind → Bool
symmetrises Threshold = false
symmetrises Rounding = false
symmetrises Division = false
symmetrises Counting = false
symmetrises Symmetrisation = true
symmetrises Scaling = false

abbrev pub counts : Kind → Bool
counts Threshold = false
counts Rounding = false
counts Division = false
counts Counting = true
counts Symmetrisation = false
counts Scaling = false
