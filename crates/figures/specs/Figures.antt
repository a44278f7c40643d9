-- Figures worked out by hand: what a definition gives, and what was worked out.
use Rattle.std.specs.Prelude.{◌≡◌, ℕ, List, [], ◌∷◌, replicate}
use Rattle.std.specs.List.{AllByRecursion}
use Rattle.bounds.specs.Bounds.{bound}
use Rattle.functions.specs.Values.{identity, threshold, rounding, counting, rounding_image, counting_image}

abbrev pub figures : List (ℕ × ℕ)
figures =
    -- threshold 4 at capacity 10
    (threshold 10 4 3, 0)
    ∷ (threshold 10 4 4, 4)
    ∷ (threshold 10 4 6, 6)
    ∷ (threshold 10 4 7, 10)
    -- rounding 2 at capacity 10
    ∷ (rounding 10 2 3, 0)
    ∷ (rounding 10 2 4, 10)
    ∷ (rounding 10 2 7, 20)
    ∷ (rounding 10 2 10, 20)
    ∷ (rounding_image 10 2, 20)
    -- counting 3 at capacity 10
    ∷ (counting 10 3 2, 0)
    ∷ (counting 10 3 5, 1)
    ∷ (counting 10 3 6, 2)
    ∷ (counting 10 3 8, 3)
    ∷ (counting_image 10 3, 3)
    -- five pieces of 4 at capacity 10, by the identity and by rounding 2
    ∷ (bound 10 identity (replicate 5 4), 2)
    ∷ (bound (rounding_image 10 2) (rounding 10 2) (replicate 5 4), 3)
    -- seven pieces of 31 at capacity 60, by threshold 30
    ∷ (bound 60 (threshold 60 30) (replicate 7 31), 7)
    ∷ []

-- each figure is what the definition gives
abbrev pub Agrees : List (ℕ × ℕ) → Type 0
Agrees table = AllByRecursion (λ (f : ℕ × ℕ). f.0 ≡ f.1) table
