-- What the steps of a pile keep to. A step is a row with the image capacity beneath it.
use Rattle.std.specs.Prelude.{ℕ, ◌-◌, Bool, true, false, cond, not, ◌&&◌, ◌||◌, List, [], ◌∷◌, map, Some, None, Option, ◌==◌}
use Rattle.piles.specs.Kinds.{symmetrises, counts}
use Rattle.piles.specs.Layered.{image_over_kind}
use Rattle.piles.specs.declared.rows.Row.{Row}
use Rattle.piles.specs.declared.rows.Step.{Step}

abbrev pub rows_of : List Step → List Row
rows_of steps = map (λ (step : Step). step.row) steps

-- each step, whose row is accepted over the image capacity that it names, names the one beneath it, which is d at the
-- lowest
abbrev pub stands : ℕ → List Step → Bool
stands d [] = true
stands d (step ∷ steps) = step.below == d && stands (image_over_kind step.row.kind d step.row.parameter) steps

-- no symmetrisation lies over a counting row; `seen` says whether one lies beneath
abbrev pub unmixed : Bool → List Row → Bool
unmixed seen [] = true
unmixed seen (row ∷ rows) = not (symmetrises row.kind && seen) && unmixed (seen || counts row.kind) rows

-- no row symmetrises
abbrev pub plain : List Row → Bool
plain [] = true
plain (row ∷ rows) = not (symmetrises row.kind) && plain rows

-- row i symmetrises, and none above it does
abbrev pub top_at : ℕ → List Row → Bool
top_at i [] = false
top_at i (row ∷ rows) = cond (i == 0) (symmetrises row.kind && plain rows) (top_at (i - 1) rows)

-- the number of the topmost symmetrisation, if there is one
abbrev pub topmost : Option ℕ → List Row → Bool
topmost None rows = plain rows
topmost (Some i) rows = top_at i rows
