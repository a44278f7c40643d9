-- The layered function of a list of rows, the lowest row first, by the definitions of the functions and layers themselves.
use Rattle.std.specs.Prelude.{ℕ, List, [], ◌∷◌}
use Rattle.functions.specs.Values.{identity, threshold, rounding, division, counting, rounding_image, division_image, counting_image}
use Rattle.layers.specs.Layers.{composed, symmetrised, symmetrised_image, scaled}
use Rattle.piles.specs.declared.rows.Kind.{Kind}
use Rattle.piles.specs.declared.rows.Kind.TheVariants.{Threshold, Rounding, Division, Counting, Symmetrisation, Scaling}
use Rattle.piles.specs.declared.rows.Row.{Row}

-- the image capacity of a row of a kind with the parameter p, laid over an image capacity d
abbrev pub image_over_kind : Kind → ℕ → ℕ → ℕ
image_over_kind Threshold d p = d
image_over_kind Rounding d p = rounding_image d p
image_over_kind Division d p = division_image d p
image_over_kind Counting d p = counting_image d p
image_over_kind Symmetrisation d p = symmetrised_image d
image_over_kind Scaling d p = p

-- the values of a row laid over a function with the capacity c, the image capacity d and the values v: the first four
-- kinds are functions made for d and composed over it, the other two are layers
abbrev pub value_over : Kind → ℕ → ℕ → ℕ → (ℕ → ℕ) → ℕ → ℕ
value_over Threshold c d p v = composed d (threshold d p) d v
value_over Rounding c d p v = composed d (rounding d p) d v
value_over Division c d p v = composed d (division p) d v
value_over Counting c d p v = composed d (counting d p) d v
value_over Symmetrisation c d p v = symmetrised c d v
value_over Scaling c d p v = scaled d p v

-- the image capacity of rows over an image capacity d
abbrev pub image_of : ℕ → List Row → ℕ
image_of d [] = d
image_of d (row ∷ rows) = image_of (image_over_kind row.kind d row.parameter) rows

-- the values of rows over a function with the capacity c, the image capacity d and the values v
abbrev pub values_of : ℕ → ℕ → (ℕ → ℕ) → List Row → ℕ → ℕ
values_of c d v [] = v
values_of c d v (row ∷ rows) =
    values_of c (image_over_kind row.kind d row.parameter) (value_over row.kind c d row.parameter v) rows

-- The layered function of rows for the capacity c stands on the identity, whose image capacity is c too.
abbrev pub layered_image : ℕ → List Row → ℕ
layered_image c rows = image_of c rows

abbrev pub layered : ℕ → List Row → ℕ → ℕ
layered c rows = values_of c c identity rows
