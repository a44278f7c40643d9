-- Figures of layers, worked out by hand: what a definition gives, and what was worked out.
use Rattle.std.specs.Prelude.{ℕ, List, [], ◌∷◌}
use Rattle.functions.specs.Values.{identity, division, division_image}
use Rattle.layers.specs.Layers.{symmetrised, symmetrised_image, scaled}

abbrev pub layer_figures : List (ℕ × ℕ)
layer_figures =
    -- division 3 at capacity 10, symmetrised
    (symmetrised 10 (division_image 10 3) (division 3) 4, 2)
    ∷ (symmetrised 10 (division_image 10 3) (division 3) 5, 3)
    ∷ (symmetrised 10 (division_image 10 3) (division 3) 6, 4)
    ∷ (symmetrised 10 (division_image 10 3) (division 3) 8, 6)
    ∷ (symmetrised_image (division_image 10 3), 6)
    -- the identity at capacity 10, scaled to 5
    ∷ (scaled 10 5 identity 7, 3)
    ∷ []
