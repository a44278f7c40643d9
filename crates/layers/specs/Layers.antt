-- The three layers: what each makes of the functions that it takes. A layer's meaning is total: where making it would have
-- been refused it is 0 everywhere, and its image capacity stays in range.
use Rattle.std.specs.Prelude.{ℕ, ◌-◌, ◌*◌, ◌/◌, Bool, cond, not, Ok, Result, ◌==◌, nat_le, nat_lt}
use Rattle.faults.specs.declared.Fault.{Fault}
use Rattle.faults.specs.declared.Layer.TheVariants.{Function}
use Rattle.faults.specs.declared.Refusal.TheVariants.{Parameter, ImageCapacity, CapacitiesDiffer}
use Rattle.faults.specs.Faults.{fault, refuse, outside}
use Rattle.dual_feasible.specs.Laws.{greatest}

-- Composition of an outer function with the capacity c and the values w over an inner one with the image capacity d and
-- the values v: the outer's value at the inner's value. The capacity is the inner's, the image capacity the outer's.
abbrev pub composed : ℕ → (ℕ → ℕ) → ℕ → (ℕ → ℕ) → ℕ → ℕ
composed c w d v s = cond (c == d) (w (v s)) 0

-- refusal 5 with the inner's image capacity d where it is not the outer's capacity c
abbrev pub composition_made : {X : Type 0} → ℕ → ℕ → X → Result X Fault
composition_made c d x = refuse (not (c == d)) (fault CapacitiesDiffer Function d) (Ok x)

-- Symmetrisation of a function with the capacity c, the image capacity d and the values v: twice the value below half of
-- c, d at the half, and above it what the rest of the bar leaves of 2 × d.
abbrev pub mirrored : ℕ → ℕ → (ℕ → ℕ) → ℕ → ℕ
mirrored c d v s = cond (nat_lt (2 * s) c) (2 * v s) (cond (2 * s == c) d (2 * d - 2 * v (c - s)))

abbrev pub symmetrised : ℕ → ℕ → (ℕ → ℕ) → ℕ → ℕ
symmetrised c d v s = cond (nat_le (2 * d) greatest) (mirrored c d v s) 0

-- twice d, where that is in range
abbrev pub symmetrised_image : ℕ → ℕ
symmetrised_image d = cond (nat_le (2 * d) greatest) (2 * d) d

-- refusal 3 with the capacity c where 2 × d is above 1,000,000,000
abbrev pub symmetrisation_made : {X : Type 0} → ℕ → ℕ → X → Result X Fault
symmetrisation_made c d x = refuse (nat_lt greatest (2 * d)) (fault ImageCapacity Function c) (Ok x)

-- Scaling to m of a function with the image capacity d and the values v; m is the image capacity.
abbrev pub scaled : ℕ → ℕ → (ℕ → ℕ) → ℕ → ℕ
scaled d m v s = v s * m / d

abbrev pub scaling_outside : ℕ → Bool
scaling_outside m = outside 1 greatest m

-- refusal 2 with m where it is outside 1 to 1,000,000,000
abbrev pub scaling_made : {X : Type 0} → ℕ → X → Result X Fault
scaling_made m x = refuse (scaling_outside m) (fault Parameter Function m) (Ok x)
