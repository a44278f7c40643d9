-- What laying a row on a pile answers.
use Rattle.std.specs.Prelude.{ℕ, ◌*◌, Bool, false, not, ◌&&◌, ◌||◌, List, [], ◌∷◌, ◌++◌, length, Some, None, Ok, Err, Option, Result, ◌==◌, nat_le, nat_lt}
use Rattle.faults.specs.declared.Fault.{Fault}
use Rattle.faults.specs.declared.Layer.TheVariants.{Pile}
use Rattle.faults.specs.declared.Refusal.TheVariants.{Parameter, ImageCapacity, TooMany, CountingBeneath}
use Rattle.faults.specs.Faults.{fault, refuse, and_then}
use Rattle.dual_feasible.specs.Answers.{capacity_check}
use Rattle.dual_feasible.specs.Laws.{greatest}
use Rattle.functions.specs.Made.{threshold_outside, rounding_outside, division_outside, counting_outside}
use Rattle.functions.specs.Values.{rounding_image}
use Rattle.layers.specs.Layers.{scaling_outside}
use Rattle.piles.specs.Kinds.{kind_number, kind_of, symmetrises, counts}
use Rattle.piles.specs.Layered.{layered_image}
use Rattle.piles.specs.declared.rows.Kind.{Kind}
use Rattle.piles.specs.declared.rows.Kind.TheVariants.{Threshold, Rounding, Division, Counting, Symmetrisation, Scaling}
use Rattle.piles.specs.declared.rows.Row.{Row}

-- a pile has at most this many rows
abbrev pub most_rows : ℕ
most_rows = 8

-- the parameter p is outside its range, over an image capacity d
abbrev pub parameter_outside : Kind → ℕ → ℕ → Bool
parameter_outside Threshold d p = threshold_outside d p
parameter_outside Rounding d p = rounding_outside p
parameter_outside Division d p = division_outside d p
parameter_outside Counting d p = counting_outside d p
parameter_outside Symmetrisation d p = not (p == 0)
parameter_outside Scaling d p = scaling_outside p

-- the image capacity over d would be above 1,000,000,000
abbrev pub image_outside : Kind → ℕ → ℕ → Bool
image_outside Threshold d p = false
image_outside Rounding d p = nat_lt greatest (rounding_image d p)
image_outside Division d p = false
image_outside Counting d p = false
image_outside Symmetrisation d p = nat_lt greatest (2 * d)
image_outside Scaling d p = false

-- a row of the kind with the parameter p may be laid over an image capacity d
abbrev pub accepted : Kind → ℕ → ℕ → Bool
accepted kind d p = not (parameter_outside kind d p) && not (image_outside kind d p)

-- some row counts
abbrev pub counting_among : List Row → Bool
counting_among [] = false
counting_among (row ∷ rows) = counts row.kind || counting_among rows

-- the rows after one more of a known kind: 2, then 8, then 3, each with the number of the row being laid, from 0
abbrev pub row_laid : ℕ → List Row → Option Kind → ℕ → Result (List Row) Fault
row_laid c rows None p = Err (fault Parameter Pile (length rows))
row_laid c rows (Some kind) p =
    refuse (parameter_outside kind (layered_image c rows) p) (fault Parameter Pile (length rows))
    (refuse (symmetrises kind && counting_among rows) (fault CountingBeneath Pile (length rows))
    (refuse (image_outside kind (layered_image c rows) p) (fault ImageCapacity Pile (length rows))
    (Ok (rows ++ record { kind = kind; parameter = p } ∷ []))))

-- the rows of a pile for the capacity c after laying one of kind number n with the parameter p; a ninth row is 6
abbrev pub laid : ℕ → List Row → ℕ → ℕ → Result (List Row) Fault
laid c rows n p = refuse (nat_le most_rows (length rows)) (fault TooMany Pile most_rows) (row_laid c rows (kind_of n) p)

-- the rows after laying some more, one after the other
abbrev pub all_laid : ℕ → List Row → List Row → Result (List Row) Fault
all_laid c rows [] = Ok rows
all_laid c rows (row ∷ more) = and_then (laid c rows (kind_number row.kind) row.parameter) (λ next. all_laid c next more)

-- a new pile, for a capacity from 1 to 1,000,000,000, else 1: its capacity and its rows
abbrev pub pile_made : ℕ → Result (ℕ × List Row) Fault
pile_made c = capacity_check Pile c (Ok (c, []))

-- the pile of a list of rows
abbrev pub pile_of : ℕ → List Row → Result (ℕ × List Row) Fault
pile_of c rows = capacity_check Pile c (and_then (all_laid c [] rows) (λ all. Ok (c, all)))
