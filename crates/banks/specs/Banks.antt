-- Banks: a capacity c and piles of that capacity, each by its rows.
use Rattle.std.specs.Prelude.{ℕ, Bool, true, not, ◌&&◌, List, [], ◌∷◌, ◌++◌, map, length, is_ok, Ok, Option, Result, ◌==◌, nat_le}
use Rattle.faults.specs.declared.Fault.{Fault}
use Rattle.faults.specs.declared.Layer.TheVariants.{Bound}
use Rattle.faults.specs.declared.Refusal.TheVariants.{CapacitiesDiffer, TooMany}
use Rattle.faults.specs.Faults.{fault, refuse}
use Rattle.dual_feasible.specs.Answers.{capacity_check}
use Rattle.piles.specs.Layered.{layered, layered_image}
use Rattle.piles.specs.Laying.{pile_of}
use Rattle.piles.specs.declared.rows.Row.{Row}
use Rattle.bounds.specs.Bounds.{bound}
use Rattle.banks.specs.Best.{greatest_of, best_of}

-- the bound of one pile
abbrev pub pile_bound : ℕ → List ℕ → List Row → ℕ
pile_bound c list rows = bound (layered_image c rows) (layered c rows) list

-- the bounds of all piles, in their order
abbrev pub pile_bounds : ℕ → List (List Row) → List ℕ → List ℕ
pile_bounds c piles list = map (pile_bound c list) piles

-- a bank's number for a list: the greatest of the bounds of its piles, 0 if it holds none
abbrev pub bank_number : ℕ → List (List Row) → List ℕ → ℕ
bank_number c piles list = greatest_of (pile_bounds c piles list)

-- the number of its best pile for a list, from 0
abbrev pub best_pile_of : ℕ → List (List Row) → List ℕ → Option ℕ
best_pile_of c piles list = best_of (pile_bounds c piles list)

-- both together
abbrev pub surveyed : ℕ → List (List Row) → List ℕ → ℕ × Option ℕ
surveyed c piles list = (bank_number c piles list, best_pile_of c piles list)

-- a new bank, for a capacity from 1 to 1,000,000,000, else 1: its capacity and its piles
abbrev pub bank_made : ℕ → Result (ℕ × List (List Row)) Fault
bank_made c = capacity_check Bound c (Ok (c, []))

-- a bank holds at most this many piles
abbrev pub most_piles : ℕ
most_piles = 8

-- the piles after one more, with the capacity d: 5 with d where it is not the bank's, then 6 for a ninth
abbrev pub pile_added : ℕ → List (List Row) → ℕ → List Row → Result (List (List Row)) Fault
pile_added c piles d rows =
    refuse (not (c == d)) (fault CapacitiesDiffer Bound d)
    (refuse (nat_le most_piles (length piles)) (fault TooMany Bound most_piles) (Ok (piles ++ rows ∷ [])))

-- each pile's rows can be laid for the capacity
abbrev pub all_made : ℕ → List (List Row) → Bool
all_made c [] = true
all_made c (rows ∷ piles) = is_ok (pile_of c rows) && all_made c piles
