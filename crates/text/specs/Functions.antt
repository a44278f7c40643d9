-- The function that a row names, once it is made.
use Rattle.std.specs.Prelude.{ℕ, Bool, true, ◌&&◌, List, [], ◌∷◌, Ok, Result, ◌==◌}
use Rattle.faults.specs.declared.Fault.{Fault}
use Rattle.faults.specs.Faults.{and_then}
use Rattle.text.specs.Rows.{row_made, row_image, row_value}
use Rattle.text.specs.declared.function.Function.{Function}
use Rattle.text.specs.declared.function.Function.TheVariants.{Threshold as OfThreshold, Rounding as OfRounding, Division as OfDivision, Counting as OfCounting}
use Rattle.text.specs.declared.kinds.Kind.{Kind}
use Rattle.text.specs.declared.kinds.Kind.TheVariants.{Threshold, Rounding, Division, Counting}
use Rattle.text.specs.declared.kinds.Row.{Row}

abbrev pub function_capacity : Function → ℕ
function_capacity (OfThreshold f) = f.capacity
function_capacity (OfRounding f) = f.capacity
function_capacity (OfDivision f) = f.capacity
function_capacity (OfCounting f) = f.capacity

-- the row that names it
abbrev pub function_row : Function → Row
function_row (OfThreshold f) = record { kind = Threshold; parameter = f.parameter }
function_row (OfRounding f) = record { kind = Rounding; parameter = f.parameter }
function_row (OfDivision f) = record { kind = Division; parameter = f.parameter }
function_row (OfCounting f) = record { kind = Counting; parameter = f.parameter }

abbrev pub function_image : Function → ℕ
function_image f = row_image (function_row f).kind (function_capacity f) (function_row f).parameter

abbrev pub function_value : Function → ℕ → ℕ
function_value f = row_value (function_row f).kind (function_capacity f) (function_row f).parameter

-- what making it answers: its capacity and its row
abbrev pub function_made : ℕ → Kind → ℕ → Result (ℕ × Row) Fault
function_made c kind p = and_then (row_made kind c p) (λ _. Ok (c, record { kind = kind; parameter = p }))

-- all are made for the capacity c
abbrev pub all_for : ℕ → List Function → Bool
all_for c [] = true
all_for c (f ∷ functions) = function_capacity f == c && all_for c functions
