-- Faults: the number of each refusal, and checks in their order.
use Rattle.std.specs.Prelude.{ℕ, Bool, cond, ◌||◌, Ok, Err, Result, nat_lt}
use Rattle.faults.specs.declared.Fault.{Fault}
use Rattle.faults.specs.declared.Layer.{Layer}
use Rattle.faults.specs.declared.Refusal.{Refusal}
use Rattle.faults.specs.declared.Refusal.TheVariants.{Capacity, Parameter, ImageCapacity, Size, CapacitiesDiffer, TooMany, NotThere, CountingBeneath, Steps, Finished, Spent, Malformed}

-- the number that stands for a refusal in every answer and on every printed line
abbrev pub number_of : Refusal → ℕ
number_of Capacity = 1
number_of Parameter = 2
number_of ImageCapacity = 3
number_of Size = 4
number_of CapacitiesDiffer = 5
number_of TooMany = 6
number_of NotThere = 7
number_of CountingBeneath = 8
number_of Steps = 9
number_of Finished = 10
number_of Spent = 11
number_of Malformed = 12

abbrev pub fault : Refusal → Layer → ℕ → Fault
fault r l n = record { refusal = r; layer = l; figure = n }

-- one check: the fault where the test holds, else what comes later
abbrev pub refuse : {X : Type 0} → Bool → Fault → Result X Fault → Result X Fault
refuse test f later = cond test (Err f) later

-- the number lies outside low to high
abbrev pub outside : ℕ → ℕ → ℕ → Bool
outside low high n = nat_lt n low || nat_lt high n

-- what a call made, by the parts that a rule names, or its fault
abbrev pub outcome : {X Y : Type 0} → (X → Y) → Result X Fault → Result Y Fault
outcome parts (Ok x) = Ok (parts x)
outcome parts (Err f) = Err f

-- whether a call declines, and how
abbrev pub checked : {X : Type 0} → Result X Fault → Result Unit Fault
checked r = outcome (λ _. tt) r

-- what is asked after an answer, or its fault
abbrev pub and_then : {X Y : Type 0} → Result X Fault → (X → Result Y Fault) → Result Y Fault
and_then (Ok x) next = next x
and_then (Err f) next = Err f

-- what a call leaves: the new, or, where it declines, what there was
abbrev pub kept_or : {X : Type 0} → X → Result X Fault → X
kept_or old (Ok new) = new
kept_or old (Err f) = old
