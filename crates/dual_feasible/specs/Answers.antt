-- What a function answers when it is made or asked.
use Rattle.std.specs.Prelude.{ℕ, Ok, Result, nat_lt}
use Rattle.faults.specs.declared.Fault.{Fault}
use Rattle.faults.specs.declared.Layer.{Layer}
use Rattle.faults.specs.declared.Layer.TheVariants.{Function}
use Rattle.faults.specs.declared.Refusal.TheVariants.{Capacity, Size}
use Rattle.faults.specs.Faults.{fault, refuse, outside}
use Rattle.dual_feasible.specs.Laws.{greatest}

-- refusal 1 with the capacity c where it is outside 1 to 1,000,000,000
abbrev pub capacity_check : {X : Type 0} → Layer → ℕ → Result X Fault → Result X Fault
capacity_check layer c later = refuse (outside 1 greatest c) (fault Capacity layer c) later

-- refusal 4 with the size where it is above the capacity c
abbrev pub size_check : {X : Type 0} → ℕ → ℕ → Result X Fault → Result X Fault
size_check c s later = refuse (nat_lt c s) (fault Size Function s) later

-- the value of a size, once it is checked
abbrev pub valued : ℕ → (ℕ → ℕ) → ℕ → Result ℕ Fault
valued c v s = size_check c s (Ok (v s))
