-- What making each function answers: its capacity and parameter, or the first of the checks that fails.
use Rattle.std.specs.Prelude.{ℕ, ◌*◌, Bool, ◌||◌, Ok, Result, nat_lt}
use Rattle.faults.specs.declared.Fault.{Fault}
use Rattle.faults.specs.declared.Layer.TheVariants.{Function}
use Rattle.faults.specs.declared.Refusal.TheVariants.{Parameter, ImageCapacity}
use Rattle.faults.specs.Faults.{fault, refuse, outside}
use Rattle.dual_feasible.specs.Answers.{capacity_check}
use Rattle.dual_feasible.specs.Laws.{greatest}

-- the parameters outside their ranges, at the capacity c
abbrev pub threshold_outside : ℕ → ℕ → Bool
threshold_outside c t = nat_lt c (2 * t)

abbrev pub rounding_outside : ℕ → Bool
rounding_outside k = outside 1 1000 k

abbrev pub division_outside : ℕ → ℕ → Bool
division_outside c k = outside 1 c k

abbrev pub counting_outside : ℕ → ℕ → Bool
counting_outside c e = nat_lt e 1 || nat_lt c (2 * e)

abbrev pub identity_made : ℕ → Result ℕ Fault
identity_made c = capacity_check Function c (Ok c)

abbrev pub threshold_made : ℕ → ℕ → Result (ℕ × ℕ) Fault
threshold_made c t = capacity_check Function c (refuse (threshold_outside c t) (fault Parameter Function t) (Ok (c, t)))

abbrev pub rounding_made : ℕ → ℕ → Result (ℕ × ℕ) Fault
rounding_made c k = capacity_check Function c (refuse (rounding_outside k) (fault Parameter Function k) (refuse (nat_lt greatest (c * k)) (fault ImageCapacity Function c) (Ok (c, k))))

abbrev pub division_made : ℕ → ℕ → Result (ℕ × ℕ) Fault
division_made c k = capacity_check Function c (refuse (division_outside c k) (fault Parameter Function k) (Ok (c, k)))

abbrev pub counting_made : ℕ → ℕ → Result (ℕ × ℕ) Fault
counting_made c e = capacity_check Function c (refuse (counting_outside c e) (fault Parameter Function e) (Ok (c, e)))
