-- What an answer tells of the checks before it.
use Rattle.std.proofs.Common.{◌≡◌, ℕ, ◌≤◌, Bool, true, false, ltb, is_ok, Ok, Err, Result, sym, refl, ap, arith}
use Rattle.std.proofs.lemmas.Bool.{false≢true, ltb-false, or_parts}
use Rattle.faults.specs.declared.Fault.{Fault}
use Rattle.faults.specs.Faults.{refuse, outside, outcome, checked, and_then, kept_or}

-- a refusal is no answer
pub no_answer : {X E : Type 0} (e : E) (x : X) → Err e ≡ Ok x → ⊥
no_answer e x p = let z : ◌≡◌ {A = ℕ} 0 1 = cc in omega arith

-- equal answers answer the same
pub same_answer : {X E : Type 0} (x y : X) → ◌≡◌ {A = Result X E} (Ok x) (Ok y) → x ≡ y
same_answer x y e = cc

-- where something is answered, the check has passed
pub passed : {X : Type 0} (test : Bool) (f : Fault) (later : Result X Fault) (x : X) → refuse test f later ≡ Ok x → (test ≡ false) × (later ≡ Ok x)
passed true f later x e = absurd (no_answer f x e)
passed false f later x e = (refl, e)

-- a number that is not outside lies within
pub within : (low high n : ℕ) → outside low high n ≡ false → (low ≤ n) × (n ≤ high)
within low high n e = let p = or_parts (ltb n low) (ltb high n) e in (ltb-false n low p.0, ltb-false high n p.1)

-- parts are refused as the whole is
pub refused_is : {X Y : Type 0} (parts : X → Y) (r : Result X Fault) (f : Fault) → Err f ≡ outcome parts r → r ≡ Err f
refused_is parts (Ok x) f e = absurd (no_answer f (parts x) e)
refused_is parts (Err g) f e = let same : f ≡ g = cc in ap Err (sym same)

-- where nothing is refused, what is left is the new
pub accepted_is : {X : Type 0} (r : Result X Fault) (old : X) → Ok tt ≡ checked r → r ≡ Ok (kept_or old r)
accepted_is (Ok x) old e = refl
accepted_is (Err f) old e = absurd (no_answer f tt (sym e))

-- where something is answered in the end, something was answered first
pub and_then_parts : {X Y : Type 0} (r : Result X Fault) (next : X → Result Y Fault) (y : Y) → and_then r next ≡ Ok y → (x : X) × (r ≡ Ok x) × (next x ≡ Ok y)
and_then_parts (Ok x) next y e = (x, refl, e)
and_then_parts (Err f) next y e = absurd (no_answer f y e)

-- an answer that is one
pub ok_made : {X : Type 0} (r : Result X Fault) → is_ok r ≡ true → (x : X) × (r ≡ Ok x)
ok_made (Ok x) e = (x, refl)
ok_made (Err f) e = absurd (false≢true e)
