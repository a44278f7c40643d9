-- Functions that are made for one capacity.
use Rattle.std.proofs.Common.{◌≡◌, ℕ, ◌<◌, true, eqb, List, [], ◌∷◌, ◌++◌, length, get_or, Ok, Err, Result, sym, refl, ap, ◌∙◌}
use Rattle.std.specs.List.{AllByRecursion}
use Rattle.std.proofs.ByRecursion.{All-get_or}
use Rattle.std.proofs.lemmas.Bool.{and_parts, and_from, eqb-true, eq-eqb}
use Rattle.faults.specs.declared.Fault.{Fault}
use Rattle.faults.specs.Faults.{and_then}
use Rattle.faults.proofs.Refusals.{no_answer, same_answer}
use Rattle.text.specs.Functions.{function_capacity, all_for}
use Rattle.text.specs.declared.function.Function.{Function}

-- what is answered after an answer that is not looked at
pub then_is : {X Y : Type 0} (m : Result X Fault) (y z : Y) → Ok y ≡ and_then m (λ _. Ok z) → y ≡ z
then_is (Ok x) y z e = same_answer {E = Fault} y z e
then_is (Err f) y z e = absurd (no_answer f y (sym e))

-- and what is refused, whatever is answered after it
pub then_refused : {X Y Z : Type 0} (m : Result X Fault) (f : Fault) (y : Y) (z : Z) → Err f ≡ and_then m (λ _. Ok y) → Err f ≡ and_then m (λ _. Ok z)
then_refused (Ok x) f y z e = absurd (no_answer f y e)
then_refused {X} {Y} {Z} (Err g) f y z e = let same : f ≡ g = cc in ap Err same

all_made : (c : ℕ) (functions : List Function) → all_for c functions ≡ true → AllByRecursion (λ f. function_capacity f ≡ c) functions
all_made c [] h = tt
all_made c (f ∷ functions) h =
    let p = and_parts (eqb (function_capacity f) c) (all_for c functions) h in
    (eqb-true (function_capacity f) c p.0, all_made c functions p.1)

-- each is made for the capacity
pub made_for : (c : ℕ) (functions : List Function) (i : ℕ) (f : Function) → all_for c functions ≡ true → i < length functions → f ≡ get_or functions i f → function_capacity f ≡ c
made_for c functions i f h lt is = ap function_capacity is ∙ All-get_or (λ g. function_capacity g ≡ c) functions i f lt (all_made c functions h)

-- one more function for the capacity
pub all_for_push : (c : ℕ) (functions : List Function) (f : Function) → all_for c functions ≡ true → function_capacity f ≡ c → all_for c (functions ++ f ∷ []) ≡ true
all_for_push c [] f h e = and_from (eqb (function_capacity f) c) true (eq-eqb (function_capacity f) c e) refl
all_for_push c (g ∷ functions) f h e =
    let p = and_parts (eqb (function_capacity g) c) (all_for c functions) h in
    and_from (eqb (function_capacity g) c) (all_for c (functions ++ f ∷ [])) p.0 (all_for_push c functions f p.1 e)
