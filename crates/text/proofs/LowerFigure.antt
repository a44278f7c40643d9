-- The bound of one more function.
use Rattle.std.proofs.Common.{◌≡◌, ℕ, ◌+◌, ◌<◌, max, true, List, ◌∷◌, map, length, get_or, drop, Ok, sym, ap, ◌∙◌, arith}
use Rattle.std.proofs.lemmas.List.{at_drop_more, length-map, get_or-map}
use Rattle.faults.specs.declared.Fault.{Fault}
use Rattle.faults.specs.declared.Layer.TheVariants.{Function as FunctionLayer}
use Rattle.faults.specs.declared.Refusal.TheVariants.{Capacity}
use Rattle.faults.specs.Faults.{fault, outside}
use Rattle.faults.proofs.Refusals.{passed, same_answer}
use Rattle.dual_feasible.specs.Laws.{greatest}
use Rattle.bounds.specs.Bounds.{bound}
use Rattle.functions.specs.Made.{identity_made}
use Rattle.text.specs.Functions.{function_capacity, function_row, function_image, function_value, all_for}
use Rattle.text.specs.Lower.{greatest_of}
use Rattle.text.specs.Rows.{row_image, row_value}
use Rattle.text.specs.declared.function.Function.{Function}
use Rattle.text.proofs.Functions.{made_for}

-- the identity for a capacity has it
pub identity_for : (c k : ℕ) → Ok k ≡ identity_made c → k ≡ c
identity_for c k e = sym (same_answer {E = Fault} c k (passed (outside 1 greatest c) (fault Capacity FunctionLayer c) (Ok c) k (sym e)).1)

module _ (c : ℕ) (cuts : List ℕ) (functions items : List Function) (same : all_for c functions ≡ true) (all : items ≡ functions) (i : ℕ) (f : Function) (lt : i < length items) (is : f ≡ get_or items i f) where
  inside : i < length functions
  inside = omega (arith, ap length all)

  found : f ≡ get_or functions i f
  found = is ∙ ap (λ fs. get_or fs i f) all

  -- the function at hand is made for the capacity
  pub is_for : function_capacity f ≡ c
  is_for = made_for c functions i f same inside found

  -- it comes next
  pub comes_next : (n m : ℕ) → m ≡ max n (bound (function_image f) (function_value f) cuts)
      → greatest_of c cuts m (drop (i + 1) (map function_row functions)) ≡ greatest_of c cuts n (drop i (map function_row functions))
  comes_next n m e =
      let rows = map function_row functions in
      let own = function_row f in
      let bound_is = ap (λ k. bound (row_image own.kind k own.parameter) (row_value own.kind k own.parameter) cuts) is_for in
      let row : get_or rows i own ≡ own = get_or-map function_row functions i f own inside ∙ ap function_row (sym found) in
      let within : i < length rows = omega (arith, inside, length-map functions function_row) in
      ap (λ k. greatest_of c cuts k (drop (i + 1) rows)) (e ∙ ap (max n) bound_is)
      ∙ sym (at_drop_more (greatest_of c cuts n) rows i own within ∙ ap (λ r. greatest_of c cuts n (r ∷ drop (i + 1) rows)) row)
