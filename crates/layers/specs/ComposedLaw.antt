-- Composition keeps both laws.
use Rattle.std.specs.Prelude.{◌≡◌, ℕ, ◌+◌, ◌≤◌, true, false, List, [], ◌∷◌, map, ◌==◌, nat_eq, refl}
use Rattle.std.proofs.Common.{⊎_elim, ap, ◌∙◌, arith}
use Rattle.std.proofs.lemmas.Bool.{cases_Bool, eqb-true}
use Rattle.plans.specs.Plans.{total, sum}
use Rattle.dual_feasible.specs.Laws.{Lawful, Adds}
use Rattle.dual_feasible.proofs.Lawful.{value_below, adds_rises}
use Rattle.layers.specs.Layers.{composed}

-- the values of a list are a list of sizes for the outer function
sum_map : (v : ℕ → ℕ) (sizes : List ℕ) → sum (map v sizes) ≡ total v sizes
sum_map v [] = refl
sum_map v (s ∷ sizes) = omega (arith, sum_map v sizes)

module _ (c : ℕ) (w : ℕ → ℕ) (d : ℕ) (v : ℕ → ℕ) where
  -- where the capacities agree, the outer function weighs the inner's values
  total_composed : nat_eq c d ≡ true → (sizes : List ℕ) → total (composed c w d v) sizes ≡ total w (map v sizes)
  total_composed e [] = refl
  total_composed e (s ∷ sizes) =
      let here : composed c w d v s ≡ w (v s) = rw e refl in
      omega (arith, total_composed e sizes)

  -- where they differ, everything weighs nothing
  total_apart : nat_eq c d ≡ false → (sizes : List ℕ) → total (composed c w d v) sizes ≡ 0
  total_apart e [] = refl
  total_apart e (s ∷ sizes) =
      let here : composed c w d v s ≡ 0 = rw e refl in
      omega (arith, total_apart e sizes)

  module _ (b m : ℕ) (inner : Lawful b d v) (outer : Lawful c m w) where
    -- composition of lawful functions is lawful
    pub composed_lawful : Lawful b m (composed c w d v)
    composed_lawful sizes h =
        ⊎_elim
        (λ (e : nat_eq c d ≡ true).
        let same : c ≡ d = eqb-true c d e in
        let fits : sum (map v sizes) ≤ c = omega (arith, sum_map v sizes, inner sizes h) in
        omega (arith, total_composed e sizes, outer (map v sizes) fits))
        (λ (e : nat_eq c d ≡ false). omega (arith, total_apart e sizes))
        (cases_Bool (c == d))

    -- composition of superadditive functions is superadditive
    pub composed_adds : Adds b v → Adds c w → Adds b (composed c w d v)
    composed_adds more above x y h =
        ⊎_elim
        (λ (e : nat_eq c d ≡ true).
        let same : c ≡ d = eqb-true c d e in
        let whole : v (x + y) ≤ d = value_below b d v inner (x + y) h in
        let parts : v x + v y ≤ v (x + y) = more x y h in
        let up : w (v x) + w (v y) ≤ w (v x + v y) = above (v x) (v y) (omega arith) in
        let rises : w (v x + v y) ≤ w (v (x + y)) = adds_rises c w above (v x + v y) (v (x + y)) parts (omega arith) in
        rw e (omega arith))
        (λ (e : nat_eq c d ≡ false). rw e (omega arith))
        (cases_Bool (c == d))

-- compositions of equal parts are equal, where the outer parts need only be equal up to the outer capacity
pub composed_same : (c c' : ℕ) (w w' : ℕ → ℕ) (d d' : ℕ) (v v' : ℕ → ℕ) (s : ℕ) → c ≡ c' → d ≡ d' → v s ≡ v' s → (v s ≤ c → w (v s) ≡ w' (v s)) → v s ≤ d
    → composed c w d v s ≡ composed c' w' d' v' s
composed_same c c' w w' d d' v v' s capacities images inner outer below =
    ⊎_elim
    (λ (e : nat_eq c d ≡ true).
    let same : c ≡ d = eqb-true c d e in
    let f : nat_eq c' d' ≡ true = rw (capacities, images) at e in
    rw (e, f) (outer (omega arith) ∙ ap w' inner))
    (λ (e : nat_eq c d ≡ false). let f : nat_eq c' d' ≡ false = rw (capacities, images) at e in rw (e, f))
    (cases_Bool (c == d))
