-- The values of a list, added up bar by bar of a plan.
use Rattle.std.proofs.Common.{◌≡◌, ℕ, zero, suc, ◌+◌, ◌*◌, ◌<◌, ◌≤◌, cond, eqb, ltb, List, [], ◌∷◌, length, refl, ⊎_elim, suc-mul, arith}
use Rattle.std.specs.List.{AllByRecursion}
use Rattle.std.proofs.lemmas.Bool.{cases_eq, eq-eqb, ne_eqb, lt-ltb}
use Rattle.std.proofs.lemmas.Bool.Decides.{nat_tests}
use Rattle.plans.specs.Plans.{total, sum, load, Packs}

-- the sizes that lie in bar b
abbrev pieces : ℕ → List ℕ → List ℕ → List ℕ
pieces b [] plan = []
pieces b (s ∷ sizes) [] = []
pieces b (s ∷ sizes) (j ∷ plan) = cond (eqb j b) (s ∷ pieces b sizes plan) (pieces b sizes plan)

sum_pieces : (b : ℕ) (sizes plan : List ℕ) → sum (pieces b sizes plan) ≡ load b sizes plan
sum_pieces b [] plan = refl
sum_pieces b (s ∷ sizes) [] = refl
sum_pieces b (s ∷ sizes) (j ∷ plan) =
    ⊎_elim
    (λ (e : j ≡ b). rw (eq-eqb j b e) (omega (arith, sum_pieces b sizes plan)))
    (λ (e : j ≡ b → ⊥). rw (ne_eqb j b e) (omega (arith, sum_pieces b sizes plan)))
    (cases_eq j b)

module _ (v : ℕ → ℕ) where
  -- the values of what lies in the bars below n, added up
  abbrev before : ℕ → List ℕ → List ℕ → ℕ
  before n [] plan = 0
  before n (s ∷ sizes) [] = 0
  before n (s ∷ sizes) (j ∷ plan) = cond (ltb j n) (v s) 0 + before n sizes plan

  before_none : (sizes plan : List ℕ) → before 0 sizes plan ≡ 0
  before_none [] plan = refl
  before_none (s ∷ sizes) [] = refl
  before_none (s ∷ sizes) (j ∷ plan) = rw (before_none sizes plan) (grind (arith, nat_tests))

  before_more : (n : ℕ) (sizes plan : List ℕ) → before (suc n) sizes plan ≡ before n sizes plan + total v (pieces n sizes plan)
  before_more n [] plan = refl
  before_more n (s ∷ sizes) [] = refl
  before_more n (s ∷ sizes) (j ∷ plan) =
      let rest = before_more n sizes plan in
      ⊎_elim
      (λ (e : j ≡ n). rw (eq-eqb j n e) (grind (arith, nat_tests)))
      (λ (e : j ≡ n → ⊥). rw (ne_eqb j n e) (grind (arith, nat_tests)))
      (cases_eq j n)

  before_all : (n : ℕ) (sizes plan : List ℕ) → length plan ≡ length sizes → AllByRecursion (λ j. j < n) plan → before n sizes plan ≡ total v sizes
  before_all n [] plan e h = refl
  before_all n (s ∷ sizes) [] e h = absurd (omega arith)
  before_all n (s ∷ sizes) (j ∷ plan) e h =
      rw (lt-ltb j n h.0) (omega (arith, before_all n sizes plan (omega arith) h.1))

  module _ (c d : ℕ) (law : (sizes : List ℕ) → sum sizes ≤ c → total v sizes ≤ d) where
    before_below : (n : ℕ) (sizes plan : List ℕ) → ((b : ℕ) → load b sizes plan ≤ c) → before n sizes plan ≤ n * d
    before_below zero sizes plan fits = omega (arith, before_none sizes plan)
    before_below (suc n) sizes plan fits =
        let bar : total v (pieces n sizes plan) ≤ d = law (pieces n sizes plan) (omega (arith, fits n, sum_pieces n sizes plan)) in
        omega (arith, before_more n sizes plan, before_below n sizes plan fits, suc-mul n d)

    -- if what fits into one bar weighs at most d, then what n bars hold weighs at most n × d
    pub total_over_bars : (sizes : List ℕ) (n : ℕ) (plan : List ℕ) → Packs c sizes n plan → total v sizes ≤ n * d
    total_over_bars sizes n plan p =
        omega (arith, before_all n sizes plan p.each p.below, before_below n sizes plan p.fits)
