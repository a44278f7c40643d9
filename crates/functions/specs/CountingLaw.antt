-- Counting is lawful.
use Rattle.std.specs.Prelude.{◌≡◌, ℕ, ◌+◌, ◌-◌, ◌*◌, ◌/◌, ◌<◌, ◌≤◌, List, [], ◌∷◌, nat_le}
use Rattle.std.proofs.Common.{ap, ⊎_elim, add-mul, zero-mul, one-mul, arith}
use Rattle.std.proofs.lemmas.Bool.{cases_lt, cond_both, le-ltb, lt-ltb, leb-true}
use Rattle.plans.specs.Plans.{total, sum}
use Rattle.dual_feasible.specs.Laws.{Lawful}
use Rattle.functions.specs.Values.{counting}
use Rattle.functions.specs.Quotients.{div_rises, div_beside}

module _ (c e : ℕ) (pos : 0 < e) where
  -- up to half the capacity, a size holds as many pieces of size e as it counts for
  small_value : (s : ℕ) → 2 * s ≤ c → counting c e s * e ≤ s
  small_value s h =
      rw (le-ltb c (2 * s) h)
      (cond_both (nat_le e s) 1 0 (λ n. n * e ≤ s) (λ t. omega (arith, one-mul e, leb-true e s t)) (λ _. omega (arith, zero-mul e)))

  -- the same of a list of which twice the sum fits
  small_total : (sizes : List ℕ) → 2 * sum sizes ≤ c → total (counting c e) sizes * e ≤ sum sizes
  small_total [] h = omega (arith, zero-mul e)
  small_total (s ∷ sizes) h =
      omega (arith, add-mul (counting c e s) (total (counting c e) sizes) e, small_value s (omega arith), small_total sizes (omega arith))

  -- a list that fits counts for no more than the capacity, even with all the pieces of size e that still fit beside it
  counted : (sizes : List ℕ) → sum sizes ≤ c → total (counting c e) sizes + (c - sum sizes) / e ≤ c / e
  counted [] h = omega (arith, ap (λ n. n / e) (let z : c - 0 ≡ c = omega arith in z))
  counted (s ∷ sizes) h =
      let rest : ℕ = sum sizes in
      ⊎_elim
      (λ (big : c < 2 * s).
      let t = small_total sizes (omega arith) in
      let beside : total (counting c e) sizes + (c - s - rest) / e ≤ (c - s) / e = div_beside (total (counting c e) sizes) rest (c - s) e pos (omega arith) t in
      let below : (c - s) / e ≤ c / e = div_rises (c - s) c e pos (omega arith) in
      let same : c - s - rest ≡ c - (s + rest) = omega arith in
      rw (lt-ltb c (2 * s) big) (omega (arith, ap (λ n. n / e) same)))
      (λ (small : 2 * s ≤ c).
      let beside : counting c e s + (c - rest - s) / e ≤ (c - rest) / e = div_beside (counting c e s) s (c - rest) e pos (omega arith) (small_value s small) in
      let same : c - rest - s ≡ c - (s + rest) = omega arith in
      let more : total (counting c e) sizes + (c - rest) / e ≤ c / e = counted sizes (omega arith) in
      omega (arith, ap (λ n. n / e) same))
      (cases_lt c (2 * s))

  pub counting_lawful : Lawful c (c / e) (counting c e)
  counting_lawful sizes h = omega (arith, counted sizes h)
