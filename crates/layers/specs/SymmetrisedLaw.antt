-- Every symmetrisation of a superadditive function is superadditive, and so lawful.
use Rattle.std.specs.Prelude.{◌≡◌, ℕ, ◌+◌, ◌-◌, ◌*◌, ◌<◌, ◌≤◌, true, false, leb, ◌⊎◌, nat_le, nat_lt}
use Rattle.std.proofs.Common.{inl, inr, ⊎_elim, ap, subst, arith}
use Rattle.std.proofs.lemmas.Bool.{cases_Bool, cases_order, eq-eqb, ne_eqb, lt-ltb, le-ltb}
use Rattle.dual_feasible.specs.Laws.{Lawful, Adds, greatest}
use Rattle.dual_feasible.proofs.Lawful.{value_below, adds_none, lawful_from_adds}
use Rattle.layers.specs.Layers.{mirrored, symmetrised, symmetrised_image}

module _ (c d : ℕ) (v : ℕ → ℕ) (positive : 0 < c) (lawful : Lawful c d v) (adds : Adds c v) where
  -- what mirroring gives, by the side of the half on which the size lies
  record Side (s w : ℕ) : Type 0 where
    place : ((2 * s < c) × (w ≡ 2 * v s)) ⊎ (((2 * s ≡ c) × (w ≡ d)) ⊎ ((c < 2 * s) × (w ≡ 2 * d - 2 * v (c - s))))

  side : (s : ℕ) → Side s (mirrored c d v s)
  side s =
      ⊎_elim
      (λ (e : 2 * s ≡ c). let f : nat_lt (2 * s) c ≡ false = le-ltb (2 * s) c (omega arith) in record { place = inr (inl (e, rw (f, eq-eqb (2 * s) c e))) })
      (⊎_elim
      (λ (h : 2 * s < c). record { place = inl (h, rw (lt-ltb (2 * s) c h)) })
      (λ (h : c < 2 * s). let f : nat_lt (2 * s) c ≡ false = le-ltb (2 * s) c (omega arith) in record { place = inr (inr (h, rw (f, ne_eqb (2 * s) c (λ e. omega arith)))) }))
      (cases_order (2 * s) c)

  mirrored_sides : (a b x y z : ℕ) → a + b ≤ c → Side a x → Side b y → Side (a + b) z → x + y ≤ z
  mirrored_sides a b x y z h p q r =
      let whole : v c ≤ d = value_below c d v lawful c (omega arith) in
      let none : v 0 ≡ 0 = adds_none c v adds in
      let both : v a + v b ≤ v (a + b) = adds a b h in
      let rest : v (a + b) + v (c - (a + b)) ≤ v (a + b + (c - (a + b))) = adds (a + b) (c - (a + b)) (omega arith) in
      let all : v (a + b + (c - (a + b))) ≡ v c = ap v (let e : a + b + (c - (a + b)) ≡ c = omega arith in e) in
      let beside-a : v b + v (c - (a + b)) ≤ v (b + (c - (a + b))) = adds b (c - (a + b)) (omega arith) in
      let rest-a : v (b + (c - (a + b))) ≡ v (c - a) = ap v (let e : b + (c - (a + b)) ≡ c - a = omega arith in e) in
      let beside-b : v a + v (c - (a + b)) ≤ v (a + (c - (a + b))) = adds a (c - (a + b)) (omega arith) in
      let rest-b : v (a + (c - (a + b))) ≡ v (c - b) = ap v (let e : a + (c - (a + b)) ≡ c - b = omega arith in e) in
      let with-a : v a + v (c - a) ≤ v (a + (c - a)) = adds a (c - a) (omega arith) in
      let all-a : v (a + (c - a)) ≡ v c = ap v (let e : a + (c - a) ≡ c = omega arith in e) in
      let with-b : v b + v (c - b) ≤ v (b + (c - b)) = adds b (c - b) (omega arith) in
      let all-b : v (b + (c - b)) ≡ v c = ap v (let e : b + (c - b) ≡ c = omega arith in e) in
      let half-a : 2 * a ≡ c → v (c - a) ≡ v a = λ k. ap v (let e : c - a ≡ a = omega arith in e) in
      let half-b : 2 * b ≡ c → v (c - b) ≡ v b = λ k. ap v (let e : c - b ≡ b = omega arith in e) in
      let half-ab : 2 * (a + b) ≡ c → v (c - (a + b)) ≡ v (a + b) = λ k. ap v (let e : c - (a + b) ≡ a + b = omega arith in e) in
      let only-a : b ≡ 0 → v b ≡ 0 = λ k. subst (λ (n : ℕ). v n ≡ 0) (let e : 0 ≡ b = omega arith in e) none in
      let only-b : a ≡ 0 → v a ≡ 0 = λ k. subst (λ (n : ℕ). v n ≡ 0) (let e : 0 ≡ a = omega arith in e) none in
      let full : c - (a + b) ≡ 0 → v (c - (a + b)) ≡ 0 = λ k. subst (λ (n : ℕ). v n ≡ 0) (let e : 0 ≡ c - (a + b) = omega arith in e) none in
      grind (arith, p.place, q.place, r.place)

  mirrored_adds : Adds c (mirrored c d v)
  mirrored_adds a b h = mirrored_sides a b _ _ _ h (side a) (side b) (side (a + b))

  -- every symmetrisation is superadditive
  pub symmetrised_adds : Adds c (symmetrised c d v)
  symmetrised_adds a b h =
      ⊎_elim
      (λ (e : leb (2 * d) greatest ≡ true). rw e (mirrored_adds a b h))
      (λ (e : leb (2 * d) greatest ≡ false). rw e (omega arith))
      (cases_Bool (nat_le (2 * d) greatest))

  -- and lawful
  pub symmetrised_lawful : Lawful c (symmetrised_image d) (symmetrised c d v)
  symmetrised_lawful =
      lawful_from_adds c (symmetrised_image d) (symmetrised c d v) symmetrised_adds
      (⊎_elim
      (λ (e : leb (2 * d) greatest ≡ true).
      let f : nat_lt (2 * c) c ≡ false = le-ltb (2 * c) c (omega arith) in
      rw (e, f, ne_eqb (2 * c) c (λ k. omega arith)) (omega arith))
      (λ (e : leb (2 * d) greatest ≡ false). rw e (omega arith))
      (cases_Bool (nat_le (2 * d) greatest)))
