-- Threshold, rounding and division are superadditive, and so lawful.
use Rattle.std.specs.Prelude.{◌≡◌, ℕ, ◌+◌, ◌*◌, ◌/◌, ◌%◌, ◌<◌, ◌≤◌, ◌⊎◌}
use Rattle.std.proofs.Common.{inl, inr, ⊎_elim, mul-add, add-mul, mul_comm, one-mul, div-mul-le_self, mod-lt, arith}
use Rattle.std.proofs.Math.Nat.{mul-mod_left}
use Rattle.std.proofs.lemmas.Nat.{le-div, div-add-mod'}
use Rattle.std.proofs.lemmas.Bool.{cases_eq, eq-eqb, ne_eqb}
use Rattle.std.proofs.lemmas.Bool.Decides.{nat_tests}
use Rattle.dual_feasible.specs.Laws.{Lawful, Adds}
use Rattle.dual_feasible.proofs.Lawful.{lawful_from_adds}
use Rattle.functions.specs.Values.{threshold, rounding, division}
use Rattle.functions.specs.Quotients.{multiple_gap}

module _ (c t : ℕ) (half : 2 * t ≤ c) where
  pub threshold_adds : Adds c (threshold c t)
  threshold_adds a b h = grind (arith, nat_tests)

  pub threshold_lawful : Lawful c c (threshold c t)
  threshold_lawful = lawful_from_adds c c (threshold c t) threshold_adds (grind (arith, nat_tests))

module _ (c k : ℕ) (pos : 0 < k) where
  pub division_adds : Adds c (division k)
  division_adds a b h =
      le-div (a / k + b / k) (a + b) k pos (omega (arith, add-mul (a / k) (b / k) k, div-mul-le_self a k, div-mul-le_self b k))

  pub division_lawful : Lawful c (c / k) (division k)
  division_lawful = lawful_from_adds c (c / k) (division k) division_adds (omega arith)

-- the value w of s by the whole part q of (k + 1) × s / c and its rest r: q × c, but for s less where nothing is left over
record Rounded (c k s w : ℕ) : Type 0 where
  q : ℕ
  r : ℕ
  splits : q * c + r ≡ (k + 1) * s
  rest : r < c
  value : ((r ≡ 0) × (w + s ≡ q * c)) ⊎ ((0 < r) × (w ≡ q * c))

module _ (c k : ℕ) (pos : 0 < c) where
  rounded : (s : ℕ) → Rounded c k s (rounding c k s)
  rounded s =
      let n = (k + 1) * s in
      let e : n / c * c + n % c ≡ n = div-add-mod' n c in
      record {
        q = n / c;
        r = n % c;
        splits = e;
        rest = mod-lt n pos;
        value =
            ⊎_elim
            (λ (z : n % c ≡ 0). inl (z, rw (eq-eqb (n % c) 0 z) (omega (arith, add-mul k 1 s, mul_comm s k, one-mul s))))
            (λ (z : n % c ≡ 0 → ⊥). inr (omega arith, rw (ne_eqb (n % c) 0 z) (mul_comm c (n / c))))
            (cases_eq (n % c) 0);
      }

  rounded_adds : (a b u v w : ℕ) → a + b ≤ c → Rounded c k a u → Rounded c k b v → Rounded c k (a + b) w → u + v ≤ w
  rounded_adds a b u v w h x y z =
      let sums : (k + 1) * (a + b) ≡ (k + 1) * a + (k + 1) * b = mul-add (k + 1) a b in
      let whole : (x.q + y.q) * c ≡ x.q * c + y.q * c = add-mul x.q y.q c in
      let up : z.q * c < (x.q + y.q) * c → z.q * c + c ≤ (x.q + y.q) * c = multiple_gap z.q (x.q + y.q) c in
      let down : (x.q + y.q) * c < z.q * c → (x.q + y.q) * c + c ≤ z.q * c = multiple_gap (x.q + y.q) z.q c in
      grind arith

  pub rounding_adds : Adds c (rounding c k)
  rounding_adds a b h = rounded_adds a b _ _ _ h (rounded a) (rounded b) (rounded (a + b))

  pub rounding_lawful : Lawful c (c * k) (rounding c k)
  rounding_lawful =
      lawful_from_adds c (c * k) (rounding c k) rounding_adds (rw (eq-eqb ((k + 1) * c % c) 0 (mul-mod_left (k + 1) c)) (omega arith))
