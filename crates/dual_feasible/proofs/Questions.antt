-- What the answer to a question for a value tells of the size.
use Rattle.std.proofs.Common.{◌≡◌, ℕ, ◌<◌, ◌≤◌, Ok, Err, ⊎_elim, arith}
use Rattle.std.proofs.lemmas.Bool.{cases_lt, lt-ltb, le-ltb}
use Rattle.faults.specs.declared.Fault.{Fault}
use Rattle.dual_feasible.specs.Answers.{valued}
use Rattle.dual_feasible.specs.Laws.{Lawful}
use Rattle.dual_feasible.proofs.Lawful.{value_below}

module _ (c : ℕ) (v : ℕ → ℕ) (s : ℕ) where
  -- a value is that of the map, at a size up to the capacity
  pub value_told : (w : ℕ) → Ok w ≡ valued c v s → (s ≤ c) × (w ≡ v s)
  value_told w e =
      ⊎_elim
      (λ (h : c < s). absurd (let t = rw (lt-ltb c s h) at e in let z : ◌≡◌ {A = ℕ} 0 1 = cc in let n : ⊥ = omega arith in n))
      (λ (h : s ≤ c). (h, let t = rw (le-ltb c s h) at e in cc))
      (cases_lt c s)

  -- a refusal says that the size is above the capacity
  pub refusal_told : (f : Fault) → Err f ≡ valued c v s → c < s
  refusal_told f e =
      ⊎_elim
      (λ (h : c < s). h)
      (λ (h : s ≤ c). absurd (let t = rw (le-ltb c s h) at e in let z : ◌≡◌ {A = ℕ} 0 1 = cc in let n : ⊥ = omega arith in n))
      (cases_lt c s)

  -- a value that is told is at most the image capacity
  pub told_below : (d : ℕ) → Lawful c d v → (w : ℕ) → Ok w ≡ valued c v s → w ≤ d
  told_below d lawful w e = let t = value_told w e in omega (arith, value_below c d v lawful s t.0)

  -- a size up to the capacity is told its value
  pub value_tells : s ≤ c → valued c v s ≡ Ok (v s)
  value_tells h = rw (le-ltb c s h)
