-- The walk over a list that looks for an entry above the capacity.
use Rattle.std.proofs.Common.{◌≡◌, ℕ, ◌+◌, ◌<◌, ◌≤◌, true, false, cond, nat_lt, ltb, List, [], ◌∷◌, length, get_or, drop, position, Option, Some, None, Ok, Err, Result, sym, refl, ap, ◌∙◌, arith}
use Rattle.std.specs.List.{AllByRecursion, position_from}
use Rattle.std.proofs.lemmas.List.{at_drop_more, at_drop_all}
use Rattle.std.proofs.lemmas.Iterator.Adapters.{position_from-zero}
use Rattle.std.proofs.lemmas.Bool.{lt-ltb, le-ltb}
use Rattle.faults.specs.declared.Fault.{Fault}
use Rattle.faults.specs.declared.Layer.TheVariants.{Bound}
use Rattle.faults.specs.declared.Refusal.TheVariants.{Size, TooMany}
use Rattle.faults.specs.Faults.{fault, refuse, outcome}
use Rattle.bounds.specs.Bounds.{entries_check, asked_of}

module _ {X : Type 0} (c : ℕ) (list : List ℕ) (i : ℕ) (later : Result X Fault) where
  -- an entry within the capacity is passed
  pub entry_passes : i < length list → get_or list i 0 ≤ c → entries_check c i (drop i list) later ≡ entries_check c (i + 1) (drop (i + 1) list) later
  entry_passes lt h = at_drop_more (λ xs. entries_check c i xs later) list i 0 lt ∙ rw (le-ltb c (get_or list i 0) h)

  -- an entry above it is the answer
  pub entry_refused : i < length list → c < get_or list i 0 → entries_check c i (drop i list) later ≡ Err (fault Size Bound i)
  entry_refused lt h = at_drop_more (λ xs. entries_check c i xs later) list i 0 lt ∙ rw (lt-ltb c (get_or list i 0) h)

  -- at the end comes what is later
  pub entries_passed : length list ≤ i → entries_check c i (drop i list) later ≡ later
  entries_passed h = at_drop_all (λ xs. entries_check c i xs later) list i h

-- what the first entry above the capacity answers, if there is one
abbrev pub refused_at : {X : Type 0} → Option ℕ → Result X Fault → Result X Fault
refused_at None later = later
refused_at (Some i) later = Err (fault Size Bound i)

walk_found : {X : Type 0} (c i : ℕ) (list : List ℕ) (later : Result X Fault) → entries_check c i list later ≡ refused_at (position_from (λ s. nat_lt c s) i list) later
walk_found c i [] later = refl
walk_found {X} c i (s ∷ list) later =
    elim (ltb c s) as (λ b. refuse {X = X} b (fault Size Bound i) (entries_check c (i + 1) list later) ≡ refused_at (cond b (Some i) (position_from (λ s. nat_lt c s) (i + 1) list)) later) [
      | true ↦ refl
      | false ↦ walk_found c (i + 1) list later
    ]

-- the walk refuses the first entry above the capacity
pub first_found : {X : Type 0} (c : ℕ) (list : List ℕ) (later : Result X Fault) → entries_check c 0 list later ≡ refused_at (position (λ s. nat_lt c s) list) later
first_found c list later = walk_found c 0 list later ∙ ap (λ i. refused_at i later) (sym (position_from-zero (λ s. nat_lt c s) list))

-- a list whose entries are within the capacity passes
within_passes : {X : Type 0} (c i : ℕ) (list : List ℕ) (later : Result X Fault) → AllByRecursion (λ s. s ≤ c) list → entries_check c i list later ≡ later
within_passes c i [] later h = refl
within_passes c i (s ∷ list) later h = rw (le-ltb c s h.0) (within_passes c (i + 1) list later h.1)

-- a list of at most 64 such entries is answered
pub asked_number : {X : Type 0} (c : ℕ) (answer : List ℕ → X) (list : List ℕ) → length list ≤ 64 → AllByRecursion (λ s. s ≤ c) list → asked_of c answer list ≡ Ok (answer list)
asked_number c answer list few h = rw (le-ltb 64 (length list) few) (within_passes c 0 list (Ok (answer list)) h)

-- the walk refuses the same entry, whatever is later
entries_then : {X : Type 0} (c i : ℕ) (list : List ℕ) (x : X) → entries_check c i list (Ok x) ≡ outcome (λ _. x) (entries_check {X = Unit} c i list (Ok tt))
entries_then c i [] x = refl
entries_then {X} c i (s ∷ list) x =
    elim (ltb c s) as (λ b. refuse {X = X} b (fault Size Bound i) (entries_check c (i + 1) list (Ok x)) ≡ outcome (λ _. x) (refuse {X = Unit} b (fault Size Bound i) (entries_check c (i + 1) list (Ok tt)))) [
      | true ↦ refl
      | false ↦ entries_then c (i + 1) list x
    ]

-- a question is refused as the bare check is, and else answered
pub asked_then : {X : Type 0} (c : ℕ) (answer : List ℕ → X) (list : List ℕ) → asked_of c answer list ≡ outcome (λ _. answer list) (asked_of {X = Unit} c (λ _. tt) list)
asked_then {X} c answer list =
    elim (ltb 64 (length list)) as (λ b. refuse {X = X} b (fault TooMany Bound 64) (entries_check c 0 list (Ok (answer list))) ≡ outcome (λ _. answer list) (refuse {X = Unit} b (fault TooMany Bound 64) (entries_check c 0 list (Ok tt)))) [
      | true ↦ refl
      | false ↦ entries_then c 0 list (answer list)
    ]

module _ {X Y : Type 0} (c : ℕ) (answer : List ℕ → X) (other : List ℕ → Y) (list : List ℕ) where
  same_refusal : (m : Result Unit Fault) (f : Fault) → Err f ≡ outcome (λ _. answer list) m → Err f ≡ outcome (λ _. other list) m
  same_refusal (Ok u) f e = absurd (let z : ◌≡◌ {A = ℕ} 0 1 = cc in let n : ⊥ = omega arith in n)
  same_refusal (Err h) f e = let s : f ≡ h = cc in ap Err s

  -- what one question is refused with, every other at that capacity is
  pub asked_refused : (f : Fault) → Err f ≡ asked_of c answer list → Err f ≡ asked_of c other list
  asked_refused f e =
      same_refusal (asked_of c (λ _. tt) list) f (e ∙ asked_then c answer list) ∙ sym (asked_then c other list)

  both_answered : (m : Result Unit Fault) (x : X) → Ok x ≡ outcome (λ _. answer list) m → (x ≡ answer list) × (outcome (λ _. other list) m ≡ Ok (other list))
  both_answered (Ok u) x e = (cc, refl)
  both_answered (Err h) x e = absurd (let z : ◌≡◌ {A = ℕ} 0 1 = cc in let n : ⊥ = omega arith in n)

  -- where one question is answered, every other at that capacity is
  pub asked_answered : (x : X) → Ok x ≡ asked_of c answer list → (x ≡ answer list) × (asked_of c other list ≡ Ok (other list))
  asked_answered x e =
      let both = both_answered (asked_of c (λ _. tt) list) x (e ∙ asked_then c answer list) in
      (both.0, asked_then c other list ∙ both.1)
