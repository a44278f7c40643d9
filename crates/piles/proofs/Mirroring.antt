-- The topmost symmetrisation, the rows beneath it and the rows above it.
use Rattle.std.proofs.Common.{◌≡◌, ℕ, suc, ◌+◌, ◌-◌, ◌*◌, ◌<◌, ◌≤◌, true, false, eqb, List, [], ◌∷◌, ◌++◌, length, get_or, take, drop, Some, Option, sym, refl, ap, ◌∙◌, subst, inl, inr, ⊎_elim, arith}
use Rattle.std.proofs.lemmas.List.{map-append, take-append-drop, drop_more}
use Rattle.std.proofs.lemmas.Bool.{cases_Bool, false≢true, and_parts, and_from, eqb-true, eqb-false, eq-eqb, ne_eqb, lt-ltb, le-ltb, le-leb}
use Rattle.dual_feasible.specs.Laws.{greatest}
use Rattle.functions.specs.Values.{identity}
use Rattle.layers.specs.Layers.{mirrored}
use Rattle.piles.specs.Kinds.{symmetrises}
use Rattle.piles.specs.Laying.{accepted}
use Rattle.piles.specs.Layered.{image_over_kind, value_over, image_of, values_of, layered}
use Rattle.piles.specs.Standing.{rows_of, stands, plain, top_at, topmost}
use Rattle.piles.specs.Walks.{climbed, Climbs}
use Rattle.piles.specs.Contents.{pile_rows}
use Rattle.piles.specs.declared.pile.Pile.{Pile}
use Rattle.piles.specs.declared.rows.Kind.{Kind}
use Rattle.piles.specs.declared.rows.Kind.TheVariants.{Threshold, Rounding, Division, Counting, Symmetrisation, Scaling}
use Rattle.piles.specs.declared.rows.Row.{Row}
use Rattle.piles.specs.declared.rows.Step.{Step}
use Rattle.piles.specs.Images.{stands_parts}
use Rattle.piles.proofs.Climbing.{no_step, twice_in_range, climbed_below, values_climbed}

-- rows over rows
values_append : (c d : ℕ) (v : ℕ → ℕ) (xs ys : List Row) (s : ℕ) → values_of c d v (xs ++ ys) s ≡ values_of c (image_of d xs) (values_of c d v xs) ys s
values_append c d v [] ys s = refl
values_append c d v (x ∷ xs) ys s = values_append c (image_over_kind x.kind d x.parameter) (value_over x.kind c d x.parameter v) xs ys s

stands_append : (d : ℕ) (xs ys : List Step) → stands d (xs ++ ys) ≡ true → (stands d xs ≡ true) × (stands (image_of d (rows_of xs)) ys ≡ true)
stands_append d [] ys e = (refl, e)
stands_append d (x ∷ xs) ys e =
    let p = and_parts (eqb x.below d) (stands (image_over_kind x.row.kind d x.row.parameter) (xs ++ ys)) e in
    let q = stands_append (image_over_kind x.row.kind d x.row.parameter) xs ys p.1 in
    (and_from (eqb x.below d) (stands (image_over_kind x.row.kind d x.row.parameter) xs) p.0 q.0, q.1)

-- only a symmetrisation symmetrises
is_symmetrisation : (kind : Kind) → symmetrises kind ≡ true → kind ≡ Symmetrisation
is_symmetrisation Threshold e = absurd (false≢true e)
is_symmetrisation Rounding e = absurd (false≢true e)
is_symmetrisation Division e = absurd (false≢true e)
is_symmetrisation Counting e = absurd (false≢true e)
is_symmetrisation Symmetrisation e = refl
is_symmetrisation Scaling e = absurd (false≢true e)

-- the topmost symmetrisation is one of the steps, and none above it mirrors
top_found : (d : Step) (steps : List Step) (i : ℕ) → top_at i (rows_of steps) ≡ true
    → (i < length steps) × (symmetrises (get_or steps i d).row.kind ≡ true) × (plain (rows_of (drop (i + 1) steps)) ≡ true)
top_found d [] i e = absurd (false≢true e)
top_found d (step ∷ steps) i e =
    ⊎_elim
    (λ (z : eqb i 0 ≡ true).
    let p = and_parts (symmetrises step.row.kind) (plain (rows_of steps)) (rw z at e) in
    rw (eqb-true i 0 z) (omega arith, p.0, p.1))
    (λ (z : eqb i 0 ≡ false).
    let q = top_found d steps (i - 1) (rw z at e) in
    let above : i ≡ 0 → ⊥ = eqb-false i 0 z in
    let next : i ≡ suc (i - 1) = omega arith in
    let last : suc (i - 1) + 1 ≡ suc (i - 1 + 1) = omega arith in
    rw (next, last) ((omega (arith, q.0), q.1, q.2)))
    (cases_Bool (eqb i 0))

-- what is known of the steps around a symmetrisation
pub record Around (c : ℕ) (low : List Step) (step : Step) (high : List Step) : Type 0 where
  pub standing : stands c low ≡ true
  pub image : step.below ≡ image_of c (rows_of low)
  pub twice : 2 * step.below ≤ greatest
  pub above : stands (2 * step.below) high ≡ true
  pub value : (s : ℕ) → values_of c c identity (rows_of (low ++ step ∷ high)) s ≡ climbed (mirrored c step.below (values_of c c identity (rows_of low)) s) high

around : (c : ℕ) (low : List Step) (step : Step) (high : List Step) → step.row.kind ≡ Symmetrisation → stands c (low ++ step ∷ high) ≡ true → plain (rows_of high) ≡ true → Around c low step high
around c low step high sure e none =
    let row = step.row in
    let below = step.below in
    let parts = stands_append c low (step ∷ high) e in
    let d = image_of c (rows_of low) in
    let p = stands_parts d step high parts.1 in
    let image : below ≡ d = eqb-true below d p.0 in
    let fits : 2 * d ≤ greatest = twice_in_range d row.parameter (subst (λ (k : Kind). accepted k d row.parameter ≡ true) sure p.1) in
    let v = values_of c c identity (rows_of low) in
    let over : image_over_kind row.kind d row.parameter ≡ 2 * below = ap (λ k. image_over_kind k d row.parameter) sure ∙ rw (le-leb (2 * d) greatest fits) (ap (λ n. 2 * n) (sym image)) in
    record {
      standing = parts.0;
      image = image;
      twice = omega arith;
      above = subst (λ (n : ℕ). stands n high ≡ true) over p.2;
      value =
          λ s.
          let here : value_over row.kind c d row.parameter v s ≡ mirrored c below v s = ap (λ k. value_over k c d row.parameter v s) sure ∙ rw (le-leb (2 * d) greatest fits) (ap (λ n. mirrored c n v s) (sym image)) in
          ap (λ rows. values_of c c identity rows s) (map-append (λ (x : Step). x.row) low (step ∷ high))
          ∙ values_append c c identity (rows_of low) (rows_of (step ∷ high)) s
          ∙ values_climbed c (image_over_kind row.kind d row.parameter) (value_over row.kind c d row.parameter v) s high p.2 (inr none)
          ∙ ap (λ n. climbed n high) here;
    }

module _ (p : Pile) (top : ℕ) (is : p.mirror ≡ Some top) where
  at_top : top_at top (pile_rows p) ≡ true
  at_top = subst (λ (m : Option ℕ). topmost m (pile_rows p) ≡ true) is p.top

  -- the topmost symmetrisation is a row of the pile
  pub inside : top < length p.steps.items
  inside = (top_found no_step p.steps.items top at_top).0

  -- that row's step, the steps beneath it and those above it, as the code reads and cuts them
  module _ (d : Step) where
    abbrev low : List Step
    low = take top p.steps.items

    abbrev high : List Step
    high = drop (top + 1) p.steps.items

    abbrev step : Step
    step = get_or p.steps.items top d

    whole : low ++ step ∷ high ≡ p.steps.items
    whole = ap (λ xs. low ++ xs) (sym (drop_more p.steps.items top d inside)) ∙ take-append-drop top p.steps.items

    surroundings : Around p.capacity low step high
    surroundings =
        let f = top_found d p.steps.items top at_top in
        around p.capacity low step high (is_symmetrisation step.row.kind f.1) (subst (λ (xs : List Step). stands p.capacity xs ≡ true) (sym whole) p.standing) f.2

    -- the steps beneath carry up every size of the pile
    pub low_climbs : (s : ℕ) → s ≤ p.capacity → Climbs s low
    low_climbs s h = record { ground = p.capacity; limits = p.limits; standing = surroundings.standing; low = h }

    -- below half the capacity they carry it up to the value of their rows, and twice that is in range
    pub low_fits : (s n : ℕ) → 2 * s < p.capacity → n ≡ climbed s low → (2 * n ≤ 2 * step.below) × (2 * step.below ≤ greatest)
    low_fits s n half e = (omega (arith, e, surroundings.image, climbed_below p.capacity s low p.limits surroundings.standing (omega arith)), surroundings.twice)

    low_value : (s n : ℕ) → 2 * s < p.capacity → n ≡ climbed s low → n ≡ values_of p.capacity p.capacity identity (rows_of low) s
    low_value s n half e = e ∙ sym (values_climbed p.capacity p.capacity identity s low surroundings.standing (inl half))

    -- the steps above carry the value up to that of the pile
    abbrev pub Carried : ℕ → ℕ → Type 0
    Carried s n = Climbs n high × (climbed n high ≡ layered p.capacity (pile_rows p) s)

    carried_up : (s n : ℕ) → n ≡ mirrored p.capacity step.below (values_of p.capacity p.capacity identity (rows_of low)) s → n ≤ 2 * step.below → Carried s n
    carried_up s n e h = (
      record { ground = 2 * step.below; limits = (omega (arith, step.limits.0), surroundings.twice); standing = surroundings.above; low = h },
      ap (λ m. climbed m high) e ∙ sym (surroundings.value s) ∙ ap (λ xs. layered p.capacity (rows_of xs) s) whole,
    )

    pub below_half : (s n : ℕ) → 2 * s < p.capacity → n ≡ climbed s low → Carried s (2 * n)
    below_half s n half e = carried_up s (2 * n) (rw (lt-ltb (2 * s) p.capacity half) (ap (λ m. 2 * m) (low_value s n half e))) (low_fits s n half e).0

    pub at_half : (s : ℕ) → 2 * s ≡ p.capacity → Carried s step.below
    at_half s half =
        let not-below : p.capacity ≤ 2 * s = omega arith in
        carried_up s step.below (rw (le-ltb (2 * s) p.capacity not-below, eq-eqb (2 * s) p.capacity half)) (omega arith)

    -- the size below half that a size above it mirrors
    pub mirrors : (s : ℕ) → p.capacity ≤ 2 * s → (2 * s ≡ p.capacity → ⊥) → s ≤ p.capacity → 2 * (p.capacity - s) < p.capacity
    mirrors s above other h = omega arith

    pub above_half : (s n : ℕ) → p.capacity ≤ 2 * s → (2 * s ≡ p.capacity → ⊥) → s ≤ p.capacity → n ≡ climbed (p.capacity - s) low → Carried s (2 * step.below - 2 * n)
    above_half s n above other h e =
        carried_up s (2 * step.below - 2 * n)
        (rw (le-ltb (2 * s) p.capacity above, ne_eqb (2 * s) p.capacity other) (ap (λ m. 2 * step.below - 2 * m) (low_value (p.capacity - s) n (mirrors s above other h) e)))
        (omega arith)

-- for the goals of the walk around the topmost symmetrisation
pub ruleset around_top = (inside, low_climbs, low_fits, mirrors)
