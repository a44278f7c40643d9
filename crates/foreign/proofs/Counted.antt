-- Counting the entries above half the capacity.
use Rattle.std.proofs.Common.{◌≡◌, ℕ, ◌*◌, ◌/◌, ◌<◌, ◌≤◌, List, count_by, nat_lt, refl, ⊎_elim, sym, ◌∙◌, arith, rules}
use Rattle.std.proofs.lemmas.List.Recursion.{is_count_by}
use Rattle.std.proofs.lemmas.Bool.{cases_lt, lt-ltb, le-ltb}
use Rattle.foreign.specs.AboveHalf.{above_half}

-- a size is above half the capacity where it is above the half, rounded down
above_rounded : (c s : ℕ) → nat_lt c (2 * s) ≡ nat_lt (c / 2) s
above_rounded c s =
    ⊎_elim
    (λ (h : c < 2 * s). lt-ltb c (2 * s) h ∙ sym (lt-ltb (c / 2) s (omega arith)))
    (λ (h : 2 * s ≤ c). le-ltb c (2 * s) h ∙ sym (le-ltb (c / 2) s (omega arith)))
    (cases_lt c (2 * s))

-- so the entries above half the capacity are those above it
pub above_counted : (c : ℕ) (list : List ℕ) → above_half c list ≡ count_by (λ s. nat_lt (c / 2) s) list
above_counted c list = is_count_by (above_half c) (λ s. nat_lt (c / 2) s) refl (λ s rest. rw (above_rounded c s) (search rules)) list
