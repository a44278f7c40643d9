-- Every plan has a bar for each entry above half the capacity.
use Rattle.std.specs.Prelude.{ℕ, ◌*◌, ◌<◌, ◌≤◌, List, [], ◌∷◌}
use Rattle.std.proofs.Common.{⊎_elim, arith}
use Rattle.std.proofs.lemmas.Bool.{cases_lt, lt-ltb, le-ltb}
use Rattle.plans.specs.Plans.{total, sum}
use Rattle.plans.proofs.OverBars.{total_over_bars}
use Rattle.bounds.specs.Bounds.{Sound}
use Rattle.foreign.specs.AboveHalf.{half, above_half}

module _ (c : ℕ) where
  -- a list that fills no more than half a bar has none
  none_above : (sizes : List ℕ) → 2 * sum sizes ≤ c → total (half c) sizes ≤ 0
  none_above [] h = omega arith
  none_above (s ∷ sizes) h =
      rw (le-ltb c (2 * s) (omega arith)) (omega (arith, none_above sizes (omega arith)))

  -- a list that fits into a bar has at most one
  one_above : (sizes : List ℕ) → sum sizes ≤ c → total (half c) sizes ≤ 1
  one_above [] h = omega arith
  one_above (s ∷ sizes) h =
      ⊎_elim
      (λ (e : c < 2 * s). rw (lt-ltb c (2 * s) e) (omega (arith, none_above sizes (omega arith))))
      (λ (e : 2 * s ≤ c). rw (le-ltb c (2 * s) e) (omega (arith, one_above sizes (omega arith))))
      (cases_lt c (2 * s))

  -- so no plan has fewer bars than the list has such entries
  pub above_half_sound : Sound c (above_half c)
  above_half_sound list few n plan packs =
      omega (arith, total_over_bars (half c) c 1 one_above list n plan packs)
