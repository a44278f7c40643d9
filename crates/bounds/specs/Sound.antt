-- No plan of a list has fewer bars than the numbers that the bounders tell.
use Rattle.std.specs.Prelude.{ℕ, suc, ◌+◌, ◌-◌, ◌*◌, ◌<◌, ◌≤◌, max, List, ◌==◌}
use Rattle.std.proofs.Common.{subst, suc-mul, arith}
use Rattle.std.proofs.lemmas.Nat.{div_below}
use Rattle.std.proofs.lemmas.Bool.{cond_both, eqb-true}
use Rattle.plans.specs.Plans.{total, Packs, AtLeast}
use Rattle.plans.proofs.OverBars.{total_over_bars}
use Rattle.dual_feasible.specs.Laws.{Lawful}
use Rattle.bounds.specs.Bounds.{bound, greater, Sound}

-- the bound of a lawful function
pub bound_sound : (c d : ℕ) (v : ℕ → ℕ) → 1 ≤ d → Lawful c d v → (list : List ℕ) → AtLeast c list (bound d v list)
bound_sound c d v pos law list n plan packs =
    let heavy : total v list ≤ n * d = total_over_bars v c d law list n plan packs in
    let h : total v list + (d - 1) < suc n * d = omega (arith, suc-mul n d) in
    let less : bound d v list < suc n = div_below (total v list + (d - 1)) d (suc n) pos h in
    omega arith

-- the greater of the numbers of two bounders
pub greater_sound : (c d : ℕ) (first second : List ℕ → ℕ) → Sound c first → Sound d second → Sound c (λ list. greater c d (first list) (second list))
greater_sound c d first second sound-first sound-second list few n plan packs =
    let below-first : first list ≤ n = sound-first list few n plan packs in
    cond_both (c == d) (max (first list) (second list)) 0 (λ m. m ≤ n) (λ e. let below-second : second list ≤ n = sound-second list few n plan (subst (λ (k : ℕ). Packs k list n plan) (eqb-true c d e) packs) in omega arith) (λ _. omega arith)
