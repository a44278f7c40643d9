-- The walk over the rows of a pile that a value costs.
use Rattle.std.specs.Prelude.{◌≡◌, ℕ, ◌*◌, ◌/◌, ◌≤◌, true, List, [], ◌∷◌}
use Rattle.dual_feasible.specs.Laws.{InRange}
use Rattle.functions.specs.Values.{threshold, rounding, division, counting}
use Rattle.piles.specs.Standing.{stands}
use Rattle.piles.specs.declared.rows.Kind.{Kind}
use Rattle.piles.specs.declared.rows.Kind.TheVariants.{Threshold, Rounding, Division, Counting, Symmetrisation, Scaling}
use Rattle.piles.specs.declared.rows.Step.{Step}

-- what a row with the parameter p, laid over an image capacity d, makes of the value n below it; a symmetrisation is met
-- here below half the capacity alone
abbrev pub raised : Kind → ℕ → ℕ → ℕ → ℕ
raised Threshold d p n = threshold d p n
raised Rounding d p n = rounding d p n
raised Division d p n = division p n
raised Counting d p n = counting d p n
raised Symmetrisation d p n = 2 * n
raised Scaling d p n = n * p / d

-- the value n carried up all steps
abbrev pub climbed : ℕ → List Step → ℕ
climbed n [] = n
climbed n (step ∷ steps) = climbed (raised step.row.kind step.below step.row.parameter n) steps

-- the steps stand over some image capacity in range that n does not pass
pub record Climbs (n : ℕ) (steps : List Step) : Type 0 where
  pub ground : ℕ
  pub limits : InRange ground
  pub standing : stands ground steps ≡ true
  pub low : n ≤ ground
