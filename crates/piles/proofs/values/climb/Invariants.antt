use Rattle.std.proofs.Common.{◌≡◌, drop}
use Rattle.piles.specs.Walks.{climbed, Climbs}
use Rattle.piles.proofs.values.climb.Given as goal

-- what is left of the steps carries the value up to the answer
abbrev pub invariant-loop-step : goal.invariant-loop-step
invariant-loop-step l =
    Climbs l.value (drop l.step-index l.steps)
    × (climbed l.value (drop l.step-index l.steps) ≡ climbed l.start l.steps)
