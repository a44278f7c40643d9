-- Functions that look right and break the law, each with a list of sizes that fits and weighs too much.
use Rattle.std.specs.Prelude.{◌≡◌, ℕ, ◌+◌, ◌*◌, ◌/◌, ◌≤◌, List, [], ◌∷◌}
use Rattle.std.specs.List.{AllByRecursion}
use Rattle.plans.specs.Plans.{total, sum}
use Rattle.dual_feasible.specs.Laws.{Lawful}
use Rattle.functions.specs.Values.{counting, counting_image, rounding_image}
use Rattle.layers.specs.Layers.{symmetrised, symmetrised_image}

pub record Wrong : Type 0 where
  pub capacity : ℕ
  pub image : ℕ
  pub value : ℕ → ℕ
  pub sizes : List ℕ
  pub weight : ℕ

-- counting 2 at capacity 10, symmetrised though it is not superadditive: 6, 2 and 2 weigh 12 against 10
abbrev pub symmetrised_counting : Wrong
symmetrised_counting =
    record {
      capacity = 10;
      image = symmetrised_image (counting_image 10 2);
      value = symmetrised 10 (counting_image 10 2) (counting 10 2);
      sizes = 6 ∷ 2 ∷ 2 ∷ [];
      weight = 12;
    }

-- rounding without its exact case
abbrev pub rounded_only : ℕ → ℕ → ℕ → ℕ
rounded_only c k s = c * ((k + 1) * s / c)

-- rounding 2 at capacity 9 without it: three pieces of 3 weigh 27 against 18
abbrev pub rounding_without_exact : Wrong
rounding_without_exact =
    record {
      capacity = 9;
      image = rounding_image 9 2;
      value = rounded_only 9 2;
      sizes = 3 ∷ 3 ∷ 3 ∷ [];
      weight = 27;
    }

abbrev pub wrong : List Wrong
wrong = symmetrised_counting ∷ rounding_without_exact ∷ []

-- the sizes fit, they weigh what was worked out, and the function is not lawful
pub record Breaks (w : Wrong) : Type 0 where
  pub fits : sum w.sizes ≤ w.capacity
  pub weighs : total w.value w.sizes ≡ w.weight
  pub unlawful : Lawful w.capacity w.image w.value → ⊥

abbrev pub AllBreak : List Wrong → Type 0
AllBreak functions = AllByRecursion Breaks functions
