-- What one row makes of a function below it that keeps its laws.
use Rattle.std.specs.Prelude.{◌≡◌, ℕ, ◌*◌, ◌≤◌, Bool, true, false, not, ◌&&◌, ◌||◌}
use Rattle.std.proofs.lemmas.Bool.{true≢false, not-true, or_parts, ltb-false}
use Rattle.faults.proofs.Refusals.{within}
use Rattle.dual_feasible.specs.Laws.{InRange, Lawful, Adds}
use Rattle.functions.specs.Values.{threshold, rounding, division, counting}
use Rattle.functions.specs.SuperadditiveValues.{threshold_adds, threshold_lawful, rounding_adds, rounding_lawful, division_adds, division_lawful}
use Rattle.functions.specs.CountingLaw.{counting_lawful}
use Rattle.layers.specs.ComposedLaw.{composed_lawful, composed_adds}
use Rattle.layers.specs.SymmetrisedLaw.{symmetrised_adds, symmetrised_lawful}
use Rattle.layers.specs.ScaledLaw.{scaled_adds, scaled_lawful}
use Rattle.piles.specs.Kinds.{symmetrises, counts}
use Rattle.piles.specs.Layered.{image_over_kind, value_over}
use Rattle.piles.specs.Laying.{accepted}
use Rattle.piles.specs.declared.rows.Kind.{Kind}
use Rattle.piles.specs.declared.rows.Kind.TheVariants.{Threshold, Rounding, Division, Counting, Symmetrisation, Scaling}
use Rattle.piles.specs.Images.{accepted_parts, counting_range}

-- lawful, and superadditive too where no counting row lies among the rows
pub record Keeps (c d : ℕ) (v : ℕ → ℕ) (counting-seen : Bool) : Type 0 where
  pub lawful : Lawful c d v
  pub adds : counting-seen ≡ false → Adds c v

-- what a counting row beneath tells of those above it
none_seen : (seen counting : Bool) → (seen || counting) ≡ false → seen ≡ false
none_seen seen counting e = (or_parts seen counting e).0

-- what a row adds to it
pub row_keeps : (kind : Kind) (c d p : ℕ) (v : ℕ → ℕ) (seen : Bool) → InRange c → InRange d → accepted kind d p ≡ true → not (symmetrises kind && seen) ≡ true → Keeps c d v seen
    → Keeps c (image_over_kind kind d p) (value_over kind c d p v) (seen || counts kind)
row_keeps Threshold c d p v seen cs ds e u k =
    let half : 2 * p ≤ d = ltb-false d (2 * p) (accepted_parts Threshold d p e).0 in
    record {
      lawful = composed_lawful d (threshold d p) d v c d k.lawful (threshold_lawful d p half);
      adds = λ n. composed_adds d (threshold d p) d v c d k.lawful (threshold_lawful d p half) (k.adds (none_seen seen false n)) (threshold_adds d p half);
    }
row_keeps Rounding c d p v seen cs ds e u k =
    record {
      lawful = composed_lawful d (rounding d p) d v c (d * p) k.lawful (rounding_lawful d p ds.0);
      adds = λ n. composed_adds d (rounding d p) d v c (d * p) k.lawful (rounding_lawful d p ds.0) (k.adds (none_seen seen false n)) (rounding_adds d p ds.0);
    }
row_keeps Division c d p v seen cs ds e u k =
    let low : 1 ≤ p = (within 1 d p (accepted_parts Division d p e).0).0 in
    record {
      lawful = composed_lawful d (division p) d v c (image_over_kind Division d p) k.lawful (division_lawful d p low);
      adds = λ n. composed_adds d (division p) d v c (image_over_kind Division d p) k.lawful (division_lawful d p low) (k.adds (none_seen seen false n)) (division_adds d p low);
    }
row_keeps Counting c d p v seen cs ds e u k =
    let low : 1 ≤ p = (counting_range d p (accepted_parts Counting d p e).0).0 in
    record {
      lawful = composed_lawful d (counting d p) d v c (image_over_kind Counting d p) k.lawful (counting_lawful d p low);
      adds = λ n. absurd (true≢false (or_parts seen true n).1);
    }
row_keeps Symmetrisation c d p v seen cs ds e u k =
    let none : seen ≡ false = not-true seen u in
    record {
      lawful = symmetrised_lawful c d v cs.0 k.lawful (k.adds none);
      adds = λ n. symmetrised_adds c d v cs.0 k.lawful (k.adds none);
    }
row_keeps Scaling c d p v seen cs ds e u k =
    record {
      lawful = scaled_lawful d p v ds.0 c k.lawful;
      adds = λ n. scaled_adds d p v ds.0 c (k.adds (none_seen seen false n));
    }
