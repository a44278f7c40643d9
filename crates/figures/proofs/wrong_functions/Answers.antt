use Rattle.std.proofs.Common.{refl, arith, lit≤}
use Rattle.figures.specs.Wrong.{symmetrised_counting, rounding_without_exact}
use Rattle.figures.proofs.wrong_functions.Goals as goal

pub returns : goal.returns
returns c =
    record {
      count = refl;
      break_law = (
        record { fits = lit≤ tt; weighs = refl; unlawful = λ lawful. omega (arith, lawful symmetrised_counting.sizes (lit≤ tt)) },
        (
          record { fits = lit≤ tt; weighs = refl; unlawful = λ lawful. omega (arith, lawful rounding_without_exact.sizes (lit≤ tt)) },
          tt,
        ),
      );
    }
