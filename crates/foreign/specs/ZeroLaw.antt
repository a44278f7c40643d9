-- Nothing weighs too much where everything weighs nothing.
use Rattle.std.specs.Prelude.{ℕ}
use Rattle.std.proofs.Common.{arith}
use Rattle.dual_feasible.specs.Laws.{Lawful}
use Rattle.dual_feasible.proofs.Lawful.{lawful_from_adds}

pub zero_lawful : (c : ℕ) → Lawful c 1 (λ _. 0)
zero_lawful c = lawful_from_adds c 1 (λ _. 0) (λ a b h. omega arith) (omega arith)
