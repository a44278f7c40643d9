use Rattle.std.proofs.Common.{◌≡◌, min, take, arith}
use Rattle.std.proofs.lemmas.Grind.{common_steps}
use Rattle.piles.specs.Contents.{pile_rows}
use Rattle.piles.specs.Relaying.{pile_again}
use Rattle.piles.proofs.pile.Pile.rows.Goals as goal

pub returns-clause-again : goal.returns-clause-again
returns-clause-again c =
    let same : take (min c.len-count.result 8) c.loop-i.rows ≡ pile_rows c.args.self.now = grind (arith, common_steps) in
    rw same (pile_again c.args.self.now)
