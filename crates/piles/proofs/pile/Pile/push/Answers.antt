use Rattle.piles.specs.Images.{pile_image_in_range}
use Rattle.piles.proofs.pile.Pile.push.Goals as goal

pub invariant_of-step-clause-limits : goal.invariant_of-step-clause-limits
invariant_of-step-clause-limits c = pile_image_in_range c.args.self.now
