use Rattle.piles.specs.Images.{pile_image_in_range}
use Rattle.piles.proofs.pile.Pile.check_row.Goals as goal

pub too_large-requires-clause-below : goal.too_large-requires-clause-below
too_large-requires-clause-below c = (pile_image_in_range c.args.self.now).1
