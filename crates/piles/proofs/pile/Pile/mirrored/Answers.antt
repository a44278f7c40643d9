use Rattle.std.proofs.Common.{sym, arith}
use Rattle.std.proofs.lemmas.List.{length-take-le}
use Rattle.piles.proofs.Mirroring.{inside, below_half, at_half, above_half}
use Rattle.piles.proofs.pile.Pile.mirrored.Goals as goal

pub slice_bounds-beneath-end : goal.slice_bounds-beneath-end
slice_bounds-beneath-end c =
    let h = inside c.args.self.now c.args.top c.requires.top in
    rw c.as_slice-steps.ensures.value (sym (length-take-le c.args.top c.args.self.now.steps.items (omega arith)))

pub returns-then-size-self : goal.returns-then-size-self
returns-then-size-self c =
    let r = below_half c.args.self.now c.args.top c.requires.top c.index-steps-top.result c.args.size c.climb.result c.if-size-self.true (rw c.as_slice-steps.ensures.value at c.climb.ensures) in
    record { climbs = r.0; value = r.1 }

pub returns-then-size-self-2 : goal.returns-then-size-self-2
returns-then-size-self-2 c =
    let r = at_half c.args.self.now c.args.top c.requires.top c.index-steps-top.result c.args.size c.if-size-self-2.true in
    rw c.as_slice-steps.ensures.value (record { climbs = r.0; value = r.1 })

pub returns : goal.returns
returns c =
    let r = above_half c.args.self.now c.args.top c.requires.top c.index-steps-top.result c.args.size c.climb-2.result c.if-size-self.false c.if-size-self-2.false c.requires.size (rw c.as_slice-steps.ensures.value at c.climb-2.ensures) in
    rw c.as_slice-steps.ensures.value (record { climbs = r.0; value = r.1 })
