use Rattle.std.proofs.Common.{ℕ, List, ap, ◌∙◌}
use Rattle.faults.specs.declared.Fault.{Fault}
use Rattle.faults.proofs.Refusals.{same_answer}
use Rattle.bounds.specs.Bounds.{asked_of}
use Rattle.piles.specs.Contents.{pile_rows}
use Rattle.piles.specs.Laying.{pile_of}
use Rattle.piles.specs.Plain.{rows_in}
use Rattle.piles.specs.declared.rows.Row.{Row}
use Rattle.piles.specs.Relaying.{pile_whole}
use Rattle.banks.specs.Banks.{pile_bound}
use Rattle.banks.proofs.asking.bound_of.Goals as goal

-- the pile that is made has the capacity and the rows that it is made from
pub returns : goal.returns
returns c =
    let size = c.args.capacity in
    let rows = rows_in c.args.rows.now in
    let pile = c.in_ok-pile.pile in
    let same = same_answer {E = Fault} (pile.capacity, pile_rows pile) (size, rows) (c.in_ok-pile.ensures ∙ ap (pile_of size) c.as_slice.ensures ∙ pile_whole size rows c.requires) in
    c.lower_bound.ensures.answer ∙ ap (λ (p : ℕ × List Row). asked_of p.0 (λ l. pile_bound p.0 l p.1) c.args.list.now) same
