use Rattle.std.proofs.Common.{Some, None, arith}
use Rattle.std.proofs.lemmas.List.Sums.{prefix_len-le-length}
use Rattle.lines.specs.Lines.{not_blank}
use Rattle.lines.proofs.TakenApart.{entry_from}
use Rattle.lines.proofs.entry.Goals as goal

pub split_at-requires : goal.split_at-requires
split_at-requires g c = omega (arith, prefix_len-le-length not_blank c.args.line.now)

pub returns-in_default-number : goal.returns-in_default-number
returns-in_default-number g c =
    entry_from g.W.RowWords.words c.args.line.now c.before_blank.result c.split_at.result.0.now c.split_at.result.1.now c.before_blank.ensures c.split_at.ensures.front c.split_at.ensures.back (Some c.in-Some.word) None c.in-Some.ensures c.in_default-number.ensures

pub returns : goal.returns
returns g c =
    entry_from g.W.RowWords.words c.args.line.now c.before_blank.result c.split_at.result.0.now c.split_at.result.1.now c.before_blank.ensures c.split_at.ensures.front c.split_at.ensures.back (Some c.in-Some.word) (Some c.in-Some-number.number) c.in-Some.ensures c.in-Some-number.ensures
