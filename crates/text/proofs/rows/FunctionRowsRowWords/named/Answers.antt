use Rattle.std.proofs.Common.{rules, codes, arith}
use Rattle.std.proofs.lemmas.Slice.Eq.{text_from_reads}
use Rattle.text.proofs.rows.FunctionRowsRowWords.named.Goals as goal

pub returns-in-threshold : goal.returns-in-threshold
returns-in-threshold c = rw (text_from_reads c.args.text.now (codes "threshold") (omega arith) (search rules))

pub returns-in-rounding : goal.returns-in-rounding
returns-in-rounding c = rw (text_from_reads c.args.text.now (codes "rounding") (omega arith) (search rules))

pub returns-in-division : goal.returns-in-division
returns-in-division c = rw (text_from_reads c.args.text.now (codes "division") (omega arith) (search rules))

pub returns-in-counting : goal.returns-in-counting
returns-in-counting c = rw (text_from_reads c.args.text.now (codes "counting") (omega arith) (search rules))
