use Rattle.std.proofs.Common.{Err, ap, ◌∙◌, arith}
use Rattle.std.proofs.lemmas.Result.{err_from_is_err_and}
use Rattle.listings.specs.Listings.{content}
use Rattle.listings.proofs.Scanning.{rest_shorter, line_accepted, line_refused, line_broken}
use Rattle.listings.proofs.listing.Listing.scan.Goals as goal

pub returns-in_err-stopped_at : goal.returns-in_err-stopped_at
returns-in_err-stopped_at g c =
    let r = g.R.Rows in
    let q = err_from_is_err_and c.from_residual.result c.from_residual.ensures.1 in
    rw (q.1, q.2)
    (line_refused g.R.RowWords.words r.laying c.loop-end.line (content r.seen c.loop-end.self) c.loop-end.rest.now c.in-Some.end c.in-Some.ensures c.read_line.result (content r.seen c.read_line.new.self) c.in_err-stopped_at.field-0.0 c.in_err-stopped_at.ensures c.read_line.ensures
    ∙ c.loop-end.invariant.1)

pub loop-end-preserved : goal.loop-end-preserved
loop-end-preserved g c =
    let r = g.R.Rows in
    let s = content r.seen c.loop-end.self in (
      omega (arith, c.loop-end.invariant.0, rest_shorter g.R.RowWords.words r.laying c.loop-end.line s c.loop-end.rest.now c.in-Some.end c.in-Some.ensures),
      line_accepted g.R.RowWords.words r.laying c.loop-end.line s c.loop-end.rest.now c.in-Some.end c.in-Some.ensures c.read_line.result (content r.seen c.read_line.new.self) tt c.in_ok-stopped_at.ensures c.read_line.ensures
          ∙ c.loop-end.invariant.1,
    )

pub returns-then-not-is_empty : goal.returns-then-not-is_empty
returns-then-not-is_empty g c =
    let r = g.R.Rows in
    ap Err c.malformed_at.ensures
    ∙ line_broken g.R.RowWords.words r.laying c.loop-end.line (content r.seen c.loop-end.self) c.loop-end.rest.now c.in_default.ensures c.if-not-is_empty.ensures
    ∙ c.loop-end.invariant.1
