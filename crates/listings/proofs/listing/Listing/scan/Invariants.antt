use Rattle.std.proofs.Common.{◌≡◌, ◌+◌, ◌≤◌, [], length}
use Rattle.listings.specs.Listings.{content}
use Rattle.listings.specs.Texts.{scanned}
use Rattle.listings.proofs.listing.Listing.scan.Given as goal

-- the lines to come give the answer
abbrev pub invariant-loop-end : goal.invariant-loop-end
invariant-loop-end g l =
    let r = g.R.Rows in
    let words = g.R.RowWords.words in
    (l.line + length l.rest ≤ length l.text + 1)
    × (scanned words r.laying l.line (content r.seen l.self) [] l.rest ≡ scanned words r.laying 1 (content r.seen l.initial.self) [] l.text)

abbrev pub decreases-loop-end : goal.decreases-loop-end
decreases-loop-end g l = length l.rest
