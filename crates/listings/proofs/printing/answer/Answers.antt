use Rattle.std.proofs.Common.{◌≡◌, ℕ, List, is_ok, Ok, vec_items, sym, ap, ◌∙◌}
use Rattle.bounds.specs.Bounds.{asked_of}
use Rattle.bounds.proofs.Entries.{asked_number}
use Rattle.lines.specs.Words.{Words}
use Rattle.listings.specs.Answers.{printed, lower_line_text}
use Rattle.listings.specs.Laying.{Laying}
use Rattle.listings.specs.Listings.{Content, empty}
use Rattle.listings.specs.Texts.{CuttingList, list_from, list_of, listed}
use Rattle.listings.specs.Written.{ReadAsWritten}
use Rattle.listings.proofs.Keeping.{list_kept}
use Rattle.listings.proofs.WrittenTexts.{read_as_written}
use Rattle.listings.proofs.printing.answer.Given as given
use Rattle.listings.proofs.printing.answer.Goals as goal

-- the reading of every text is that of its lines
as_written : (g : given.Over) (text : List ℕ) → ReadAsWritten g.R.RowWords.words g.R.Rows.laying text
as_written g text = read_as_written g.R.RowWords.words g.met.R.RowWords.told g.R.Rows.laying text

-- a text that is read to its end, with the rows and the cuts that it left
module _ {Kind Row R : Type 0} (words : Words Kind) (laying : Laying Kind Row) (seen : R → ℕ × List Row) (figure : ℕ → List ℕ → List Row → ℕ)
    (text : List ℕ) (s : Content Row) (start : s ≡ empty) (r : R) (cuts : List ℕ) (read : listed seen (Ok r) cuts ≡ list_from words laying s text) where
  text_read : listed seen (Ok r) cuts ≡ list_of words laying text
  text_read = read ∙ ap (λ before. list_from words laying before text) start

  -- its lower figure is not refused
  figure_told : asked_of (seen r).0 (λ list. figure (seen r).0 list (seen r).1) cuts ≡ Ok (figure (seen r).0 cuts (seen r).1)
  figure_told =
      let list : CuttingList Row = record { capacity = (seen r).0; cuts = cuts; rows = (seen r).1 } in
      let kept = list_kept laying (λ _ _. Unit {0}) (record { begun = λ _ _ _. tt; added = λ _ _ _ _ _ _ _. tt }) words text list (sym text_read) in
      asked_number (seen r).0 (λ sizes. figure (seen r).0 sizes (seen r).1) cuts kept.few kept.sized

pub unwrap-lower-requires : goal.unwrap-lower-requires
unwrap-lower-requires g c =
    let seen = g.R.Rows.seen in
    let figure = g.R.Bounding.figure in
    let r = c.in-Ok.rows in
    let told = figure_told g.R.RowWords.words g.R.Rows.laying seen figure c.args.input.now _ c.in_ok-listing.ensures r (vec_items c.read_text.new.self.cuts) c.in-Ok.ensures in
    ap is_ok (c.lower_figure.ensures ∙ ap (asked_of (seen r).0 (λ list. figure (seen r).0 list (seen r).1)) c.as_slice.ensures.value ∙ told)

pub returns-in-Ok-clause-text : goal.returns-in-Ok-clause-text
returns-in-Ok-clause-text g c =
    let words = g.R.RowWords.words in
    let laying = g.R.Rows.laying in
    let seen = g.R.Rows.seen in
    let figure = g.R.Bounding.figure in
    let r = c.in-Ok.rows in
    let cuts = vec_items c.read_text.new.self.cuts in
    let read = text_read words laying seen figure c.args.input.now _ c.in_ok-listing.ensures r cuts c.in-Ok.ensures in
    let told = c.lower_figure.ensures ∙ ap (asked_of (seen r).0 (λ list. figure (seen r).0 list (seen r).1)) c.as_slice.ensures.value ∙ figure_told words laying seen figure c.args.input.now _ c.in_ok-listing.ensures r cuts c.in-Ok.ensures in
    let same : c.unwrap-lower.result ≡ figure (seen r).0 cuts (seen r).1 = cc in
    c.in_ok-lower_line-in-Ok.ensures ∙ ap lower_line_text same ∙ ap (printed figure) read

pub returns-in_err-listing-clause-lines : goal.returns-in_err-listing-clause-lines
returns-in_err-listing-clause-lines g c = as_written g c.args.input.now

pub returns-in_err-lower_line-in-Ok-clause-lines : goal.returns-in_err-lower_line-in-Ok-clause-lines
returns-in_err-lower_line-in-Ok-clause-lines g c = as_written g c.args.input.now

pub returns-in-Ok-clause-lines : goal.returns-in-Ok-clause-lines
returns-in-Ok-clause-lines g c = as_written g c.args.input.now

pub returns-in_err-refused_line-in-Err-clause-lines : goal.returns-in_err-refused_line-in-Err-clause-lines
returns-in_err-refused_line-in-Err-clause-lines g c = as_written g c.args.input.now

pub returns-clause-lines : goal.returns-clause-lines
returns-clause-lines g c = as_written g c.args.input.now
