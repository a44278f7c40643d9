-- The reading of a text is that of its lines.
use Rattle.std.proofs.Common.{◌≡◌, ℕ, ◌+◌, true, false, eqb, ltb, List, [], ◌∷◌, ◌++◌, length, Some, None, Ok, Err, decimal, Option, Result, sym, refl, ap, ◌∙◌, subst, ⊎_elim}
use Rattle.std.specs.List.{AllByRecursion}
use Rattle.std.proofs.lemmas.List.{append_assoc, append-nil, nil_from_length}
use Rattle.std.proofs.lemmas.Bool.{cases_Bool, eqb-true, ne_eqb, le-ltb}
use Rattle.faults.specs.declared.Fault.{Fault}
use Rattle.faults.proofs.Refusals.{no_answer}
use Rattle.lines.specs.declared.Word.{Word}
use Rattle.lines.specs.Lines.{spelling, entry_of}
use Rattle.lines.specs.Told.{AreWords}
use Rattle.lines.specs.Words.{Words}
use Rattle.lines.proofs.PutTogether.{entry_written, entry_reads, entry_one_line}
use Rattle.listings.specs.Laying.{Laying}
use Rattle.listings.specs.Listings.{Content, empty, entry_read, line_read}
use Rattle.listings.specs.Texts.{CuttingList, go_on, scanned, whole}
use Rattle.listings.specs.Written.{line_written, written, Short, lines_read, ReadAsWritten}
use Rattle.listings.specs.declared.reading.Stop.{Stop}

go_same : {Row : Type 0} (r : Result (Content Row) Fault) (l : ℕ) (f g : Content Row → Result (Content Row) Stop) → ((s : Content Row) → f s ≡ g s) → go_on r l f ≡ go_on r l g
go_same (Ok s) l f g same = same s
go_same (Err r) l f g same = refl

go_lines : {Row : Type 0} (r : Result (Content Row) Fault) (l : ℕ) (next : Content Row → Result (Content Row) Stop) (t : Content Row) → go_on r l next ≡ Ok t
    → (s : Content Row) × (r ≡ Ok s) × (next s ≡ Ok t)
go_lines (Ok s) l next t e = (s, refl, e)
go_lines (Err r) l next t e = absurd (no_answer _ t e)

module _ {Kind Row : Type 0} (words : Words Kind) (told : AreWords words) (laying : Laying Kind Row) where
  -- a line is its entry's bytes, and then byte 10
  line_is : (w : Word Kind) (n : ℕ) (rest : List ℕ) → line_written words (w, n) ++ rest ≡ (spelling words w ++ (32 ∷ decimal n)) ++ (10 ∷ rest)
  line_is w n rest = simp append_assoc

  -- the scan passes the bytes of a line, and reads the line at its end
  scan_over : (l : ℕ) (s : Content Row) (line bytes rest : List ℕ) → AllByRecursion (λ b. b ≡ 10 → ⊥) bytes
      → scanned words laying l s line (bytes ++ (10 ∷ rest)) ≡ go_on (line_read words laying l (line ++ bytes) s) l (λ t. scanned words laying (l + 1) t [] rest)
  scan_over l s line [] rest h = ap (λ x. go_on (line_read words laying l x s) l (λ t. scanned words laying (l + 1) t [] rest)) (sym (append-nil line))
  scan_over l s line (b ∷ bytes) rest h =
      rw (ne_eqb b 10 h.0)
      (scan_over l s (line ++ b ∷ []) bytes rest h.1
      ∙ ap (λ x. go_on (line_read words laying l x s) l (λ t. scanned words laying (l + 1) t [] rest)) (append_assoc line (b ∷ []) bytes))

  -- the scan of written lines is the reading of the lines
  scan_written : (l : ℕ) (s : Content Row) (lines : List (Word Kind × ℕ)) → Short lines → scanned words laying l s [] (written words lines) ≡ lines_read laying l lines s
  scan_written l s [] h = refl
  scan_written l s (e ∷ lines) h =
      ap (scanned words laying l s []) (line_is e.0 e.1 (written words lines))
      ∙ scan_over l s [] (spelling words e.0 ++ (32 ∷ decimal e.1)) (written words lines) (entry_one_line words told e.0 e.1 h.0)
      ∙ ap (λ x. go_on (entry_read laying l x s) l (λ t. scanned words laying (l + 1) t [] (written words lines))) (entry_reads words told e.0 e.1 h.0)
      ∙ go_same (entry_read laying l (Some e) s) l (λ t. scanned words laying (l + 1) t [] (written words lines)) (λ t. lines_read laying (l + 1) lines t) (λ t. scan_written (l + 1) t lines h.1)

  -- the lines of a text that is read to its end
  abbrev Lines : List ℕ → Type 0
  Lines text = (lines : List (Word Kind × ℕ)) × Short lines × (text ≡ written words lines)

  one_more : (line bytes : List ℕ) (w : Word Kind) (n : ℕ) → entry_of words line ≡ Some (w, n) → Lines bytes → Lines (line ++ (10 ∷ bytes))
  one_more line bytes w n e more =
      let is = entry_written words line w n e in
      let same : line ++ (10 ∷ bytes) ≡ written words ((w, n) ∷ more.0) = ap (λ x. x ++ (10 ∷ bytes)) is.0 ∙ ap (λ x. (spelling words w ++ (32 ∷ decimal n)) ++ (10 ∷ x)) more.2 ∙ sym (line_is w n (written words more.0)) in
      ((w, n) ∷ more.0, (is.1, more.1), same)

  entry_lines : (l : ℕ) (line bytes : List ℕ) (e : Option (Word Kind × ℕ)) (s t : Content Row) → entry_of words line ≡ e → entry_read laying l e s ≡ Ok t → Lines bytes → Lines (line ++ (10 ∷ bytes))
  entry_lines l line bytes None s t is h more = absurd (no_answer _ t h)
  entry_lines l line bytes (Some e) s t is h more = one_more line bytes e.0 e.1 is more

  scan_lines : (l : ℕ) (s : Content Row) (line bytes : List ℕ) (t : Content Row) → scanned words laying l s line bytes ≡ Ok t → Lines (line ++ bytes)
  scan_lines l s line [] t e =
      ⊎_elim
      (λ (p : eqb (length line) 0 ≡ true). let none : line ≡ [] = nil_from_length line (eqb-true (length line) 0 p) in subst Lines (sym (ap (λ x. x ++ []) none)) ([], tt, refl))
      (λ (p : eqb (length line) 0 ≡ false). absurd (no_answer _ t (rw p at e)))
      (cases_Bool (eqb (length line) 0))
  scan_lines l s line (b ∷ bytes) t e =
      ⊎_elim
      (λ (p : eqb b 10 ≡ true).
      let g = go_lines (line_read words laying l line s) l (λ u. scanned words laying (l + 1) u [] bytes) t (rw p at e) in
      let more = scan_lines (l + 1) g.0 [] bytes t g.2 in
      subst (λ (x : ℕ). Lines (line ++ (x ∷ bytes))) (sym (eqb-true b 10 p)) (entry_lines l line bytes (entry_of words line) s g.0 refl g.1 more))
      (λ (p : eqb b 10 ≡ false). subst Lines (append_assoc line (b ∷ []) bytes) (scan_lines l s (line ++ b ∷ []) bytes t (rw p at e)))
      (cases_Bool (eqb b 10))

  whole_lines : (text : List ℕ) (r : Result (Content Row) Stop) (l : CuttingList Row) → ((s : Content Row) → r ≡ Ok s → Lines text) → whole r ≡ Ok l → Lines text
  whole_lines text (Ok s) l lines e = lines s refl
  whole_lines text (Err f) l lines e = absurd (no_answer _ l e)

  pub read_as_written : (text : List ℕ) → ReadAsWritten words laying text
  read_as_written text =
      record {
        reads = λ lines short is few. rw (le-ltb 65536 (length text) few) (ap (λ x. whole (scanned words laying 1 empty [] x)) is ∙ ap whole (scan_written 1 empty lines short));
        nothing_else =
            λ l e.
            ⊎_elim
            (λ (p : ltb 65536 (length text) ≡ true). absurd (no_answer _ l (rw p at e)))
            (λ (p : ltb 65536 (length text) ≡ false). whole_lines text (scanned words laying 1 empty [] text) l (λ s q. scan_lines 1 empty [] text s q) (rw p at e))
            (cases_Bool (ltb 65536 (length text)));
      }
