-- Every list that is read keeps to its limits, and so no plan of it has fewer bars than its lower figure says.
use Rattle.std.proofs.Common.{◌≡◌, ℕ, ◌+◌, ◌≤◌, true, false, eqb, ltb, leb, List, [], ◌∷◌, ◌++◌, length, Some, None, Ok, Err, Option, Result, sym, refl, subst, ⊎_elim, arith}
use Rattle.std.proofs.ByRecursion.{All-push}
use Rattle.std.proofs.lemmas.List.{length_push}
use Rattle.std.proofs.lemmas.Bool.{cases_Bool, leb-false}
use Rattle.faults.specs.declared.Fault.{Fault}
use Rattle.faults.specs.declared.Layer.TheVariants.{Text}
use Rattle.faults.specs.declared.Refusal.TheVariants.{Size, TooMany}
use Rattle.faults.specs.Faults.{fault, outside}
use Rattle.faults.proofs.Refusals.{no_answer, passed, within, and_then_parts}
use Rattle.plans.specs.Plans.{AtLeast}
use Rattle.lines.specs.declared.Word.{Word}
use Rattle.lines.specs.declared.Word.TheVariants.{Bar, Cut, Row as RowWord}
use Rattle.lines.specs.Lines.{entry_of}
use Rattle.lines.specs.Words.{Words}
use Rattle.listings.specs.Answers.{NoFewerBars}
use Rattle.listings.specs.Laying.{Laying}
use Rattle.listings.specs.Kept.{Kept, Keeps}
use Rattle.listings.specs.Listings.{Content, empty, word_read, entry_read, line_read}
use Rattle.listings.specs.Texts.{CuttingList, go_on, scanned, with_bar, whole, list_of}
use Rattle.listings.specs.declared.reading.Stop.{Stop}

same_content : {Row : Type 0} (s t : Content Row) → ◌≡◌ {A = Result (Content Row) Fault} (Ok s) (Ok t) → s ≡ t
same_content s t e = cc

module _ {Kind Row : Type 0} (laying : Laying Kind Row) (Rules : ℕ → List Row → Type 0) (keeps : Keeps laying Rules) where
  -- before there is a bar, no cut is said
  abbrev KeptBy : Option ℕ → List ℕ → List Row → Type 0
  KeptBy None cuts rows = cuts ≡ []
  KeptBy (Some c) cuts rows = Kept Rules c cuts rows

  abbrev KeptContent : Content Row → Type 0
  KeptContent s = KeptBy s.bar s.cuts s.rows

  no_cuts : (c : ℕ) (cuts : List ℕ) (rows : List Row) → cuts ≡ [] → Rules c rows → Kept Rules c cuts rows
  no_cuts c cuts rows none ruled =
      subst (λ (sizes : List ℕ). Kept Rules c sizes rows) (sym none) (record { few = omega arith; sized = tt; ruled = ruled })

  word_kept : (l : ℕ) (b : Option ℕ) (w : Word Kind) (n : ℕ) (s t : Content Row) → s.bar ≡ b → KeptBy b s.cuts s.rows → word_read laying l b w n s ≡ Ok t → KeptContent t
  word_kept l None Bar n s t is kept e =
      let h = and_then_parts (laying.begun n) _ t e in
      subst KeptContent (same_content _ t h.2) (no_cuts h.0.0 s.cuts h.0.1 kept (keeps.begun n h.0 h.1))
  word_kept l None Cut n s t is kept e = absurd (no_answer _ t e)
  word_kept l None (RowWord kind) n s t is kept e = absurd (no_answer _ t e)
  word_kept l (Some c) Bar n s t is kept e = absurd (no_answer _ t e)
  word_kept l (Some c) Cut n s t is kept e =
      let h = passed (outside 1 c n) (fault Size Text n) _ t e in
      let k = passed (leb 64 (length s.cuts)) (fault TooMany Text 64) _ t h.1 in
      subst KeptContent (same_content _ t k.1)
      (rw is
      (record {
        few = omega (arith, length_push s.cuts n, leb-false 64 (length s.cuts) k.0);
        sized = All-push (λ m. m ≤ c) s.cuts n kept.sized (within 1 c n h.0).1;
        ruled = kept.ruled;
      }))
  word_kept l (Some c) (RowWord kind) n s t is kept e =
      let h = and_then_parts (laying.added c s.rows kind n) _ t e in
      let now : Kept Rules c s.cuts h.0 = record { few = kept.few; sized = kept.sized; ruled = keeps.added c s.rows kind n h.0 kept.ruled h.1 } in
      subst KeptContent (same_content _ t h.2) (subst (λ (b : Option ℕ). KeptBy b s.cuts h.0) (sym is) now)

  entry_kept : (l : ℕ) (e : Option (Word Kind × ℕ)) (s t : Content Row) → KeptContent s → entry_read laying l e s ≡ Ok t → KeptContent t
  entry_kept l None s t kept p = absurd (no_answer _ t p)
  entry_kept l (Some e) s t kept p = word_kept l s.bar e.0 e.1 s t refl kept p

  go_kept : (r : Result (Content Row) Fault) (l : ℕ) (next : Content Row → Result (Content Row) Stop) (t : Content Row) → ((s : Content Row) → r ≡ Ok s → KeptContent s)
      → ((s : Content Row) → KeptContent s → next s ≡ Ok t → KeptContent t) → go_on r l next ≡ Ok t → KeptContent t
  go_kept (Ok s) l next t first then e = then s (first s refl) e
  go_kept (Err r) l next t first then e = absurd (no_answer _ t e)

  bar_kept : (b : Option ℕ) (s : Content Row) (l : CuttingList Row) → KeptBy b s.cuts s.rows → with_bar b s ≡ Ok l → Kept Rules l.capacity l.cuts l.rows
  bar_kept None s l kept e = absurd (no_answer _ l e)
  bar_kept (Some c) s l kept e =
      let list : CuttingList Row = record { capacity = c; cuts = s.cuts; rows = s.rows } in
      let same : list ≡ l = cc in
      subst (λ (m : CuttingList Row). Kept Rules m.capacity m.cuts m.rows) same kept

  whole_kept : (r : Result (Content Row) Stop) (l : CuttingList Row) → ((s : Content Row) → r ≡ Ok s → KeptContent s) → whole r ≡ Ok l → Kept Rules l.capacity l.cuts l.rows
  whole_kept (Ok s) l kept e = bar_kept s.bar s l (kept s refl) e
  whole_kept (Err f) l kept e = absurd (no_answer _ l e)

  module _ (words : Words Kind) where
    scan_kept : (l : ℕ) (s : Content Row) (line bytes : List ℕ) (t : Content Row) → KeptContent s → scanned words laying l s line bytes ≡ Ok t → KeptContent t
    scan_kept l s line [] t kept e =
        ⊎_elim
        (λ (p : eqb (length line) 0 ≡ true). let f = rw p at e in subst KeptContent (let g : s ≡ t = cc in g) kept)
        (λ (p : eqb (length line) 0 ≡ false). absurd (no_answer _ t (rw p at e)))
        (cases_Bool (eqb (length line) 0))
    scan_kept l s line (b ∷ bytes) t kept e =
        ⊎_elim
        (λ (p : eqb b 10 ≡ true).
        go_kept (line_read words laying l line s) l (λ u. scanned words laying (l + 1) u [] bytes) t (λ u q. entry_kept l (entry_of words line) s u kept q)
        (λ u k q. scan_kept (l + 1) u [] bytes t k q) (rw p at e))
        (λ (p : eqb b 10 ≡ false). scan_kept l s (line ++ b ∷ []) bytes t kept (rw p at e))
        (cases_Bool (eqb b 10))

    -- the list of every text that is not refused
    pub list_kept : (text : List ℕ) (l : CuttingList Row) → list_of words laying text ≡ Ok l → Kept Rules l.capacity l.cuts l.rows
    list_kept text l e =
        ⊎_elim
        (λ (p : ltb 65536 (length text) ≡ true). absurd (no_answer _ l (rw p at e)))
        (λ (p : ltb 65536 (length text) ≡ false). whole_kept (scanned words laying 1 empty [] text) l (λ s q. scan_kept 1 empty [] text s refl q) (rw p at e))
        (cases_Bool (ltb 65536 (length text)))

    told : (figure : ℕ → List ℕ → List Row → ℕ) → ((c : ℕ) (cuts : List ℕ) (rows : List Row) → Kept Rules c cuts rows → AtLeast c cuts (figure c cuts rows)) → (r : Result (CuttingList Row) Stop)
        → ((l : CuttingList Row) → r ≡ Ok l → Kept Rules l.capacity l.cuts l.rows) → NoFewerBars figure r
    told figure sound (Ok l) kept = sound l.capacity l.cuts l.rows (kept l refl)
    told figure sound (Err e) kept = tt

    -- where a figure is a lower bound of each list that keeps to the rules, it is one of the list of every text
    pub none_fewer : (figure : ℕ → List ℕ → List Row → ℕ) → ((c : ℕ) (cuts : List ℕ) (rows : List Row) → Kept Rules c cuts rows → AtLeast c cuts (figure c cuts rows)) → (text : List ℕ)
        → NoFewerBars figure (list_of words laying text)
    none_fewer figure sound text = told figure sound (list_of words laying text) (list_kept text)
