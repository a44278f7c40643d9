-- No plan of a list has fewer bars than its lower figure says.
use Rattle.std.specs.Prelude.{◌≡◌, ℕ, true, List, [], ◌∷◌, is_ok, Ok, refl}
use Rattle.std.proofs.Common.{ap, subst}
use Rattle.std.proofs.lemmas.Bool.{and_from}
use Rattle.faults.specs.declared.Fault.{Fault}
use Rattle.faults.specs.declared.Layer.TheVariants.{Pile}
use Rattle.faults.specs.declared.Refusal.TheVariants.{Capacity}
use Rattle.faults.specs.Faults.{fault, outside}
use Rattle.faults.proofs.Refusals.{passed, within, same_answer}
use Rattle.plans.specs.Plans.{AtLeast}
use Rattle.dual_feasible.specs.Laws.{greatest}
use Rattle.bounds.specs.Bounds.{bound}
use Rattle.bounds.specs.Sound.{bound_sound, greater_sound}
use Rattle.banks.specs.Banks.{bank_number}
use Rattle.banks.specs.BankSound.{bank_sound}
use Rattle.functions.specs.Values.{identity}
use Rattle.listings.specs.Answers.{NoFewerBars}
use Rattle.listings.specs.Kept.{Kept, Keeps}
use Rattle.listings.proofs.Keeping.{none_fewer}
use Rattle.piles.specs.LaidLaw.{laid_again, pile_parts, pile_from}
use Rattle.piles.specs.Laying.{pile_made, pile_of}
use Rattle.piles.specs.declared.rows.Row.{Row}
use Rattle.pile_text.specs.Kinds.{kind_words}
use Rattle.pile_text.specs.Laid.{pile_laying, list_of}
use Rattle.pile_text.specs.Lower.{lower_of}

-- the rows can be laid on a pile of the capacity
abbrev OnPile : ℕ → List Row → Type 0
OnPile c rows = pile_of c rows ≡ Ok (c, rows)

-- what the `bar` line begins is a pile
new_on_pile : (n : ℕ) (p : ℕ × List Row) → pile_made n ≡ Ok p → OnPile p.0 p.1
new_on_pile n p e =
    let a = passed (outside 1 greatest n) (fault Capacity Pile n) (Ok (n, [])) p e in
    subst (λ (q : ℕ × List Row). OnPile q.0 q.1) (same_answer {E = Fault} (n, []) p a.1) (pile_from n [] (within 1 greatest n a.0) refl)

-- and so it stays with each row more
piles_keep : Keeps pile_laying OnPile
piles_keep =
    record {
      begun = new_on_pile;
      added = λ c rows kind n next kept e. let p = pile_parts c rows kept in pile_from c next p.0 (laid_again c rows kind n next p.1 e);
    }

-- no plan has fewer bars than the lower figure of a list whose rows lie on a pile
lower_sound : (c : ℕ) (cuts : List ℕ) (rows : List Row) → Kept OnPile c cuts rows → AtLeast c cuts (lower_of c cuts rows)
lower_sound c cuts rows kept =
    let p = pile_parts c rows kept.ruled in
    greater_sound c c (bound c identity) (bank_number c (rows ∷ []))
    (λ list few. bound_sound c c identity p.0.0 (λ sizes h. h) list)
    (λ list few. bank_sound c (rows ∷ []) list (and_from (is_ok (pile_of c rows)) true (ap is_ok kept.ruled) refl))
    cuts kept.few

-- no plan of the list of a text has fewer bars than its lower figure says
pub no_fewer_bars : (text : List ℕ) → NoFewerBars lower_of (list_of text)
no_fewer_bars text = none_fewer pile_laying OnPile piles_keep kind_words lower_of lower_sound text
