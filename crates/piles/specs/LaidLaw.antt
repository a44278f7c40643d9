-- Rows that are laid one by one: what they make can be laid again, and its layered function is lawful.
use Rattle.std.specs.Prelude.{◌≡◌, ℕ, true, not, ◌&&◌, List, [], ◌∷◌, ◌++◌, Ok, refl}
use Rattle.std.proofs.Common.{sym, ap, subst, ◌∙◌, arith}
use Rattle.std.proofs.lemmas.Bool.{and_from, not_from_false, le-ltb}
use Rattle.faults.specs.declared.Fault.{Fault}
use Rattle.faults.specs.declared.Layer.TheVariants.{Pile}
use Rattle.faults.specs.declared.Refusal.TheVariants.{Capacity}
use Rattle.faults.specs.Faults.{fault, outside}
use Rattle.faults.proofs.Refusals.{passed, within, and_then_parts, same_answer}
use Rattle.dual_feasible.specs.Laws.{InRange, Lawful, greatest}
use Rattle.functions.specs.Values.{identity}
use Rattle.piles.specs.Kinds.{kind_number, symmetrises}
use Rattle.piles.specs.Layered.{image_over_kind, value_over, image_of, values_of, layered, layered_image}
use Rattle.piles.specs.Laying.{parameter_outside, image_outside, accepted, counting_among, laid, all_laid, pile_of}
use Rattle.piles.specs.declared.rows.Kind.{Kind}
use Rattle.piles.specs.declared.rows.Row.{Row}
use Rattle.piles.specs.Images.{image_in_range}
use Rattle.piles.specs.LayeredLaw.{Keeps, row_keeps}
use Rattle.piles.specs.Pushing.{image_push, counting_push}
use Rattle.piles.specs.Relaying.{Laid, laid_parts}

-- the rows to lay, and then one more
all_laid_push : (c : ℕ) (start rows : List Row) (row : Row) (mid next : List Row) → all_laid c start rows ≡ Ok mid → laid c mid (kind_number row.kind) row.parameter ≡ Ok next
    → all_laid c start (rows ++ row ∷ []) ≡ Ok next
all_laid_push c start [] row mid next e f =
    let same : start ≡ mid = same_answer {E = Fault} start mid e in
    rw (ap (λ xs. laid c xs (kind_number row.kind) row.parameter) same ∙ f)
all_laid_push c start (r ∷ rows) row mid next e f =
    let a = and_then_parts (laid c start (kind_number r.kind) r.parameter) (λ xs. all_laid c xs rows) mid e in
    rw a.1 (all_laid_push c a.0 rows row mid next a.2 f)

-- rows that can be laid can be laid again with one more on top
pub laid_again : (c : ℕ) (rows : List Row) (kind : Kind) (p : ℕ) (next : List Row) → all_laid c [] rows ≡ Ok rows → laid c rows (kind_number kind) p ≡ Ok next → all_laid c [] next ≡ Ok next
laid_again c rows kind p next e f =
    let row : Row = record { kind = kind; parameter = p } in
    ap (all_laid c []) (laid_parts c rows row next f).top ∙ all_laid_push c [] rows row rows next e f

values_push : (c d : ℕ) (v : ℕ → ℕ) (rows : List Row) (row : Row) → values_of c d v (rows ++ row ∷ []) ≡ value_over row.kind c (image_of d rows) row.parameter (values_of c d v rows)
values_push c d v [] row = refl
values_push c d v (r ∷ rows) row = values_push c (image_over_kind r.kind d r.parameter) (value_over r.kind c d r.parameter v) rows row

-- what rows under construction keep to
record Stacked (c : ℕ) (rows : List Row) : Type 0 where
  keeps : Keeps c (layered_image c rows) (layered c rows) (counting_among rows)
  image : InRange (layered_image c rows)

one_more : (c : ℕ) (rows : List Row) (row : Row) (next : List Row) → InRange c → Laid c rows row next → Stacked c rows → Stacked c next
one_more c rows row next cs h s =
    let d = layered_image c rows in
    let fits : accepted row.kind d row.parameter ≡ true = and_from (not (parameter_outside row.kind d row.parameter)) (not (image_outside row.kind d row.parameter)) (not_from_false (parameter_outside row.kind d row.parameter) h.range) (not_from_false (image_outside row.kind d row.parameter) h.image) in
    let is = image_push c rows row in
    let k = row_keeps row.kind c d row.parameter (layered c rows) (counting_among rows) cs s.image fits (not_from_false (symmetrises row.kind && counting_among rows) h.apart) s.keeps in
    subst (Stacked c) (sym h.top)
    (record {
      keeps = rw (is, values_push c c identity rows row, counting_push rows row) k;
      image = subst InRange (sym is) (image_in_range row.kind d row.parameter s.image fits);
    })

all_stacked : (c : ℕ) (done rows all : List Row) → InRange c → all_laid c done rows ≡ Ok all → Stacked c done → Stacked c all
all_stacked c done [] all cs e s = subst (Stacked c) (same_answer {E = Fault} done all e) s
all_stacked c done (row ∷ rows) all cs e s =
    let a = and_then_parts (laid c done (kind_number row.kind) row.parameter) (λ xs. all_laid c xs rows) all e in
    all_stacked c a.0 rows all cs a.2 (one_more c done row a.0 cs (laid_parts c done row a.0 a.1) s)

-- a pile of rows is one of a capacity in range on which all rows can be laid
pub pile_parts : (c : ℕ) (rows : List Row) → pile_of c rows ≡ Ok (c, rows) → InRange c × (all_laid c [] rows ≡ Ok rows)
pile_parts c rows e =
    let a = passed (outside 1 greatest c) (fault Capacity Pile c) _ (c, rows) e in
    let b = and_then_parts (all_laid c [] rows) (λ all. Ok (c, all)) (c, rows) a.1 in
    (within 1 greatest c a.0, b.1 ∙ ap (λ (q : ℕ × List Row). Ok q.1) (same_answer {E = Fault} (c, b.0) (c, rows) b.2))

pub pile_from : (c : ℕ) (rows : List Row) → InRange c → all_laid c [] rows ≡ Ok rows → pile_of c rows ≡ Ok (c, rows)
pile_from c rows h e = rw (le-ltb c 1 h.0, le-ltb greatest c h.1, e)

-- the layered function of a pile's rows is lawful, and both its capacities are in range
pub laid_lawful : (c : ℕ) (rows : List Row) → pile_of c rows ≡ Ok (c, rows) → Lawful c (layered_image c rows) (layered c rows) × InRange c × InRange (layered_image c rows)
laid_lawful c rows e =
    let h = pile_parts c rows e in
    let s = all_stacked c [] rows rows h.0 h.1 (record { keeps = record { lawful = λ sizes k. k; adds = λ _ a b k. omega arith }; image = h.0 }) in
    (s.keeps.lawful, h.0, s.image)
