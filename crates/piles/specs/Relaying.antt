-- The rows of a pile, laid again, make the same pile.
use Rattle.std.specs.Prelude.{◌≡◌, ℕ, ◌+◌, ◌<◌, ◌≤◌, true, false, not, ◌&&◌, ◌||◌, List, [], ◌∷◌, ◌++◌, length, is_ok, Some, Ok, Result, nat_le, nat_lt, refl}
use Rattle.std.proofs.Common.{sym, ap, subst, ◌∙◌, arith}
use Rattle.std.proofs.lemmas.List.{append-nil, append_assoc, length_push}
use Rattle.std.proofs.lemmas.Bool.{and_parts, not-true, lt-leb, or_from, le-ltb}
use Rattle.faults.specs.declared.Fault.{Fault}
use Rattle.faults.specs.declared.Layer.TheVariants.{Pile as PileLayer}
use Rattle.faults.specs.declared.Refusal.TheVariants.{Capacity, TooMany}
use Rattle.faults.specs.Faults.{fault, outside, and_then}
use Rattle.faults.proofs.Refusals.{passed, and_then_parts, ok_made}
use Rattle.dual_feasible.specs.Laws.{greatest}
use Rattle.piles.specs.Contents.{pile_rows}
use Rattle.piles.specs.Kinds.{kind_number, kind_of, symmetrises, counts}
use Rattle.piles.specs.Layered.{image_of}
use Rattle.piles.specs.Laying.{most_rows, parameter_outside, image_outside, accepted, counting_among, row_laid, laid, all_laid, pile_made, pile_of}
use Rattle.piles.specs.Standing.{rows_of, stands, unmixed}
use Rattle.piles.specs.declared.pile.Pile.{Pile}
use Rattle.piles.specs.declared.rows.Kind.{Kind}
use Rattle.piles.specs.declared.rows.Kind.TheVariants.{Threshold, Rounding, Division, Counting, Symmetrisation, Scaling}
use Rattle.piles.specs.declared.rows.Row.{Row}
use Rattle.piles.specs.declared.rows.Step.{Step}
use Rattle.piles.specs.Images.{accepted_parts, stands_parts}
use Rattle.piles.specs.Pushing.{image_push, counting_push}

-- each kind is found by its number
pub kind_found : (kind : Kind) → kind_of (kind_number kind) ≡ Some kind
kind_found Threshold = refl
kind_found Rounding = refl
kind_found Division = refl
kind_found Counting = refl
kind_found Symmetrisation = refl
kind_found Scaling = refl

-- an accepted row is laid
row_again : (c : ℕ) (below : List Row) (row : Row) → length below < most_rows → accepted row.kind (image_of c below) row.parameter ≡ true → (symmetrises row.kind && counting_among below) ≡ false
    → laid c below (kind_number row.kind) row.parameter ≡ Ok (below ++ row ∷ [])
row_again c below row few e apart =
    let p = accepted_parts row.kind (image_of c below) row.parameter e in
    rw (lt-leb most_rows (length below) few, kind_found row.kind, p.0, apart, p.1)

rows_again : (c : ℕ) (below : List Row) (steps : List Step) → stands (image_of c below) steps ≡ true → unmixed (counting_among below) (rows_of steps) ≡ true → length below + length steps ≤ most_rows
    → all_laid c below (rows_of steps) ≡ Ok (below ++ rows_of steps)
rows_again c below [] e u few = ap Ok (sym (append-nil below))
rows_again c below (step ∷ steps) e u few =
    let row = step.row in
    let p = stands_parts (image_of c below) step steps e in
    let q = and_parts (not (symmetrises row.kind && counting_among below)) (unmixed (counting_among below || counts row.kind) (rows_of steps)) u in
    let here = row_again c below row (omega arith) p.1 (not-true (symmetrises row.kind && counting_among below) q.0) in
    let next = below ++ row ∷ [] in
    rw here
    (rows_again c next steps
    (subst (λ (d : ℕ). stands d steps ≡ true) (sym (image_push c below row)) p.2)
    (rw (counting_push below row) q.1)
    (omega (arith, length_push below row))
    ∙ ap Ok (append_assoc below (row ∷ []) (rows_of steps)))

pub pile_again : (p : Pile) → pile_of p.capacity (pile_rows p) ≡ Ok (p.capacity, pile_rows p)
pile_again p =
    let c = p.capacity in
    let steps = p.steps.items in
    let all : all_laid c [] (rows_of steps) ≡ Ok (rows_of steps) = rows_again c [] steps p.standing p.order (omega (arith, p.few)) in
    rw (or_from (nat_lt c 1) (nat_lt greatest c) (le-ltb c 1 p.limits.0) (le-ltb greatest c p.limits.1), all)

-- what a new pile is, and that its capacity has passed the check
pub new_pile : (c d : ℕ) (rows : List Row) → Ok (d, rows) ≡ pile_made c → (d ≡ c) × (rows ≡ []) × (outside 1 greatest c ≡ false)
new_pile c d rows e =
    let p = passed (outside 1 greatest c) (fault Capacity PileLayer c) (Ok (c, [])) (d, rows) (sym e) in
    let same : ◌≡◌ {A = ℕ × List Row} (c, []) (d, rows) = cc in
    (ap (λ (q : ℕ × List Row). q.0) (sym same), ap (λ (q : ℕ × List Row). q.1) (sym same), p.0)

-- past that check, the pile of some rows is what laying them answers
pub laid_from_new : (c : ℕ) → outside 1 greatest c ≡ false → (rows : List Row) (r : Result (List Row) Fault) → all_laid c [] rows ≡ r → pile_of c rows ≡ and_then r (λ all. Ok (c, all))
laid_from_new c e rows r is = rw (e, is)

-- a row that is laid has passed its checks and lies on top
pub record Laid (c : ℕ) (below : List Row) (row : Row) (rows : List Row) : Type 0 where
  pub range : parameter_outside row.kind (image_of c below) row.parameter ≡ false
  pub apart : (symmetrises row.kind && counting_among below) ≡ false
  pub image : image_outside row.kind (image_of c below) row.parameter ≡ false
  pub top : rows ≡ below ++ row ∷ []

pub laid_parts : (c : ℕ) (below : List Row) (row : Row) (rows : List Row) → laid c below (kind_number row.kind) row.parameter ≡ Ok rows → Laid c below row rows
laid_parts c below row rows e =
    let d = image_of c below in
    let p = passed (nat_le most_rows (length below)) (fault TooMany PileLayer most_rows) (row_laid c below (kind_of (kind_number row.kind)) row.parameter) rows e in
    let known = ap (λ k. row_laid c below k row.parameter) (sym (kind_found row.kind)) ∙ p.1 in
    let q = passed (parameter_outside row.kind d row.parameter) _ _ rows known in
    let r = passed (symmetrises row.kind && counting_among below) _ _ rows q.1 in
    let s = passed (image_outside row.kind d row.parameter) _ _ rows r.1 in
    let t = s.1 in
    record { range = q.0; apart = r.0; image = s.0; top = sym (cc) }

rows_laid : (c : ℕ) (below more rows : List Row) → all_laid c below more ≡ Ok rows → rows ≡ below ++ more
rows_laid c below [] rows e = let same : rows ≡ below = cc in same ∙ sym (append-nil below)
rows_laid c below (row ∷ more) rows e =
    let p = and_then_parts (laid c below (kind_number row.kind) row.parameter) (λ next. all_laid c next more) rows e in
    rows_laid c p.0 more rows p.2 ∙ ap (λ xs. xs ++ more) (laid_parts c below row p.0 p.1).top ∙ append_assoc below (row ∷ []) more

-- the pile of some rows, if there is one, has these very rows
pub pile_whole : (c : ℕ) (rows : List Row) → is_ok (pile_of c rows) ≡ true → pile_of c rows ≡ Ok (c, rows)
pile_whole c rows e =
    let m = ok_made (pile_of c rows) e in
    let p = passed (outside 1 greatest c) (fault Capacity PileLayer c) (and_then (all_laid c [] rows) (λ all. Ok (c, all))) m.0 m.1 in
    let q = and_then_parts (all_laid c [] rows) (λ all. Ok (c, all)) m.0 p.1 in
    let same : q.0 ≡ rows = rows_laid c [] rows q.0 q.1 in
    laid_from_new c p.0 rows (Ok q.0) q.1 ∙ ap (λ xs. Ok (c, xs)) same
