-- One row more on top.
use Rattle.std.specs.Prelude.{◌≡◌, ℕ, suc, ◌-◌, Bool, true, false, not, ◌&&◌, ◌||◌, List, [], ◌∷◌, ◌++◌, length, Some, None, Option, ◌==◌, nat_eq, refl}
use Rattle.std.proofs.Math.Bool.{or_assoc, or-false}
use Rattle.std.proofs.Common.{⊎_elim, sym, ap, ◌∙◌, arith}
use Rattle.std.proofs.lemmas.List.{length-map, map_push}
use Rattle.std.proofs.lemmas.Bool.{cases_Bool, true≢false, false≢true, and_parts, and_from, eq-eqb, ne_eqb}
use Rattle.arrayvec.specs.ArrayVec.{array_vec_len}
use Rattle.piles.specs.Kinds.{symmetrises, counts}
use Rattle.piles.specs.Layered.{image_over_kind, image_of}
use Rattle.piles.specs.Laying.{counting_among}
use Rattle.piles.specs.Standing.{rows_of, stands, unmixed, plain, top_at, topmost}
use Rattle.piles.specs.Contents.{pile_rows}
use Rattle.piles.specs.declared.pile.Pile.{Pile}
use Rattle.piles.specs.declared.rows.Row.{Row}
use Rattle.piles.specs.declared.rows.Step.{Step}

-- a pile has as many rows as steps
pub rows_counted : (p : Pile) → length (pile_rows p) ≡ array_vec_len p.steps
rows_counted p = length-map p.steps.items (λ (step : Step). step.row)

-- with one step more, one row more
pub rows_pushed : (p : Pile) (step : Step) → rows_of (p.steps.items ++ step ∷ []) ≡ pile_rows p ++ step.row ∷ []
rows_pushed p step = map_push (λ (s : Step). s.row) p.steps.items step

pub image_push : (d : ℕ) (rows : List Row) (row : Row) → image_of d (rows ++ row ∷ []) ≡ image_over_kind row.kind (image_of d rows) row.parameter
image_push d [] row = refl
image_push d (r ∷ rows) row = image_push (image_over_kind r.kind d r.parameter) rows row

pub counting_push : (rows : List Row) (row : Row) → counting_among (rows ++ row ∷ []) ≡ (counting_among rows || counts row.kind)
counting_push [] row = or-false (counts row.kind)
counting_push (r ∷ rows) row = ap (λ b. counts r.kind || b) (counting_push rows row) ∙ sym (or_assoc (counts r.kind) (counting_among rows) (counts row.kind))

pub stands_push : (d : ℕ) (steps : List Step) (step : Step) → stands d steps ≡ true → step.below ≡ image_of d (rows_of steps) → stands d (steps ++ step ∷ []) ≡ true
stands_push d [] step h e = rw (eq-eqb step.below d e) refl
stands_push d (s ∷ steps) step h e =
    let p = and_parts (s.below == d) (stands (image_over_kind s.row.kind d s.row.parameter) steps) h in
    and_from _ _ p.0 (stands_push (image_over_kind s.row.kind d s.row.parameter) steps step p.1 e)

lowest_unmixed : (a b : Bool) → (a && (b || false)) ≡ false → (not (a && b) && true) ≡ true
lowest_unmixed true true e = absurd (true≢false e)
lowest_unmixed true false e = refl
lowest_unmixed false b e = refl

pub unmixed_push : (seen : Bool) (rows : List Row) (row : Row) → unmixed seen rows ≡ true → (symmetrises row.kind && (seen || counting_among rows)) ≡ false
    → unmixed seen (rows ++ row ∷ []) ≡ true
unmixed_push seen [] row h e = lowest_unmixed (symmetrises row.kind) seen e
unmixed_push seen (r ∷ rows) row h e =
    let p = and_parts (not (symmetrises r.kind && seen)) (unmixed (seen || counts r.kind) rows) h in
    and_from _ _ p.0 (unmixed_push (seen || counts r.kind) rows row p.1 (ap (λ b. symmetrises row.kind && b) (or_assoc seen (counts r.kind) (counting_among rows)) ∙ e))

pub plain_push : (rows : List Row) (row : Row) → plain rows ≡ true → symmetrises row.kind ≡ false → plain (rows ++ row ∷ []) ≡ true
plain_push [] row h e = rw e refl
plain_push (r ∷ rows) row h e =
    let p = and_parts (not (symmetrises r.kind)) (plain rows) h in
    and_from _ _ p.0 (plain_push rows row p.1 e)

-- a symmetrisation on top is the topmost
pub top_push : (rows : List Row) (row : Row) → symmetrises row.kind ≡ true → top_at (length rows) (rows ++ row ∷ []) ≡ true
top_push [] row e = rw e refl
top_push (r ∷ rows) row e =
    let less : suc (length rows) - 1 ≡ length rows = omega arith in
    rw (ne_eqb (suc (length rows)) 0 (λ z. omega arith), less) (top_push rows row e)

top_at_push : (i : ℕ) (rows : List Row) (row : Row) → top_at i rows ≡ true → symmetrises row.kind ≡ false → top_at i (rows ++ row ∷ []) ≡ true
top_at_push i [] row h e = absurd (false≢true h)
top_at_push i (r ∷ rows) row h e =
    ⊎_elim
    (λ (z : nat_eq i 0 ≡ true).
    let p = and_parts (symmetrises r.kind) (plain rows) (rw z at h) in
    rw z (and_from _ _ p.0 (plain_push rows row p.1 e)))
    (λ (z : nat_eq i 0 ≡ false). rw z (top_at_push (i - 1) rows row (rw z at h) e))
    (cases_Bool (i == 0))

-- any other row on top leaves the topmost symmetrisation where it is
pub topmost_push : (mirror : Option ℕ) (rows : List Row) (row : Row) → topmost mirror rows ≡ true → symmetrises row.kind ≡ false → topmost mirror (rows ++ row ∷ []) ≡ true
topmost_push None rows row h e = plain_push rows row h e
topmost_push (Some i) rows row h e = top_at_push i rows row h e
