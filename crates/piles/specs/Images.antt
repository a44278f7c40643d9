-- The image capacities of accepted rows.
use Rattle.std.specs.Prelude.{◌≡◌, ℕ, ◌*◌, ◌≤◌, true, false, not, List, [], ◌∷◌, ◌==◌, nat_lt}
use Rattle.std.proofs.Math.Nat.{one-le-mul}
use Rattle.std.proofs.Common.{one-mul, div-le_self, subst, arith}
use Rattle.std.proofs.lemmas.Nat.{le-div}
use Rattle.std.proofs.lemmas.Bool.{and_parts, or_parts, eqb-true, not-true, ltb-false, le-leb}
use Rattle.faults.proofs.Refusals.{within}
use Rattle.dual_feasible.specs.Laws.{InRange, greatest}
use Rattle.piles.specs.Layered.{image_over_kind, image_of}
use Rattle.piles.specs.Laying.{parameter_outside, image_outside, accepted}
use Rattle.piles.specs.Standing.{rows_of, stands}
use Rattle.piles.specs.declared.pile.Pile.{Pile}
use Rattle.piles.specs.declared.rows.Kind.{Kind}
use Rattle.piles.specs.declared.rows.Kind.TheVariants.{Threshold, Rounding, Division, Counting, Symmetrisation, Scaling}
use Rattle.piles.specs.declared.rows.Step.{Step}

-- both checks of an accepted row have passed
pub accepted_parts : (kind : Kind) (d p : ℕ) → accepted kind d p ≡ true → (parameter_outside kind d p ≡ false) × (image_outside kind d p ≡ false)
accepted_parts kind d p e =
    let q = and_parts (not (parameter_outside kind d p)) (not (image_outside kind d p)) e in
    (not-true (parameter_outside kind d p) q.0, not-true (image_outside kind d p) q.1)

-- what the lowest step of a standing list is, and that the others stand over it
pub stands_parts : (d : ℕ) (step : Step) (steps : List Step) → stands d (step ∷ steps) ≡ true
    → ((step.below == d) ≡ true) × (accepted step.row.kind d step.row.parameter ≡ true) × (stands (image_over_kind step.row.kind d step.row.parameter) steps ≡ true)
stands_parts d step steps e =
    let p = and_parts (step.below == d) (stands (image_over_kind step.row.kind d step.row.parameter) steps) e in
    (p.0, subst (λ (b : ℕ). accepted step.row.kind b step.row.parameter ≡ true) (eqb-true step.below d p.0) step.accepted, p.1)

-- a counting row's parameter
pub counting_range : (d p : ℕ) → parameter_outside Counting d p ≡ false → (1 ≤ p) × (2 * p ≤ d)
counting_range d p e = let o = or_parts (nat_lt p 1) (nat_lt d (2 * p)) e in (ltb-false p 1 o.0, ltb-false d (2 * p) o.1)

-- an accepted row over an image capacity in range has one in range
pub image_in_range : (kind : Kind) (d p : ℕ) → InRange d → accepted kind d p ≡ true → InRange (image_over_kind kind d p)
image_in_range Threshold d p h e = h
image_in_range Rounding d p h e =
    let a = accepted_parts Rounding d p e in
    (one-le-mul h.0 (within 1 1000 p a.0).0, ltb-false greatest (d * p) a.1)
image_in_range Division d p h e =
    let r = within 1 d p (accepted_parts Division d p e).0 in
    (le-div 1 d p r.0 (omega (arith, one-mul p)), omega (arith, div-le_self d p))
image_in_range Counting d p h e =
    let r = counting_range d p (accepted_parts Counting d p e).0 in
    (le-div 1 d p r.0 (omega (arith, one-mul p)), omega (arith, div-le_self d p))
image_in_range Symmetrisation d p h e =
    let twice : 2 * d ≤ greatest = ltb-false greatest (2 * d) (accepted_parts Symmetrisation d p e).1 in
    rw (le-leb (2 * d) greatest twice) (omega arith, omega arith)
image_in_range Scaling d p h e = within 1 greatest p (accepted_parts Scaling d p e).0

-- and so have all rows of a standing list
pub images_in_range : (d : ℕ) (steps : List Step) → InRange d → stands d steps ≡ true → InRange (image_of d (rows_of steps))
images_in_range d [] h e = h
images_in_range d (step ∷ steps) h e =
    let p = stands_parts d step steps e in
    images_in_range (image_over_kind step.row.kind d step.row.parameter) steps (image_in_range step.row.kind d step.row.parameter h p.1) p.2

-- an image capacity is never 0
pub image_positive : (d : ℕ) (steps : List Step) → InRange d → stands d steps ≡ true → (n : ℕ) → n ≡ image_of d (rows_of steps) → 1 ≤ n
image_positive d steps h e n is = omega (arith, (images_in_range d steps h e).0)

-- the image capacity of a pile
pub pile_image_in_range : (p : Pile) → InRange p.image
pile_image_in_range p = rw p.whole (images_in_range p.capacity p.steps.items p.limits p.standing)
