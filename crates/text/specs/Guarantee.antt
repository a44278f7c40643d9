-- No plan of a list has fewer bars than its lower figure says.
use Rattle.std.specs.Prelude.{◌≡◌, ℕ, ◌*◌, ◌≤◌, max, List, [], ◌∷◌, ◌++◌, length, true, is_ok, Ok, Result, nat_lt, nat_le}
use Rattle.std.proofs.Math.Nat.{one-le-mul}
use Rattle.std.proofs.Common.{one-mul, ap, subst, arith}
use Rattle.std.specs.List.{AllByRecursion}
use Rattle.std.proofs.ByRecursion.{All-push}
use Rattle.std.proofs.lemmas.Nat.{le-div}
use Rattle.std.proofs.lemmas.Bool.{ltb-false, or_parts}
use Rattle.faults.specs.declared.Fault.{Fault}
use Rattle.faults.specs.declared.Layer.TheVariants.{Function, Text}
use Rattle.faults.specs.declared.Refusal.TheVariants.{Capacity, Parameter, TooMany}
use Rattle.faults.specs.Faults.{fault, outside}
use Rattle.faults.proofs.Refusals.{passed, within, same_answer, and_then_parts, ok_made}
use Rattle.plans.specs.Plans.{AtLeast}
use Rattle.dual_feasible.specs.Answers.{capacity_check}
use Rattle.dual_feasible.specs.Laws.{Lawful, InRange, greatest}
use Rattle.bounds.specs.Bounds.{bound}
use Rattle.bounds.specs.Sound.{bound_sound}
use Rattle.functions.specs.Made.{identity_made, threshold_outside, rounding_outside, division_outside, counting_outside}
use Rattle.functions.specs.Values.{identity}
use Rattle.functions.specs.SuperadditiveValues.{threshold_lawful, rounding_lawful, division_lawful}
use Rattle.functions.specs.CountingLaw.{counting_lawful}
use Rattle.listings.specs.Answers.{NoFewerBars}
use Rattle.listings.specs.Kept.{Kept, Keeps}
use Rattle.listings.proofs.Keeping.{none_fewer}
use Rattle.text.specs.Kept.{Makes}
use Rattle.text.specs.Kinds.{kind_words}
use Rattle.text.specs.Lower.{bound_of_row, greatest_of, lower_of}
use Rattle.text.specs.Rows.{row_made, row_image, row_value}
use Rattle.text.specs.Texts.{bar_begun, row_added, function_laying, list_of}
use Rattle.text.specs.declared.kinds.Kind.{Kind}
use Rattle.text.specs.declared.kinds.Kind.TheVariants.{Threshold, Rounding, Division, Counting}
use Rattle.text.specs.declared.kinds.Row.{Row}

-- a function that can be made has a capacity in its range
in_range : {X : Type 0} (c : ℕ) (later : Result X Fault) (x : X) → capacity_check Function c later ≡ Ok x → InRange c × (later ≡ Ok x)
in_range c later x e = let p = passed (outside 1 greatest c) (fault Capacity Function c) later x e in (within 1 greatest c p.0, p.1)

-- a row's function that can be made is lawful
row_lawful : (kind : Kind) (c p : ℕ) (made : ℕ × ℕ) → row_made kind c p ≡ Ok made → Lawful c (row_image kind c p) (row_value kind c p) × (1 ≤ row_image kind c p)
row_lawful Threshold c p made e =
    let h = in_range c _ made e in
    let k = passed (threshold_outside c p) (fault Parameter Function p) _ made h.1 in
    (threshold_lawful c p (ltb-false c (2 * p) k.0), h.0.0)
row_lawful Rounding c p made e =
    let h = in_range c _ made e in
    let k = passed (rounding_outside p) (fault Parameter Function p) _ made h.1 in
    (rounding_lawful c p h.0.0, one-le-mul h.0.0 (within 1 1000 p k.0).0)
row_lawful Division c p made e =
    let h = in_range c _ made e in
    let k = passed (division_outside c p) (fault Parameter Function p) _ made h.1 in
    let r = within 1 c p k.0 in
    (division_lawful c p r.0, le-div 1 c p r.0 (omega (arith, one-mul p)))
row_lawful Counting c p made e =
    let h = in_range c _ made e in
    let k = passed (counting_outside c p) (fault Parameter Function p) _ made h.1 in
    let o = or_parts (nat_lt p 1) (nat_lt c (2 * p)) k.0 in
    let low : 1 ≤ p = ltb-false p 1 o.0 in
    let half : 2 * p ≤ c = ltb-false c (2 * p) o.1 in
    (counting_lawful c p low, le-div 1 c p low (omega (arith, one-mul p)))

-- what the `bar` line begins keeps to the rules of rows
bar_makes : (n : ℕ) (p : ℕ × List Row) → bar_begun n ≡ Ok p → Makes p.0 p.1
bar_makes n p e =
    let h = and_then_parts (identity_made n) (λ c. Ok (c, [])) p e in
    let same = same_answer {E = Fault} n h.0 (in_range n (Ok n) h.0 h.1).1 in
    let new : Makes n [] = record { bar = ap is_ok h.1; made = tt } in
    subst (λ (q : ℕ × List Row). Makes q.0 q.1) (same_answer {E = Fault} (h.0, []) p h.2) (subst (λ (c : ℕ). Makes c []) same new)

-- and so does one row more
row_makes : (c : ℕ) (rows : List Row) (kind : Kind) (n : ℕ) (next : List Row) → Makes c rows → row_added c rows kind n ≡ Ok next → Makes c next
row_makes c rows kind n next makes e =
    let row : Row = record { kind = kind; parameter = n } in
    let h = passed (nat_le 8 (length rows)) (fault TooMany Text 8) _ next e in
    let k = and_then_parts (row_made kind c n) _ next h.1 in
    subst (Makes c) (same_answer {E = Fault} (rows ++ row ∷ []) next k.2)
    (record {
      bar = makes.bar;
      made = All-push (λ (r : Row). is_ok (row_made r.kind c r.parameter) ≡ true) rows row makes.made (ap is_ok k.1);
    })

-- no plan has fewer bars than the greatest of a bound and the bounds of rows that can be made
greatest_sound : (c : ℕ) (cuts : List ℕ) (n : ℕ) (rows : List Row) → AtLeast c cuts n → AllByRecursion (λ row. is_ok (row_made row.kind c row.parameter) ≡ true) rows
    → AtLeast c cuts (greatest_of c cuts n rows)
greatest_sound c cuts n [] least made = least
greatest_sound c cuts n (row ∷ rows) least made =
    let m = ok_made (row_made row.kind c row.parameter) made.0 in
    let l = row_lawful row.kind c row.parameter m.0 m.1 in
    let new : AtLeast c cuts (bound_of_row c cuts row) = bound_sound c (row_image row.kind c row.parameter) (row_value row.kind c row.parameter) l.1 l.0 cuts in
    greatest_sound c cuts (max n (bound_of_row c cuts row)) rows
    (λ m plan packs. let p = least m plan packs in let q = new m plan packs in omega arith)
    made.1

-- nor than the lower figure of a list that keeps to the rules
lower_sound : (c : ℕ) (cuts : List ℕ) (rows : List Row) → Kept Makes c cuts rows → AtLeast c cuts (lower_of c cuts rows)
lower_sound c cuts rows kept =
    let m = ok_made (identity_made c) kept.ruled.bar in
    let r = in_range c (Ok c) m.0 m.1 in
    greatest_sound c cuts (bound c identity cuts) rows (bound_sound c c identity r.0.0 (λ sizes h. h) cuts) kept.ruled.made

-- the rows of a text keep to the rules, line by line
functions_keep : Keeps function_laying Makes
functions_keep = record { begun = bar_makes; added = row_makes }

-- no plan of the list of a text has fewer bars than its lower figure says
pub no_fewer_bars : (text : List ℕ) → NoFewerBars lower_of (list_of text)
no_fewer_bars text = none_fewer function_laying Makes functions_keep kind_words lower_of lower_sound text
