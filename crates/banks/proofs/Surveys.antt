-- The walk over a bank's piles.
use Rattle.std.proofs.Common.{◌≡◌, ℕ, zero, suc, ◌+◌, ◌<◌, max, cond, leb, true, List, [], ◌∷◌, map, length, get_or, drop, is_ok, Some, None, Ok, Err, Option, Result, sym, refl, ap, ◌∙◌, arith}
use Rattle.std.specs.Option.{MatchOption, IsSomeAnd}
use Rattle.std.specs.Result.{IsErrAnd}
use Rattle.std.proofs.lemmas.List.{get_or-map, length-map, at_drop_more}
use Rattle.std.proofs.lemmas.Bool.{and_parts, le-leb}
use Rattle.std.proofs.lemmas.Bool.Decides.{nat_tests}
use Rattle.faults.specs.declared.Fault.{Fault}
use Rattle.bounds.specs.Bounds.{asked_of}
use Rattle.bounds.proofs.Entries.{asked_refused, asked_answered}
use Rattle.piles.specs.Laying.{pile_of}
use Rattle.piles.specs.Plain.{rows_in}
use Rattle.piles.specs.declared.rows.Row.{Row}
use Rattle.piles.specs.declared.rows.Rows.{Rows}
use Rattle.banks.specs.Banks.{pile_bound, pile_bounds, surveyed, all_made}
use Rattle.banks.specs.Best.{greatest_of, first_with, best_of, improved, findings}
use Rattle.banks.specs.Contents.{bank_piles}
use Rattle.banks.specs.declared.asking.Best.{Best}
use Rattle.banks.specs.declared.bank.Bank.{Bank}

-- what is found of the numbers from place i on, after what was found before them
abbrev pub along : Option Best → ℕ → List ℕ → Option Best
along found i [] = found
along found i (n ∷ numbers) = along (improved found n i) (i + 1) numbers

-- the first that reaches the greatest is the number at the front, where it is as great as those behind it
first_here : (n i : ℕ) (numbers : List ℕ) → cond (leb (greatest_of numbers) n) (Some i) (first_with (greatest_of numbers) (i + 1) numbers) ≡ first_with (max n (greatest_of numbers)) i (n ∷ numbers)
first_here n i numbers = grind (arith, nat_tests)

-- what was found and what is found behind it, with the number n between them
one_further : (best : Best) (n i : ℕ) (numbers : List ℕ) (behind : Option Best → ℕ × Option ℕ)
    → ((b : Best) → behind (Some b) ≡ (max b.bound (greatest_of numbers), cond (leb (greatest_of numbers) b.bound) (Some b.pile) (first_with (greatest_of numbers) (i + 1) numbers)))
    → behind (improved (Some best) n i) ≡ (max best.bound (greatest_of (n ∷ numbers)), cond (leb (greatest_of (n ∷ numbers)) best.bound) (Some best.pile) (first_with (greatest_of (n ∷ numbers)) i (n ∷ numbers)))
one_further best n i numbers behind given = grind (arith, nat_tests, given best, given (record { bound = n; pile = i }))

found_further : (best : Best) (i : ℕ) (numbers : List ℕ)
    → findings (along (Some best) i numbers) ≡ (max best.bound (greatest_of numbers), cond (leb (greatest_of numbers) best.bound) (Some best.pile) (first_with (greatest_of numbers) i numbers))
found_further best i [] = rw (le-leb 0 best.bound (omega arith), let m : max best.bound 0 ≡ best.bound = omega arith in m)
found_further best i (n ∷ numbers) = one_further best n i numbers (λ found. findings (along found (i + 1) numbers)) (λ b. found_further b (i + 1) numbers)

-- all in all it is the greatest of the numbers, and the place of the first that reaches it
pub found_all : (numbers : List ℕ) → findings (along None 0 numbers) ≡ (greatest_of numbers, best_of numbers)
found_all [] = refl
found_all (n ∷ numbers) = found_further (record { bound = n; pile = 0 }) 1 numbers ∙ ap (λ place. (max n (greatest_of numbers), place)) (first_here n 0 numbers)

made_at : (c : ℕ) (piles : List (List Row)) (i : ℕ) → all_made c piles ≡ true → i < length piles → is_ok (pile_of c (get_or piles i [])) ≡ true
made_at c [] i e h = absurd (let z : ⊥ = omega arith in z)
made_at c (rows ∷ piles) zero e h = (and_parts (is_ok (pile_of c rows)) (all_made c piles) e).0
made_at c (rows ∷ piles) (suc i) e h = made_at c piles i (and_parts (is_ok (pile_of c rows)) (all_made c piles) e).1 (omega arith)

-- what a read past the end would give
abbrev pub no_rows : Rows
no_rows = record { count = 0; rows = [] }

-- the pile at place i
module _ (c : ℕ) (piles : List Rows) (i : ℕ) (inside : i < length piles) where
  abbrev rows : Rows
  rows = get_or piles i no_rows

  placed : i < length (map rows_in piles)
  placed = omega (arith, length-map piles rows_in)

  rows_at : get_or (map rows_in piles) i [] ≡ rows_in rows
  rows_at = get_or-map rows_in piles i no_rows [] inside

  -- the rows of a pile that is held can be laid
  pub held_made : all_made c (map rows_in piles) ≡ true → is_ok (pile_of c (rows_in rows)) ≡ true
  held_made e = ap (λ rows. is_ok (pile_of c rows)) (sym rows_at) ∙ made_at c (map rows_in piles) i e placed

  -- with its bound the walk goes on behind it
  pub bound_along : (list : List ℕ) (found : Option Best) (bound : ℕ) → bound ≡ pile_bound c list (rows_in rows)
      → along found i (drop i (pile_bounds c (map rows_in piles) list)) ≡ along (improved found bound i) (i + 1) (drop (i + 1) (pile_bounds c (map rows_in piles) list))
  bound_along list found bound e =
      let numbers = pile_bounds c (map rows_in piles) list in
      let here : pile_bound c list (rows_in rows) ≡ get_or numbers i 0 = sym (get_or-map (pile_bound c list) (map rows_in piles) i [] 0 placed ∙ ap (pile_bound c list) rows_at) in
      at_drop_more (along found i) numbers i 0 (omega (arith, length-map (map rows_in piles) (pile_bound c list), placed))
      ∙ ap (λ n. along (improved found n i) (i + 1) (drop (i + 1) numbers)) (sym (e ∙ here))

-- what a method of the option makes of what was found
pub pile_found : (best : Option Best) (P : Best → ℕ → Type 0) (r : Option ℕ) → ((b : Best) (n : ℕ) → P b n → n ≡ b.pile) → MatchOption best (r ≡ None) (λ b. IsSomeAnd r (P b)) → r ≡ (findings best).1
pile_found None P r given e = e
pile_found (Some b) P (Some n) given e = ap Some (given b n e)
pile_found (Some b) P None given e = absurd e

pub bound_found : (best : Option Best) (P : Best → Type 0) (r : ℕ) → ((b : Best) → P b → r ≡ b.bound) → MatchOption best (r ≡ 0) P → r ≡ (findings best).0
bound_found None P r given e = e
bound_found (Some b) P r given e = given b e

-- what a survey says of every other question of the same list
module _ (b : Bank) (list : List ℕ) {Y : Type 0} (other : List ℕ → Y) where
  pub survey_refused : (f : Fault) (r : Result Y Fault) → Err f ≡ asked_of b.capacity (surveyed b.capacity (bank_piles b)) list → IsErrAnd r (λ g. g ≡ f) → r ≡ asked_of b.capacity other list
  survey_refused f (Err g) e same = ap Err same ∙ asked_refused b.capacity (surveyed b.capacity (bank_piles b)) other list f e
  survey_refused f (Ok y) e same = absurd same

  pub survey_told : (best : Option Best) → Ok (findings best) ≡ asked_of b.capacity (surveyed b.capacity (bank_piles b)) list → (y : Y) → (findings best ≡ surveyed b.capacity (bank_piles b) list → y ≡ other list) → Ok y ≡ asked_of b.capacity other list
  survey_told best e y is =
      let a = asked_answered b.capacity (surveyed b.capacity (bank_piles b)) other list (findings best) e in
      ap Ok (is a.0) ∙ sym a.1
