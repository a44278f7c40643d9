-- A line that has an entry is the entry's word, a blank and the number's digits.
use Rattle.std.proofs.Common.{◌≡◌, ℕ, suc, ◌+◌, ◌-◌, ◌*◌, ◌^◌, ◌<◌, ◌≤◌, true, false, not, ◌&&◌, ◌||◌, eqb, ltb, List, [], ◌∷◌, ◌++◌, length, get_or, take, drop, Some, None, decimal, Option, sym, codes, refl, ap, ◌∙◌, ⊎_elim, mul_comm, one-add, arith, rules}
use Rattle.std.specs.Char.{is_ascii_digit}
use Rattle.std.specs.List.{prefix_len, AllByRecursion}
use Rattle.std.specs.Str.{bytes_eq, all_ascii_digits}
use Rattle.std.proofs.lemmas.Fmt.{decimal-digits_value, decimal_digit, decimal_nonempty, first_decimal, length-decimal-le, digits_decimal, digits_value-decimal}
use Rattle.std.proofs.ByRecursion.{All-append}
use Rattle.std.proofs.lemmas.Slice.Eq.{bytes_eq-Decides}
use Rattle.std.proofs.lemmas.Str.Parse.{IsNumeralModel, numerals_by_fold, digits_value_short}
use Rattle.std.proofs.lemmas.Bool.{cases_Bool, cases_eq, both_ways, and_from, and_parts, or_parts, or_left, or_right, not_from_false, not-true, eqb-true, eqb-false, eq-eqb, ne_eqb, ltb-true, ltb-false, lt-ltb}
use Rattle.std.proofs.lemmas.Bool.Decides.{nat_tests}
use Rattle.lines.specs.Words.{Words, spelled, kind_named}
use Rattle.lines.specs.Told.{AreWords, unbroken}
use Rattle.lines.specs.declared.Word.{Word}
use Rattle.lines.specs.declared.Word.TheVariants.{Bar, Cut, Row}
use Rattle.lines.specs.Lines.{spelling, row_of, word_of, digits_from, in_form, numeral, not_blank, both, entry_of}

-- nothing is no answer
no_answer : {X : Type 0} (x : X) → ◌≡◌ {A = Option X} None (Some x) → ⊥
no_answer x e = let z : ◌≡◌ {A = ℕ} 0 1 = cc in omega arith

-- the one of some things that a text spells is spelled so
spelled_is : {X : Type 0} (spell : X → List ℕ) (text : List ℕ) (xs : List X) (x : X) → spelled spell text xs ≡ Some x → text ≡ spell x
spelled_is spell text [] x e = absurd (no_answer x e)
spelled_is spell text (y ∷ ys) x e =
    ⊎_elim
    (λ (p : bytes_eq text (spell y) ≡ true).
    let f = rw p at e in
    let same : y ≡ x = cc in
    (bytes_eq-Decides text (spell y)).0 p ∙ ap spell same)
    (λ (p : bytes_eq text (spell y) ≡ false). spelled_is spell text ys x (rw p at e))
    (cases_Bool (bytes_eq text (spell y)))

row_named : {K : Type 0} (kinds : Words K) (text : List ℕ) (k : Option K) (w : Word K) → kind_named kinds text ≡ k → row_of k ≡ Some w → text ≡ spelling kinds w
row_named kinds text None w is e = absurd (no_answer w e)
row_named kinds text (Some k) w is e =
    let same : Row k ≡ w = cc in
    spelled_is kinds.word text kinds.kinds k is ∙ ap (spelling kinds) same

-- the word that a text spells is spelled so
word_is : {K : Type 0} (kinds : Words K) (text : List ℕ) (w : Word K) → word_of kinds text ≡ Some w → text ≡ spelling kinds w
word_is kinds text w e =
    ⊎_elim
    (λ (p : bytes_eq text (codes "bar") ≡ true).
    let f = rw p at e in
    let same : Bar ≡ w = cc in
    (bytes_eq-Decides text (codes "bar")).0 p ∙ ap (spelling kinds) same)
    (λ (p : bytes_eq text (codes "bar") ≡ false).
    let f = rw p at e in
    ⊎_elim
    (λ (q : bytes_eq text (codes "cut") ≡ true).
    let g = rw q at f in
    let same : Cut ≡ w = cc in
    (bytes_eq-Decides text (codes "cut")).0 q ∙ ap (spelling kinds) same)
    (λ (q : bytes_eq text (codes "cut") ≡ false). row_named kinds text (kind_named kinds text) w refl (rw q at f))
    (cases_Bool (bytes_eq text (codes "cut"))))
    (cases_Bool (bytes_eq text (codes "bar")))

-- the number that digits write, after those that give n
abbrev read_on : ℕ → List ℕ → ℕ
read_on n [] = n
read_on n (c ∷ cs) = read_on (10 * n + (c - 48)) cs

own : IsNumeralModel (λ ds. all_ascii_digits ds ≡ true) (read_on 0)
own = numerals_by_fold _ (search rules) read_on (search rules)

digits_are : (n : ℕ) (ds : List ℕ) (m : ℕ) → digits_from n ds ≡ Some m → (all_ascii_digits ds ≡ true) × (m ≡ read_on n ds)
digits_are n [] m e = (refl, cc)
digits_are n (d ∷ ds) m e =
    ⊎_elim
    (λ (p : (ltb d 48 || ltb 57 d) ≡ true). absurd (no_answer m (rw p at e)))
    (λ (p : (ltb d 48 || ltb 57 d) ≡ false).
    let rest = digits_are (n * 10 + (d - 48)) ds m (rw p at e) in
    let o = or_parts (ltb d 48) (ltb 57 d) p in
    let low : 48 ≤ d = ltb-false d 48 o.0 in
    let high : d ≤ 57 = ltb-false 57 d o.1 in
    let same : n * 10 + (d - 48) ≡ 10 * n + (d - 48) = omega (arith, mul_comm n 10) in
    (and_from (is_ascii_digit d) (all_ascii_digits ds) (grind (arith, nat_tests)) rest.0, rest.1 ∙ ap (λ k. read_on k ds) same))
    (cases_Bool (ltb d 48 || ltb 57 d))

-- a number's digits are those that its value is written with
numeral_is : (ds : List ℕ) (n : ℕ) → numeral ds ≡ Some n → (ds ≡ decimal n) × (0 < length ds) × (n < 10 ^ 10)
numeral_is [] n e = absurd (no_answer n e)
numeral_is (d ∷ ds) n e =
    ⊎_elim
    (λ (p : in_form (d ∷ ds) ≡ true).
    let f = digits_are 0 (d ∷ ds) n (rw p at e) in
    let o = and_parts (ltb (length ds) 10) (not (eqb d 48) || eqb (length ds) 0) p in
    let short : length ds < 10 = ltb-true (length ds) 10 o.0 in
    let small : read_on 0 (d ∷ ds) < 10 ^ 10 = digits_value_short own (d ∷ ds) 10 f.0 (omega arith) in
    let plain : d ≡ 48 → length ds ≡ 0 = λ z. grind (arith, nat_tests) in
    let written = decimal-digits_value own (d ∷ ds) f.0 (omega arith) (λ z. ap suc (plain z)) (omega arith) in
    (sym written ∙ ap decimal (sym f.1), omega arith, omega arith))
    (λ (p : in_form (d ∷ ds) ≡ false). absurd (no_answer n (rw p at e)))
    (cases_Bool (in_form (d ∷ ds)))

-- a line with something past its first blank has that blank
at_blank : (line : List ℕ) → 0 < length (drop (prefix_len not_blank line + 1) line) → line ≡ take (prefix_len not_blank line) line ++ (32 ∷ drop (prefix_len not_blank line + 1) line)
at_blank [] h = absurd (let z : ⊥ = omega arith in z)
at_blank (b ∷ line) h =
    ⊎_elim
    (λ (p : eqb b 32 ≡ true). let q : b ≡ 32 = eqb-true b 32 p in rw p (ap (λ c. c ∷ line) q))
    (λ (p : eqb b 32 ≡ false).
    let k = prefix_len not_blank line in
    let next : prefix_len not_blank (b ∷ line) ≡ suc k = rw p (one-add k) in
    let more : suc k + 1 ≡ suc (k + 1) = omega arith in
    let g = rw (next, more) at h in
    rw (next, more) (ap (λ rest. b ∷ rest) (at_blank line g)))
    (cases_Bool (eqb b 32))

parts : {X : Type 0} (w : Option X) (n : Option ℕ) (v : X) (m : ℕ) → both w n ≡ Some (v, m) → (w ≡ Some v) × (n ≡ Some m)
parts None n v m e = absurd (no_answer (v, m) e)
parts (Some w) None v m e = absurd (no_answer (v, m) e)
parts {X} (Some w) (Some n) v m e =
    let q : ◌≡◌ {A = X × ℕ} (w, n) (v, m) = cc in
    (ap (λ (p : X × ℕ). Some p.0) q, ap (λ (p : X × ℕ). Some p.1) q)

-- a line that has an entry is written so
pub entry_written : {K : Type 0} (kinds : Words K) (line : List ℕ) (w : Word K) (n : ℕ) → entry_of kinds line ≡ Some (w, n)
    → (line ≡ spelling kinds w ++ (32 ∷ decimal n)) × (n < 10 ^ 10)
entry_written kinds line w n e =
    let k = prefix_len not_blank line in
    let p = parts (word_of kinds (take k line)) (numeral (drop (k + 1) line)) w n e in
    let word = word_is kinds (take k line) w p.0 in
    let number = numeral_is (drop (k + 1) line) n p.1 in
    (at_blank line number.1 ∙ ap (λ front. front ++ (32 ∷ drop (k + 1) line)) word ∙ ap (λ back. spelling kinds w ++ (32 ∷ back)) number.0, number.2)

digits_read : (n : ℕ) (ds : List ℕ) → all_ascii_digits ds ≡ true → digits_from n ds ≡ Some (read_on n ds)
digits_read n [] e = refl
digits_read n (d ∷ ds) e =
    let p = and_parts (is_ascii_digit d) (all_ascii_digits ds) e in
    let digit : (ltb d 48 || ltb 57 d) ≡ false = grind (arith, nat_tests) in
    let same : n * 10 + (d - 48) ≡ 10 * n + (d - 48) = omega (arith, mul_comm n 10) in
    rw digit (digits_read (n * 10 + (d - 48)) ds p.1 ∙ ap (λ k. Some (read_on k ds)) same)

plain_form : (ds : List ℕ) → 0 < length ds → length ds ≤ 10 → (get_or ds 0 0 ≡ 48 → length ds ≡ 1) → in_form ds ≡ true
plain_form [] some short plain = absurd (let z : ⊥ = omega arith in z)
plain_form (d ∷ ds) some short plain =
    and_from (ltb (length ds) 10) (not (eqb d 48) || eqb (length ds) 0) (lt-ltb (length ds) 10 (omega arith))
    (⊎_elim
    (λ (z : d ≡ 48). let one : length ds ≡ 0 = omega (arith, plain z) in or_right (not (eqb d 48)) (eqb (length ds) 0) (eq-eqb (length ds) 0 one))
    (λ (z : d ≡ 48 → ⊥). or_left (not (eqb d 48)) (eqb (length ds) 0) (not_from_false (eqb d 48) (ne_eqb d 48 z)))
    (cases_eq d 48))

-- only 0 is written with a 0 in front
decimal_plain : (n : ℕ) → n < 2 ^ 64 → get_or (decimal n) 0 0 ≡ 48 → length (decimal n) ≡ 1
decimal_plain n h e =
    ⊎_elim
    (λ (z : n ≡ 0). ap (λ k. length (decimal k)) z ∙ ap length (decimal_digit 0 (omega arith)))
    (λ (z : n ≡ 0 → ⊥). absurd (let f = first_decimal n (omega arith) h in let g : ⊥ = omega arith in g))
    (cases_eq n 0)

-- a number below 10 ^ 10 is read from the digits that it is written with
numeral_reads : (n : ℕ) → n < 10 ^ 10 → numeral (decimal n) ≡ Some n
numeral_reads n h =
    let small : n < 2 ^ 64 = omega arith in
    let form = plain_form (decimal n) (decimal_nonempty n small) (length-decimal-le 10 n (omega arith) h small) (decimal_plain n small) in
    rw form (digits_read 0 (decimal n) (digits_decimal own n small) ∙ ap Some (digits_value-decimal own n small))

-- what stands before the first blank and after it
apart : (word rest : List ℕ) → unbroken word ≡ true
    → (take (prefix_len not_blank (word ++ (32 ∷ rest))) (word ++ (32 ∷ rest)) ≡ word)
    × (drop (prefix_len not_blank (word ++ (32 ∷ rest)) + 1) (word ++ (32 ∷ rest)) ≡ rest)
apart [] rest e = (refl, refl)
apart (b ∷ word) rest e =
    let p = and_parts (not (eqb b 32)) (not (eqb b 10) && unbroken word) e in
    let q = and_parts (not (eqb b 10)) (unbroken word) p.1 in
    let h = apart word rest q.1 in
    let k = prefix_len not_blank (word ++ (32 ∷ rest)) in
    let next : prefix_len not_blank (b ∷ (word ++ (32 ∷ rest))) ≡ suc k = rw p.0 (one-add k) in
    let more : suc k + 1 ≡ suc (k + 1) = omega arith in
    (rw next (ap (λ bytes. b ∷ bytes) h.0), rw (next, more) h.1)

one_line : (bytes : List ℕ) → unbroken bytes ≡ true → AllByRecursion (λ b. b ≡ 10 → ⊥) bytes
one_line [] e = tt
one_line (b ∷ bytes) e =
    let p = and_parts (not (eqb b 32)) (not (eqb b 10) && unbroken bytes) e in
    let q = and_parts (not (eqb b 10)) (unbroken bytes) p.1 in
    (eqb-false b 10 (not-true (eqb b 10) q.0), one_line bytes q.1)

digits_one_line : (ds : List ℕ) → all_ascii_digits ds ≡ true → AllByRecursion (λ b. b ≡ 10 → ⊥) ds
digits_one_line [] e = tt
digits_one_line (d ∷ ds) e =
    let p = and_parts (is_ascii_digit d) (all_ascii_digits ds) e in
    (λ z. both_ways (is_ascii_digit d) (ap is_ascii_digit z) p.0, digits_one_line ds p.1)

module _ {K : Type 0} (kinds : Words K) (told : AreWords kinds) where
  spelling_unbroken : (w : Word K) → unbroken (spelling kinds w) ≡ true
  spelling_unbroken Bar = refl
  spelling_unbroken Cut = refl
  spelling_unbroken (Row k) = told.whole k

  word_reads : (w : Word K) → word_of kinds (spelling kinds w) ≡ Some w
  word_reads Bar = refl
  word_reads Cut = refl
  word_reads (Row k) = told.told k

  -- a line that is written so has that entry
  pub entry_reads : (w : Word K) (n : ℕ) → n < 10 ^ 10 → entry_of kinds (spelling kinds w ++ (32 ∷ decimal n)) ≡ Some (w, n)
  entry_reads w n h =
      let a = apart (spelling kinds w) (decimal n) (spelling_unbroken w) in
      rw (a.0, a.1, word_reads w, numeral_reads n h)

  -- no line that is written so has a byte 10 in it
  pub entry_one_line : (w : Word K) (n : ℕ) → n < 10 ^ 10 → AllByRecursion (λ b. b ≡ 10 → ⊥) (spelling kinds w ++ (32 ∷ decimal n))
  entry_one_line w n h =
      All-append (λ b. b ≡ 10 → ⊥) (spelling kinds w) (32 ∷ decimal n) (one_line (spelling kinds w) (spelling_unbroken w))
      (λ z. omega arith, digits_one_line (decimal n) (digits_decimal own n (omega arith)))
