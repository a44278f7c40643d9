-- One line of a text that is scanned.
use Rattle.std.proofs.Common.{◌≡◌, ℕ, suc, ◌+◌, ◌-◌, ◌<◌, ◌≤◌, true, false, cond, eqb, ltb, List, [], ◌∷◌, ◌++◌, length, take, drop, Some, None, Ok, Err, Result, sym, ap, ◌∙◌, ⊎_elim, one-add, arith, length-drop}
use Rattle.std.specs.List.{position, position_or_len}
use Rattle.std.proofs.lemmas.Bool.{cases_Bool, ltb-true, ltb-false}
use Rattle.std.proofs.lemmas.List.{append_assoc, append-nil, take_rest}
use Rattle.std.proofs.lemmas.Option.{cond_some}
use Rattle.faults.specs.declared.Fault.{Fault}
use Rattle.faults.proofs.Refusals.{no_answer}
use Rattle.lines.specs.Words.{Words}
use Rattle.listings.specs.Laying.{Laying}
use Rattle.listings.specs.declared.reading.Stop.{Stop}
use Rattle.listings.specs.Listings.{Content, line_read, left}
use Rattle.listings.specs.Texts.{stop, stopped, go_on, malformed_at_line, ends_line, scanned}

module _ {Kind Row : Type 0} (words : Words Kind) (laying : Laying Kind Row) (l : ℕ) (s : Content Row) where
  -- the scan passes the bytes of a line, and reads the line at its end
  to_end : (line bytes : List ℕ) → position_or_len ends_line bytes < length bytes
      → scanned words laying l s line bytes
      ≡ go_on (line_read words laying l (line ++ take (position_or_len ends_line bytes) bytes) s) l (λ t. scanned words laying (l + 1) t [] (drop (position_or_len ends_line bytes + 1) bytes))
  to_end line [] h = absurd (let z : ⊥ = omega arith in z)
  to_end line (b ∷ bytes) h =
      ⊎_elim
      (λ (p : eqb b 10 ≡ true). rw p (ap (λ x. go_on (line_read words laying l x s) l (λ t. scanned words laying (l + 1) t [] bytes)) (sym (append-nil line))))
      (λ (p : eqb b 10 ≡ false).
      let k = position_or_len ends_line bytes in
      let next : position_or_len ends_line (b ∷ bytes) ≡ suc k = rw p (one-add k) in
      let more : suc k + 1 ≡ suc (k + 1) = omega arith in
      let less : k < length bytes = omega (arith, next) in
      rw (p, one-add k, more)
      (to_end (line ++ b ∷ []) bytes less ∙ ap (λ x. go_on (line_read words laying l x s) l (λ t. scanned words laying (l + 1) t [] (drop (k + 1) bytes))) (append_assoc line (b ∷ []) (take k bytes))))
      (cases_Bool (eqb b 10))

  -- where no byte ends a line, the scan passes all bytes
  to_last : (line bytes : List ℕ) → length bytes ≤ position_or_len ends_line bytes → scanned words laying l s line bytes ≡ cond (eqb (length (line ++ bytes)) 0) (Ok s) (Err (malformed_at_line l))
  to_last line [] h = ap (λ x. cond (eqb (length x) 0) (Ok s) (Err (malformed_at_line l))) (sym (append-nil line))
  to_last line (b ∷ bytes) h =
      ⊎_elim
      (λ (p : eqb b 10 ≡ true). absurd (let g = rw p at h in let z : ⊥ = omega arith in z))
      (λ (p : eqb b 10 ≡ false).
      let k = position_or_len ends_line bytes in
      let next : position_or_len ends_line (b ∷ bytes) ≡ suc k = rw p (one-add k) in
      let less : length bytes ≤ k = omega (arith, next) in
      rw p (to_last (line ++ b ∷ []) bytes less ∙ ap (λ x. cond (eqb (length x) 0) (Ok s) (Err (malformed_at_line l))) (append_assoc line (b ∷ []) bytes)))
      (cases_Bool (eqb b 10))

  -- a text whose first line ends at a place
  line_ended : (rest : List ℕ) (end : ℕ) → position ends_line rest ≡ Some end
      → (end < length rest) × (scanned words laying l s [] rest ≡ go_on (line_read words laying l (take end rest) s) l (λ t. scanned words laying (l + 1) t [] (drop (end + 1) rest)))
  line_ended rest end e =
      let k = position_or_len ends_line rest in
      let found = cond_some (ltb k (length rest)) k end e in
      let lt = ltb-true k (length rest) found.0 in
      (omega (arith, found.1), to_end [] rest lt ∙ ap (λ i. go_on (line_read words laying l (take i rest) s) l (λ t. scanned words laying (l + 1) t [] (drop (i + 1) rest))) found.1)

  no_line_ended : (rest : List ℕ) → position ends_line rest ≡ None → scanned words laying l s [] rest ≡ cond (eqb (length rest) 0) (Ok s) (Err (malformed_at_line l))
  no_line_ended rest e =
      let k = position_or_len ends_line rest in
      ⊎_elim
      (λ (p : ltb k (length rest) ≡ true). absurd (let f = rw p at e in let z : ◌≡◌ {A = ℕ} 0 1 = cc in let n : ⊥ = omega arith in n))
      (λ (p : ltb k (length rest) ≡ false). to_last [] rest (ltb-false k (length rest) p))
      (cases_Bool (ltb k (length rest)))

  -- what is left of a text, where a line ends
  module _ (rest : List ℕ) (end : ℕ) (ends : Some end ≡ position ends_line rest) where
    -- after the line there is less
    pub rest_shorter : length (take (length rest - (end + 1)) (drop (end + 1) rest)) < length rest
    rest_shorter = omega (arith, ap length (take_rest rest (end + 1)), length-drop (end + 1) rest, (line_ended rest end (sym ends)).0)

    -- the line is accepted
    pub line_accepted : (answer : Result Unit Fault) (t : Content Row) (x : Unit) → Ok x ≡ stopped l answer → left answer t ≡ line_read words laying l (take end rest) s
        → scanned words laying (l + 1) t [] (take (length rest - (end + 1)) (drop (end + 1) rest)) ≡ scanned words laying l s [] rest
    line_accepted (Ok y) t x e h =
        ap (scanned words laying (l + 1) t []) (take_rest rest (end + 1))
        ∙ sym ((line_ended rest end (sym ends)).1 ∙ ap (λ r. go_on r l (λ u. scanned words laying (l + 1) u [] (drop (end + 1) rest))) (sym h))
    line_accepted (Err f) t x e h = absurd (no_answer (stop f l) x (sym e))

    -- the line is refused
    pub line_refused : (answer : Result Unit Fault) (t : Content Row) (f : Stop) → Err f ≡ stopped l answer → left answer t ≡ line_read words laying l (take end rest) s → Err f ≡ scanned words laying l s [] rest
    line_refused (Ok y) t f e h = absurd (no_answer f y e)
    line_refused (Err g) t f e h =
        let whole : scanned words laying l s [] rest ≡ Err (stop g l) = (line_ended rest end (sym ends)).1 ∙ ap (λ r. go_on r l (λ u. scanned words laying (l + 1) u [] (drop (end + 1) rest))) (sym h) in
        let same : f ≡ stop g l = cc in
        ap Err same ∙ sym whole

  -- the text ends within a line
  pub line_broken : (rest : List ℕ) → None ≡ position ends_line rest → false ≡ eqb (length rest) 0 → Err (malformed_at_line l) ≡ scanned words laying l s [] rest
  line_broken rest e some = sym (no_line_ended rest (sym e) ∙ ap (λ b. cond b (Ok s) (Err (malformed_at_line l))) (sym some))
