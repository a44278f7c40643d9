use Rattle.std.proofs.Common.{◌≡◌, ℕ, max, List, Ok, Err, sym, ◌∙◌, subst, rules}
use Rattle.std.proofs.lemmas.Bool.{eq-eqb, ne_eqb}
use Rattle.faults.specs.declared.Fault.{Fault}
use Rattle.bounds.specs.Bounds.{asked_of, greater}
use Rattle.bounds.proofs.Entries.{asked_refused, asked_answered}
use Rattle.bounds.proofs.greater.GreaterBounder.number.Given as given
use Rattle.bounds.proofs.greater.GreaterBounder.number.Goals as goal

module _ (g : given.Over) (a : g.row.A.Denot) (b : g.row.B.Denot) (list : List ℕ) where
  abbrev c : ℕ
  c = g.A.Bounder.capacity a

  abbrev d : ℕ
  d = g.B.Bounder.capacity b

  abbrev first : List ℕ → ℕ
  first = g.A.Bounder.number a

  abbrev second : List ℕ → ℕ
  second = g.B.Bounder.number b

  abbrev both : List ℕ → ℕ
  both xs = greater c d (first xs) (second xs)

  refused_first : (f : Fault) → Err f ≡ asked_of c first list → Err f ≡ asked_of c both list
  refused_first = asked_refused c first both list

  refused_second : (f : Fault) → Err f ≡ asked_of d second list → c ≡ d → Err f ≡ asked_of c both list
  refused_second f e same = subst (λ (k : ℕ). Err f ≡ asked_of k both list) (sym same) (asked_refused d second both list f e)

  answered_none : (m : ℕ) → Ok m ≡ asked_of c first list → (c ≡ d → ⊥) → Ok 0 ≡ asked_of c both list
  answered_none m e differ = sym ((asked_answered c first both list m e).1 ∙ rw (ne_eqb c d differ))

  answered_both : (m n : ℕ) → Ok m ≡ asked_of c first list → Ok n ≡ asked_of d second list → c ≡ d → Ok (max m n) ≡ asked_of c both list
  answered_both m n e f same =
      let t = asked_answered c first both list m e in
      let u = asked_answered d second both list n f in
      sym (t.1 ∙ rw (eq-eqb c d same, t.0, u.0))

pub returns-in_err-first : goal.returns-in_err-first
returns-in_err-first g c =
    let e = refused_first g c.args.self.now.first c.args.self.now.second c.args.list.now c.in_err-first.field-0.0 c.in_err-first.ensures in
    search rules

pub returns-then-capacity : goal.returns-then-capacity
returns-then-capacity g c =
    answered_none g c.args.self.now.first c.args.self.now.second c.args.list.now c.in_ok-first.first c.in_ok-first.ensures (λ e. c.if-capacity.true (cc))

pub returns-in_err-second : goal.returns-in_err-second
returns-in_err-second g c =
    let e = refused_second g c.args.self.now.first c.args.self.now.second c.args.list.now c.in_err-second.field-0.0 c.in_err-second.ensures (cc) in
    search rules

pub returns : goal.returns
returns g c =
    let e = answered_both g c.args.self.now.first c.args.self.now.second c.args.list.now c.in_ok-first.first c.in_ok-second.second c.in_ok-first.ensures c.in_ok-second.ensures (cc) in
    search rules
