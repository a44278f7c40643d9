use Rattle.std.proofs.Common.{◌≡◌, ℕ, true, false, ltb, List, length, ⊎_elim, ◌∙◌, ap, arith}
use Rattle.std.specs.List.{prefix_len, position}
use Rattle.std.specs.Option.{unwrap_or}
use Rattle.std.proofs.lemmas.List.Sums.{prefix_len-le-length}
use Rattle.std.proofs.lemmas.Bool.{cases_Bool, ltb-false}
use Rattle.lines.specs.Lines.{is_blank, not_blank}
use Rattle.lines.proofs.before_blank.Goals as goal

-- all bytes stand before the first blank where there is none
up_to_blank : (text : List ℕ) → unwrap_or (position is_blank text) (length text) ≡ prefix_len not_blank text
up_to_blank text =
    let k = prefix_len not_blank text in
    ⊎_elim
    (λ (p : ltb k (length text) ≡ true). rw p)
    (λ (p : ltb k (length text) ≡ false). rw p (omega (arith, ltb-false k (length text) p, prefix_len-le-length not_blank text)))
    (cases_Bool (ltb k (length text)))

pub returns : goal.returns
returns c = c.unwrap_or.ensures ∙ ap (λ found. unwrap_or found (length c.args.text.now)) c.first_blank.ensures ∙ up_to_blank c.args.text.now
