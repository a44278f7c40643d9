use Rattle.std.proofs.Common.{length, Ok, sym, ap, ◌∙◌}
use Rattle.std.proofs.lemmas.Bool.{le-ltb}
use Rattle.bounds.proofs.Entries.{refused_at, first_found}
use Rattle.bounds.proofs.checks.check_list.Goals as goal

pub returns-in-Some : goal.returns-in-Some
returns-in-Some c =
    rw (le-ltb 64 (length c.args.list.now) c.if-list-gt-MOST.false, c.new-in-Some.ensures)
    (sym (first_found c.args.capacity c.args.list.now (Ok tt) ∙ ap (λ i. refused_at i (Ok tt)) (sym c.first_above.ensures ∙ c.in-Some.is)))

pub returns-in-None : goal.returns-in-None
returns-in-None c =
    rw (le-ltb 64 (length c.args.list.now) c.if-list-gt-MOST.false)
    (sym (first_found c.args.capacity c.args.list.now (Ok tt) ∙ ap (λ i. refused_at i (Ok tt)) (sym c.first_above.ensures ∙ c.in-None.is)))
