use Rattle.std.proofs.Common.{Ok, sym, ap, ◌∙◌, rules}
use Rattle.bounds.proofs.Entries.{asked_refused, asked_answered}
use Rattle.foreign.specs.AboveHalf.{above_half}
use Rattle.foreign.proofs.Counted.{above_counted}
use Rattle.foreign.proofs.halves.HalvesBounder.number.Goals as goal

pub returns-in_err-check_list : goal.returns-in_err-check_list
returns-in_err-check_list c =
    let e = asked_refused {X = Unit} c.args.self.now.capacity (λ _. tt) (above_half c.args.self.now.capacity) c.args.list.now c.in_err-check_list.field-0.0 c.in_err-check_list.ensures in
    search rules

pub returns : goal.returns
returns c =
    let told = asked_answered {X = Unit} c.args.self.now.capacity (λ _. tt) (above_half c.args.self.now.capacity) c.args.list.now tt c.in_ok-check_list.ensures in
    ap Ok (c.count_above.ensures ∙ sym (above_counted c.args.self.now.capacity c.args.list.now)) ∙ sym told.1
