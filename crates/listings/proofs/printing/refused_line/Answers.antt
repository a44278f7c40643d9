use Rattle.std.proofs.Common.{◌≡◌, ◌∙◌, [], ◌∷◌, ◌++◌, string_bytes}
use Rattle.std.proofs.lemmas.List.{append_assoc}
use Rattle.std.proofs.lemmas.Result.{IfOk-weaker}
use Rattle.faults.specs.Faults.{number_of}
use Rattle.listings.specs.Answers.{refusal_text, refused_line_text}
use Rattle.listings.proofs.printing.refused_line.Goals as goal

pub returns : goal.returns
returns c =
    let number = number_of c.args.stop.fault.refusal in
    let line = c.args.stop.line in
    let ended : refusal_text number line ++ (10 ∷ []) ≡ refused_line_text number line = simp append_assoc in
    IfOk-weaker c.format.result (λ s. string_bytes s ≡ refusal_text number line ++ (10 ∷ [])) (λ s. string_bytes s ≡ refused_line_text number line) (λ s h. h ∙ ended) c.format.ensures.ok
