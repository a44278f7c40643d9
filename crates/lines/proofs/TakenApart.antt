-- A line taken apart at its first blank.
use Rattle.std.proofs.Common.{◌≡◌, ℕ, ◌+◌, ◌-◌, List, length, take, drop, Option, ap, ◌∙◌}
use Rattle.std.specs.List.{prefix_len}
use Rattle.std.proofs.lemmas.List.{drop-drop, take_rest}
use Rattle.lines.specs.Words.{Words}
use Rattle.lines.specs.declared.Word.{Word}
use Rattle.lines.specs.Lines.{word_of, numeral, not_blank, both, entry_of}

-- the word before the blank and the number after it, as a pattern gives what stands there, are the line's entry
pub entry_from : {K : Type 0} (kinds : Words K) (line : List ℕ) (at : ℕ) (front back : List ℕ) → at ≡ prefix_len not_blank line → front ≡ take at line → back ≡ drop at line
    → (w : Option (Word K)) (n : Option ℕ) → w ≡ word_of kinds front → n ≡ numeral (take (length back - 1) (drop 1 back)) → both w n ≡ entry_of kinds line
entry_from kinds line at front back place first rest w n p q =
    let f : front ≡ take (prefix_len not_blank line) line = first ∙ ap (λ i. take i line) place in
    let b : drop 1 back ≡ drop (prefix_len not_blank line + 1) line = ap (drop 1) (rest ∙ ap (λ i. drop i line) place) ∙ drop-drop 1 (prefix_len not_blank line) line in
    ap (λ x. both x n) (p ∙ ap (word_of kinds) f) ∙ ap (both (word_of kinds (take (prefix_len not_blank line) line))) (q ∙ ap numeral (take_rest back 1 ∙ b))
