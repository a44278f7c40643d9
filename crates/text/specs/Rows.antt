-- Rows: a kind of function and its parameter. The function of a row is made for the bar's capacity c.
use Rattle.std.specs.Prelude.{ℕ, Result}
use Rattle.faults.specs.declared.Fault.{Fault}
use Rattle.functions.specs.Made.{threshold_made, rounding_made, division_made, counting_made}
use Rattle.functions.specs.Values.{threshold, rounding, division, counting, rounding_image, division_image, counting_image}
use Rattle.text.specs.declared.kinds.Kind.{Kind}
use Rattle.text.specs.declared.kinds.Kind.TheVariants.{Threshold, Rounding, Division, Counting}

-- what making it answers
abbrev pub row_made : Kind → ℕ → ℕ → Result (ℕ × ℕ) Fault
row_made Threshold c p = threshold_made c p
row_made Rounding c p = rounding_made c p
row_made Division c p = division_made c p
row_made Counting c p = counting_made c p

abbrev pub row_image : Kind → ℕ → ℕ → ℕ
row_image Threshold c p = c
row_image Rounding c p = rounding_image c p
row_image Division c p = division_image c p
row_image Counting c p = counting_image c p

abbrev pub row_value : Kind → ℕ → ℕ → ℕ → ℕ
row_value Threshold c p = threshold c p
row_value Rounding c p = rounding c p
row_value Division c p = division p
row_value Counting c p = counting c p
