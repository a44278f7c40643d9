-- The function that a row names is lawful.
use Rattle.std.specs.Prelude.{ℕ, ◌/◌, ◌≤◌}
use Rattle.std.proofs.Math.Nat.{one-le-mul}
use Rattle.std.proofs.Common.{one-mul, div-le_self, arith}
use Rattle.std.proofs.lemmas.Nat.{le-div}
use Rattle.dual_feasible.specs.Laws.{InRange, Limits, Lawful}
use Rattle.functions.specs.SuperadditiveValues.{threshold_lawful, rounding_lawful, division_lawful}
use Rattle.functions.specs.CountingLaw.{counting_lawful}
use Rattle.text.specs.Functions.{function_capacity, function_image, function_value}
use Rattle.text.specs.declared.function.Function.{Function}
use Rattle.text.specs.declared.function.Function.TheVariants.{Threshold, Rounding, Division, Counting}

quotient_in_range : (c p : ℕ) → InRange c → 1 ≤ p → p ≤ c → InRange (c / p)
quotient_in_range c p h low high = (le-div 1 c p low (omega (arith, one-mul p)), omega (arith, div-le_self c p))

pub function_limits : (f : Function) → Limits (function_capacity f) (function_image f)
function_limits (Threshold f) = (f.limits, f.limits)
function_limits (Rounding f) = (f.limits, (one-le-mul f.limits.0 f.range.0, f.product))
function_limits (Division f) = (f.limits, quotient_in_range f.capacity f.parameter f.limits f.range.0 f.range.1)
function_limits (Counting f) = (f.limits, quotient_in_range f.capacity f.parameter f.limits f.range.0 (omega (arith, f.range.1)))

pub function_lawful : (f : Function) → Lawful (function_capacity f) (function_image f) (function_value f)
function_lawful (Threshold f) = threshold_lawful f.capacity f.parameter f.half
function_lawful (Rounding f) = rounding_lawful f.capacity f.parameter f.limits.0
function_lawful (Division f) = division_lawful f.capacity f.parameter f.range.0
function_lawful (Counting f) = counting_lawful f.capacity f.parameter f.range.0
