use Rattle.std.proofs.Common.{◌≡◌, map, drop}
use Rattle.text.specs.Functions.{function_row}
use Rattle.text.specs.Lower.{greatest_of, lower_of}
use Rattle.text.proofs.lower.FunctionRowsBounding.lower_figure.Given as goal

-- what is left of the functions gives the greatest
abbrev pub invariant-loop-function : goal.invariant-loop-function
invariant-loop-function l =
    greatest_of l.self.capacity l.cuts l.greatest (drop l.function-index (map function_row l.self.functions.items)) ≡ lower_of l.self.capacity l.cuts (map function_row l.self.functions.items)
