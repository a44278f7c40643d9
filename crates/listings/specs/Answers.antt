-- What is printed of a text.
use Rattle.std.specs.Prelude.{ℕ, List, [], ◌∷◌, ◌++◌, Some, None, Ok, Err, codes, decimal, Option, Result}
use Rattle.faults.specs.declared.Fault.{Fault}
use Rattle.faults.specs.Faults.{number_of}
use Rattle.plans.specs.Plans.{AtLeast}
use Rattle.listings.specs.Texts.{CuttingList}
use Rattle.listings.specs.declared.reading.Stop.{Stop}

-- `lower N`; every line ends with byte 10
abbrev pub lower_line_text : ℕ → List ℕ
lower_line_text n = codes "lower " ++ (decimal n ++ (10 ∷ []))

-- `refused NUMBER line LINE`
abbrev pub refused_line_text : ℕ → ℕ → List ℕ
refused_line_text number line = codes "refused " ++ (decimal number ++ (codes " line " ++ (decimal line ++ (10 ∷ []))))

-- the same without the end of the line
abbrev pub refusal_text : ℕ → ℕ → List ℕ
refusal_text number line = codes "refused " ++ (decimal number ++ (codes " line " ++ decimal line))

-- the one line of a text, where the lower figure of a capacity, cuts and rows is known
abbrev pub printed : {Row : Type 0} → (ℕ → List ℕ → List Row → ℕ) → Result (CuttingList Row) Stop → List ℕ
printed figure (Ok l) = lower_line_text (figure l.capacity l.cuts l.rows)
printed figure (Err e) = refused_line_text (number_of e.fault.refusal) e.line

-- the fault of a text that is refused
abbrev pub fault_of : {Row : Type 0} → Result (CuttingList Row) Stop → Option Fault
fault_of (Ok l) = None
fault_of (Err e) = Some e.fault

-- every plan of the list has at least as many bars as its lower figure says
abbrev pub NoFewerBars : {Row : Type 0} → (ℕ → List ℕ → List Row → ℕ) → Result (CuttingList Row) Stop → Type 0
NoFewerBars figure (Ok l) = AtLeast l.capacity l.cuts (figure l.capacity l.cuts l.rows)
NoFewerBars figure (Err e) = Unit {0}
