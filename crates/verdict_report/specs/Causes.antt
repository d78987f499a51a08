-- The causes for which a goal is not decided, as a report shows them. This project's own.
use Rattle.heyvl_num.specs.Rational.{Rational}
use Rattle.heylo_formula.specs.declared.values.Val.{Val}
use Rattle.goal_answers.specs.declared.causes.Broken.{Broken}
use Rattle.goal_answers.specs.declared.causes.Cause.{Cause}
use Rattle.goal_answers.specs.declared.causes.Cause.TheVariants.{Depth, Nodes, Nonlinear, Cells}
use Rattle.goal_answers.specs.declared.causes.Cause.TheVariants.{Rows, Bits, Fraction}
use Rattle.std.specs.Prelude.{Bool, List, [], codes, decimal, false, true, ◌++◌, ◌∷◌, ℕ}
use Rattle.number_texts.specs.ValueTexts.{fraction_text, place_text}
use Rattle.verdict_report.specs.Settings.{Names, settings_text, variable_text}

-- The bracket of the low end: `[` if it belongs to the interval, otherwise `(`.
abbrev pub low_mark : Bool → List ℕ
low_mark true = codes "["
low_mark false = codes "("

-- The bracket of the high end: `]` if it belongs to the interval, otherwise `)`.
abbrev pub high_mark : Bool → List ℕ
high_mark true = codes "]"
high_mark false = codes ")"

-- The interval between two ends, for example `[1/3, 1/2)`.
abbrev pub interval_text : Bool → Rational → Rational → Bool → List ℕ
interval_text low_in low high high_in =
    low_mark low_in ++ fraction_text low ++ codes ", " ++ fraction_text high ++ high_mark high_in

-- The values that were chosen before, if there are any.
abbrev pub earlier_text : Names → List (ℕ × Val) → List ℕ
earlier_text n [] = []
earlier_text n (p ∷ ps) = codes " where " ++ settings_text n (p ∷ ps)

-- A variable that has no integer in the interval of its values, this interval, and the values that
-- were chosen before.
abbrev pub broken_text : Names → Broken → List ℕ
broken_text n b = codes "fraction " ++ variable_text n b.var ++ codes " in "
    ++ interval_text b.low_in b.low b.high b.high_in ++ earlier_text n b.earlier.items

-- The number of variables that were eliminated before there were more rows than the limit allows.
abbrev pub step_text : ℕ → List ℕ
step_text step = codes "rows at step " ++ decimal step

-- The text of a cause.
abbrev pub cause_text : List ℕ → Names → Cause → List ℕ
cause_text bytes n Depth = codes "depth"
cause_text bytes n Nodes = codes "nodes"
cause_text bytes n (Nonlinear span) = codes "nonlinear at " ++ place_text bytes span.from
cause_text bytes n (Cells count) = codes "cells"
cause_text bytes n (Rows step count) = step_text step
cause_text bytes n Bits = codes "bits"
cause_text bytes n (Fraction b) = broken_text n b
