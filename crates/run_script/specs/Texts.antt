-- The texts of the results of a run under a script. This project's own.
use Rattle.heyvl_num.specs.Rational.{Rational}
use Rattle.heyvl_num.specs.Value.Value.{finite, infinite}
use Rattle.heyvl_num.specs.Value.{Value}
use Rattle.number_texts.specs.ValueTexts.{fraction_text}
use Rattle.run_unroller.specs.Totals.{Totals}
use Rattle.std.specs.Prelude.{List, [], codes, decimal, ◌+◌, ◌++◌, ◌∷◌, ℕ}

-- A fraction, or `infinity`.
abbrev pub sum_text : Value → List ℕ
sum_text (finite q) = fraction_text q
sum_text infinite = codes "infinity"

-- A line `loop N turns F` for each loop, where F is the expected number of its iterations. The
-- first loop has the number `n`.
abbrev pub turns_text : ℕ → List Rational → List ℕ
turns_text n [] = []
turns_text n (t ∷ ts) = codes "loop " ++ decimal n ++ codes " turns " ++ fraction_text t
    ++ codes "\n" ++ turns_text (n + 1) ts

-- The lines `post E`, `reward E` and `running F`, then a line for each loop of the procedure. F is
-- the mass not yet terminated.
abbrev pub sums_text : Totals → List ℕ
sums_text t = codes "post " ++ sum_text t.post ++ codes "\nreward " ++ sum_text t.reward
    ++ codes "\nrunning " ++ fraction_text t.running ++ codes "\n" ++ turns_text 1 t.turns

-- `stop_text cause step`: the line on a run that was stopped at the step `step`. The cause is
-- `runs`, `values` or `bits`.
abbrev pub stop_text : List ℕ → ℕ → List ℕ
stop_text cause step = codes "run stopped at step " ++ decimal step ++ codes ": " ++ cause
    ++ codes "\n"

-- The line on an invalid script, whose first invalid line is `line`.
abbrev pub script_fault_text : ℕ → List ℕ
script_fault_text line = codes "script line " ++ decimal line ++ codes ": fault\n"

-- The line on a procedure whose runs of `step` steps exceed its pre.
abbrev pub violation_text : List ℕ → ℕ → Value → Value → List ℕ
violation_text name step sum pre = name ++ codes ": violated at step " ++ decimal step ++ codes ": "
    ++ sum_text sum ++ codes " above " ++ sum_text pre ++ codes "\n"

-- The line on a procedure whose runs do not exceed its pre within `steps` steps.
abbrev pub within_text : List ℕ → Value → ℕ → Value → List ℕ
within_text name pre steps sum = name ++ codes ": within " ++ sum_text pre ++ codes " at step "
    ++ decimal steps ++ codes ": " ++ sum_text sum ++ codes "\n"
