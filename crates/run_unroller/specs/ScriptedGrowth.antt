-- The sums under a script do not decrease with the number of steps, although its scheduler grows
-- with them. This project's own.
use Rattle.std.specs.Prelude.{◌≤◌, ℕ, true, List}
use Rattle.heyvl_num.specs.Value.{◌≤ᵛ◌}
use Rattle.heylo_formula.specs.declared.values.Val.{Val}
use Rattle.heyvl_acts.specs.Acts.{TypedProcedure, procedure_at}
use Rattle.heyvl_acts.specs.Rules.{Each, MeetsRules}
use Rattle.run_machine.specs.Bound.{IsState}
use Rattle.run_machine.specs.Configurations.{begin}
use Rattle.run_machine.specs.Runs.{runs}
use Rattle.run_machine.specs.Sums.{sum_of}
use Rattle.run_machine.specs.declared.configurations.Decide.{Decide}
use Rattle.run_unroller.specs.ScriptTrees.{scripted}

-- In a file that satisfies the static rules, the upper sum of a script's runs after more steps is
-- at least that after fewer, from every state.
abbrev pub ScriptedSumsGrow : Type 0
ScriptedSumsGrow = (ps : List TypedProcedure) (p : ℕ) → Each (MeetsRules ps) ps → (s : List Val)
    → IsState (procedure_at ps p) s → (script : List Decide) (n m : ℕ) → n ≤ m
    → sum_of true (procedure_at ps p).post
    (runs ps n (begin ps p s) (scripted ps script n 0 (begin ps p s)))
    ≤ᵛ sum_of true (procedure_at ps p).post
    (runs ps m (begin ps p s) (scripted ps script m 0 (begin ps p s)))
