-- Sums over runs do not decrease with the number of steps. This project's own.
use Rattle.std.specs.Prelude.{ℕ, true, List}
use Prim.Native.Nat.{suc}
use Rattle.heyvl_num.specs.Value.{◌≤ᵛ◌}
use Rattle.heylo_formula.specs.declared.values.Val.{Val}
use Rattle.heyvl_acts.specs.Acts.{TypedProcedure, procedure_at}
use Rattle.heyvl_acts.specs.Rules.{Each, MeetsRules}
use Rattle.run_machine.specs.Bound.{IsState}
use Rattle.run_machine.specs.Configurations.{begin}
use Rattle.run_machine.specs.Runs.{runs}
use Rattle.run_machine.specs.Scheduler.{Tree}
use Rattle.run_machine.specs.Sums.{sum_of}

-- In a file that satisfies the static rules, the upper sum after one more step is at least the
-- upper sum, from every state and under every scheduler. The procedure need not be a program, since
-- a step skips checks.
abbrev pub SumsGrow : Type 0
SumsGrow = (ps : List TypedProcedure) (p : ℕ) → Each (MeetsRules ps) ps → (s : List Val)
    → IsState (procedure_at ps p) s → (n : ℕ) (t : Tree)
    → sum_of true (procedure_at ps p).post (runs ps n (begin ps p s) t)
    ≤ᵛ sum_of true (procedure_at ps p).post (runs ps (suc n) (begin ps p s) t)
