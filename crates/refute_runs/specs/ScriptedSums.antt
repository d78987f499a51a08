-- Sums over the runs of the definition under a script, and the pre. This project's own.
use Rattle.std.specs.Prelude.{◌≡◌, ℕ, true, List}
use Rattle.heyvl_num.specs.Value.{Value}
use Rattle.heylo_formula.specs.Choices.{Choices}
use Rattle.heylo_formula.specs.Meaning.{value}
use Rattle.heylo_formula.specs.State.{environment}
use Rattle.heylo_formula.specs.declared.values.Val.{Val}
use Rattle.heyvl_acts.specs.Acts.{TypedProcedure, procedure_at}
use Rattle.run_machine.specs.Configurations.{begin}
use Rattle.run_machine.specs.Runs.{runs}
use Rattle.run_machine.specs.Sums.{sum_of}
use Rattle.run_machine.specs.declared.configurations.Decide.{Decide}
use Rattle.run_unroller.specs.ScriptTrees.{scripted}

-- `scripted_sum ps p state script s`: the upper sum over the runs of at most `s` steps of the
-- procedure with the number `p` from `state`, under the scheduler of `script`.
abbrev pub scripted_sum : List TypedProcedure → ℕ → List Val → List Decide → ℕ → Value
scripted_sum ps p state script s = sum_of true (procedure_at ps p).post
    (runs ps s (begin ps p state) (scripted ps script s 0 (begin ps p state)))

-- `pre_in ps p state`: the value of the pre of the procedure with the number `p` in `state`.
abbrev pub pre_in : List TypedProcedure → ℕ → List Val → Value
pre_in ps p state = value (procedure_at ps p).pre (environment state) Choices.stop

-- `AreOfRuns ps p state script s sum bound`: `sum` is the upper sum after `s` steps, and `bound` is
-- the value of the pre.
pub record AreOfRuns (ps : List TypedProcedure) (p : ℕ) (state : List Val) (script : List Decide)
    (s : ℕ) (sum bound : Value) : Type 0 where
  pub is_sum : sum ≡ scripted_sum ps p state script s
  pub is_pre : bound ≡ pre_in ps p state
