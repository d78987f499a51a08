-- The result of unrolling: the sums over the list after the steps, or the first cause that stops
-- it. Adding the sums counts as one more step. This project's own.
use Rattle.std.specs.Prelude.{◌≡◌, ◌+◌, ℕ, List, Option, Some, None}
use Rattle.heyvl_num.specs.ExtendedNumbers as extended
use Rattle.heylo_formula.specs.declared.values.Val.{Val}
use Rattle.heyvl_acts.specs.Acts.{TypedProcedure, procedure_at}
use Rattle.run_machine.specs.declared.configurations.Decide.{Decide}
use Rattle.run_machine.specs.ConfigConditions.{IsConfig}
use Rattle.run_machine.specs.Names.{Stored}
use Rattle.run_machine.specs.StoredStep.{stored_begin}
use Rattle.run_unroller.specs.declared.answers.Sums.{Sums}
use Rattle.run_unroller.specs.declared.answers.Unrolled.{Unrolled}
use Rattle.run_unroller.specs.declared.answers.Unrolled.TheVariants as answer
use Rattle.run_unroller.specs.declared.causes.Cause.{Cause}
use Rattle.run_unroller.specs.declared.causes.Cause.TheVariants.{Full, Deep, Bits}
use Rattle.run_unroller.specs.RunLists.{RunList, after}
use Rattle.run_unroller.specs.Causes.{first_stop}
use Rattle.run_unroller.specs.Totals.{Totals, totals}

-- The result of unrolling: the sums, or the cause that stopped it and the number of the step.
pub data Unrolling : Type 0 where
  sums : Totals → Unrolling
  stopped : Cause → ℕ → Unrolling

-- The sums, or a stop at the step `n` because a number overflows.
abbrev pub sums_or : ℕ → Option Totals → Unrolling
sums_or n (Some t) = Unrolling.sums t
sums_or n None = Unrolling.stopped Bits n

-- The stop if there is one, otherwise `u`.
abbrev pub stop_or : Option (Cause × ℕ) → Unrolling → Unrolling
stop_or (Some stop) u = Unrolling.stopped stop.0 stop.1
stop_or None u = u

-- The result of unrolling `n` steps of the procedure `p` from the runs `rs` under the script: the
-- first stop, or the sums after the last step.
abbrev pub unrolled : List TypedProcedure → ℕ → List Decide → ℕ → RunList → Unrolling
unrolled ps p script n rs = stop_or (first_stop ps script n rs)
    (sums_or (n + 1) (totals (procedure_at ps p) (after ps script n rs)))

-- The sums over runs that the sums of the program represent.
abbrev pub totals_of : Sums → Totals
totals_of s = record {
  post = extended.value_of s.post;
  reward = extended.value_of s.reward;
  running = s.running;
  turns = s.turns.items;
}

-- The result of unrolling that the result of the program represents.
abbrev pub unrolling_of : Unrolled → Unrolling
unrolling_of (answer.Sums s) = Unrolling.sums (totals_of s)
unrolling_of (answer.Full n) = Unrolling.stopped Full n
unrolling_of (answer.Deep n) = Unrolling.stopped Deep n
unrolling_of (answer.Bits n) = Unrolling.stopped Bits n

-- `c` is the first configuration of the procedure `p` in some state.
pub record Begins (ps : List TypedProcedure) (p : ℕ) (c : Stored) : Type 0 where
  pub state : List Val
  pub first : c ≡ stored_begin ps p state
  pub config : IsConfig ps c
