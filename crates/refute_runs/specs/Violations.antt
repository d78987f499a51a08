-- The meaning of the answers of a search by the definition of runs. This project's own.
use Rattle.std.specs.Prelude.{◌≡◌, ◌≤◌, ◌<◌, ℕ, List}
use Rattle.heyvl_num.specs.ExtendedNumbers.{value_of}
use Rattle.heyvl_num.specs.Value.{◌≤ᵛ◌, ◌<ᵛ◌}
use Rattle.heylo_formula.specs.declared.values.Val.{Val}
use Rattle.heyvl_acts.specs.Acts.{TypedProcedure}
use Rattle.refute_runs.specs.ScriptedSums.{AreOfRuns, pre_in, scripted_sum}
use Rattle.refute_runs.specs.declared.answers.Refuted.TheVariants.{Stopped, Violation, Within}
use Rattle.refute_runs.specs.declared.answers.Refuted.{Refuted}
use Rattle.run_laws.specs.Bare.{bare_procedures}
use Rattle.run_machine.specs.Bound.{Bound}
use Rattle.run_machine.specs.declared.configurations.Decide.{Decide}

-- `IsViolation ps p state script s`: the sum over the script's runs from `state` is above the pre
-- after `s` steps, and not above it after fewer steps. Hence the procedure with the number `p` has
-- no bound, neither in this file nor in one that differs only in the rules of loops and in places.
pub record IsViolation (ps : List TypedProcedure) (p : ℕ) (state : List Val) (script : List Decide)
    (s : ℕ) : Type 0 where
  pub above : pre_in ps p state <ᵛ scripted_sum ps p state script s
  pub fewer : (k : ℕ) → k < s → scripted_sum ps p state script k ≤ᵛ pre_in ps p state
  pub refutes : (qs : List TypedProcedure) → bare_procedures ps ≡ bare_procedures qs → Bound qs p
      → ⊥

-- If the answer is a violation after `s` steps, `IsViolation` holds for `s`. Nothing is promised
-- about another answer.
abbrev pub ViolationIsOfRuns : List TypedProcedure → ℕ → List Val → List Decide → Refuted → Type 0
ViolationIsOfRuns ps p state script (Violation s sum bound) = IsViolation ps p state script s
ViolationIsOfRuns ps p state script (Within sum bound) = Unit {0}
ViolationIsOfRuns ps p state script (Stopped s answer) = Unit {0}

-- `NumbersAreOfRuns ps p state script n answer`: the sum and the pre that `answer` reports are
-- those of the definition of runs. A violation reports the sum after `s` steps, `Within` the sum
-- after `n` steps. For `Within`, moreover, the sum after each number of steps up to `n` is at most
-- the pre. Nothing is promised about a stopped search.
abbrev pub NumbersAreOfRuns : List TypedProcedure → ℕ → List Val → List Decide → ℕ → Refuted
    → Type 0
NumbersAreOfRuns ps p state script n (Violation s sum bound) =
    AreOfRuns ps p state script s (value_of sum) (value_of bound)
NumbersAreOfRuns ps p state script n (Within sum bound) = AreOfRuns ps p state script n
    (value_of sum) (value_of bound)
    × ((k : ℕ) → k ≤ n → scripted_sum ps p state script k ≤ᵛ pre_in ps p state)
NumbersAreOfRuns ps p state script n (Stopped s answer) = Unit {0}
