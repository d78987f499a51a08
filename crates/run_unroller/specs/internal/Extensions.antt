-- Lists of runs during a step.
use Rattle.std.specs.Prelude.{◌≡◌, ℕ, List, ◌++◌, Option, Some, None}
use Rattle.heyvl_acts.specs.Acts.{TypedProcedure}
use Rattle.run_machine.specs.SameConfigurations.{same_stored}
use Rattle.run_machine.specs.declared.configurations.Decide.{Decide}
use Rattle.run_unroller.specs.declared.causes.Cause.{Cause}
use Rattle.run_unroller.specs.declared.causes.Grown.{Grown}
use Rattle.run_unroller.specs.declared.causes.Grown.TheVariants.{Runs, Stopped}
use Rattle.run_unroller.specs.declared.causes.Reached.{Reached}
use Rattle.run_unroller.specs.declared.causes.Reached.TheVariants as reached
use Rattle.run_unroller.specs.MergedLists.{merged_onto}
use Rattle.run_unroller.specs.RunLists.{RunList, after_step, after}
use Rattle.run_unroller.specs.internal.RunViews.{runs_of}
use Rattle.run_unroller.specs.Causes.{Brought, first_cause, step_cause, first_stop}

-- `Extends old new brought more cause`: without a cause, the contributions `brought` are the
-- outcomes `more`, and adding them to `old` makes `new`; otherwise `cause` stops them.
abbrev pub Extends : RunList → RunList → List Brought → RunList → Option Cause → Type 0
Extends old new brought more None = ((rest : List Brought)
    → first_cause old (brought ++ rest) ≡ first_cause new rest)
    × (merged_onto same_stored old more ≡ new)
Extends old new brought more (Some cause) = (rest : List Brought)
    → first_cause old (brought ++ rest) ≡ Some cause

-- The result is the list after a step, or the cause that stops the step.
abbrev pub IsAfterStep : List TypedProcedure → List Decide → RunList → Grown → Type 0
IsAfterStep ps script rs (Runs next) = (step_cause ps script rs ≡ None)
    × (runs_of next.entries.entries ≡ after_step ps script rs)
IsAfterStep ps script rs (Stopped cause) = step_cause ps script rs ≡ Some cause

-- The result is the list after `n` steps, or the first cause that stops one of them, with the
-- step's number.
abbrev pub IsAfter : List TypedProcedure → List Decide → ℕ → RunList → Reached → Type 0
IsAfter ps script n rs (reached.Runs runs) =
    (first_stop ps script n rs ≡ None) × (runs_of runs.entries.entries ≡ after ps script n rs)
IsAfter ps script n rs (reached.Stopped cause step) = first_stop ps script n rs ≡ Some (cause, step)
