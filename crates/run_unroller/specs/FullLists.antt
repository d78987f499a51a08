-- The length of a list after a step. This project's own.
use Rattle.std.specs.Prelude.{◌≡◌, ◌<◌, ◌≤◌, List, None, Some, length}
use Rattle.heyvl_acts.specs.Acts.{TypedProcedure}
use Rattle.run_machine.specs.declared.configurations.Decide.{Decide}
use Rattle.run_unroller.specs.Causes.{step_cause}
use Rattle.run_unroller.specs.RunLists.{RunList, after_step}
use Rattle.run_unroller.specs.declared.causes.Cause.TheVariants.{Full}

-- If `Full` stops a step, the merged list after it has more than 65,536 runs.
abbrev pub FullListsAreLong : Type 0
FullListsAreLong = (ps : List TypedProcedure) (script : List Decide) (rs : RunList)
    → step_cause ps script rs ≡ Some Full → 65536 < length (after_step ps script rs)

-- If nothing stops a step, the merged list after it has at most 65,536 runs.
abbrev pub OtherListsAreShort : Type 0
OtherListsAreShort = (ps : List TypedProcedure) (script : List Decide) (rs : RunList)
    → step_cause ps script rs ≡ None → length (after_step ps script rs) ≤ 65536
