use Rattle.std.proofs.Common.{◌≡◌, ◌++◌, drop, map}
use Rattle.heylo_formula.specs.State.{default}
use Rattle.heyvl_acts.specs.Acts.{type_list}
use Rattle.heyvl_acts.specs.PlainActs.{variable_of}
use Rattle.run_machine.proofs.call_steps.first_state.Given as goal

abbrev pub invariant-loop-variable : goal.invariant-loop-variable
invariant-loop-variable l = l.state.items ++ map default (type_list (map variable_of (drop l.variable-index l.variable-items))) ≡ l.initial.state.items ++ map default (type_list (map variable_of l.variable-items))
