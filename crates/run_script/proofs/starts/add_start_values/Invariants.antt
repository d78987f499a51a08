use Rattle.heyvl_acts.specs.PlainActs.{variable_of}
use Rattle.run_script.proofs.starts.add_start_values.Given as goal
use Rattle.run_script.specs.Starts.{start_values}
use Rattle.std.proofs.Common.{drop, map, ◌++◌, ◌≡◌}

abbrev pub invariant-loop-variable : goal.invariant-loop-variable
invariant-loop-variable l = l.state.items ++ start_values l.settings (map variable_of (drop l.variable-index l.variables)) l.rest ≡ l.fn.state.items ++ start_values l.settings (map variable_of l.variables) l.shown
