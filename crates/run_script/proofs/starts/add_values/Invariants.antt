use Rattle.heyvl_acts.specs.PlainActs.{variable_of}
use Rattle.run_script.proofs.starts.add_values.Given as goal
use Rattle.run_script.specs.Starts.{start_value}
use Rattle.std.proofs.Common.{drop, map, ◌++◌, ◌≡◌}

abbrev pub invariant-loop-variable : goal.invariant-loop-variable
invariant-loop-variable l = l.state.items ++ map (λ x. start_value l.settings (variable_of x)) (drop l.variable-index l.variables) ≡ l.fn.state.items ++ map (λ x. start_value l.settings (variable_of x)) l.variables
