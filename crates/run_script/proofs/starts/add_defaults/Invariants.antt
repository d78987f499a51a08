use Rattle.heylo_formula.specs.State.{default}
use Rattle.run_script.proofs.starts.add_defaults.Given as goal
use Rattle.std.proofs.Common.{drop, map, ◌++◌, ◌≡◌}

abbrev pub invariant-loop-variable : goal.invariant-loop-variable
invariant-loop-variable l = l.state.items ++ map (λ x. default x.ty) (drop l.variable-index l.variables) ≡ l.fn.state.items ++ map (λ x. default x.ty) l.variables
