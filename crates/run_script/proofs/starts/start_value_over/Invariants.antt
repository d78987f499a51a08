use Rattle.heyvl_acts.specs.PlainActs.{variable_of}
use Rattle.run_script.proofs.starts.start_value_over.Given as goal
use Rattle.run_script.specs.Starts.{start_value_over}
use Rattle.std.proofs.Common.{drop, ◌≡◌}

abbrev pub invariant-loop-setting : goal.invariant-loop-setting
invariant-loop-setting l = start_value_over l.settings (variable_of l.variable) l.shown ≡ start_value_over (drop l.setting-index l.settings) (variable_of l.variable) l.shown
