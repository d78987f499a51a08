use Rattle.std.proofs.Common.{◌≡◌, drop}
use Rattle.run_machine.specs.Configurations.{set_all}
use Rattle.run_machine.proofs.call_steps.assign_all.Given as goal

abbrev pub invariant-loop-target : goal.invariant-loop-target
invariant-loop-target l = set_all (drop l.target-index l.targets) l.left l.state.items ≡ set_all l.targets l.fn.values l.initial.state.items
