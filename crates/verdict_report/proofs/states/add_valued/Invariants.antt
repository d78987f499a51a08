use Rattle.std.proofs.Common.{length, ◌++◌, ◌≡◌}
use Rattle.verdict_report.specs.States.{valued}
use Rattle.verdict_report.proofs.states.add_valued.Given as goal

abbrev pub invariant-shown : goal.invariant-shown
invariant-shown l = l.settings.items ++ valued l.fn.state l.rest ≡ l.fn.settings.items ++ valued l.fn.state l.fn.shown

abbrev pub decreases-shown : goal.decreases-shown
decreases-shown l = length l.rest
