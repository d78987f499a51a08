use Rattle.std.proofs.Common.{length, ◌≡◌}
use Rattle.verdict_report.specs.GoalNames.{names_of}
use Rattle.verdict_report.proofs.goal_names.names_of.Given as goal

-- -
abbrev pub invariant-made : goal.invariant-made
invariant-made l = names_of l.fn.proc l.fn.id l.rest ≡ names_of l.fn.proc l.fn.id l.fn.made

abbrev pub decreases-made : goal.decreases-made
decreases-made l = length l.rest
