use Rattle.std.proofs.Common.{◌++◌, ◌-◌, ◌≡◌, ◌≤◌}
use Rattle.heyvl_acts.specs.Rules.{counted}
use Rattle.verdict_report.proofs.loops.first_numbers.Given as goal

abbrev pub invariant-loop-number : goal.invariant-loop-number
invariant-loop-number l = (l.all.items ++ counted l.number (l.fn.count - l.number) ≡ counted 0 l.fn.count) × (l.number ≤ l.fn.count)

abbrev pub decreases-loop-number : goal.decreases-loop-number
decreases-loop-number l = l.fn.count - l.number
