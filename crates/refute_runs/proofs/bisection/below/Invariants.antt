use Rattle.std.proofs.Common.{◌-◌, ◌≤◌}
use Rattle.heyvl_acts.specs.PlainActs.{procedures_of}
use Rattle.heyvl_num.specs.ExtendedNumbers.{value_of}
use Rattle.refute_runs.specs.SumsAfter.{IsWithinBefore, unrolled_from}
use Rattle.refute_runs.specs.internal.Probes.{IsCandidate}
use Rattle.refute_runs.proofs.bisection.below.Given as goal
use Rattle.run_machine.specs.Names.{stored}

-- Below `low` no sum is above the pre, and `found` is the right answer at `high` if there is none
-- below.
abbrev pub invariant-loop-low : goal.invariant-loop-low
invariant-loop-low l = record {
  order : l.low ≤ l.high;
  few : l.high ≤ l.steps;
  before : IsWithinBefore (unrolled_from (procedures_of l.typed) l.p (stored l.start) l.script) (value_of l.pre) l.low;
  candidate : IsCandidate (unrolled_from (procedures_of l.typed) l.p (stored l.start) l.script) (value_of l.pre) l.high l.answer;
}

abbrev pub decreases-loop-low : goal.decreases-loop-low
decreases-loop-low l = l.high - l.low
