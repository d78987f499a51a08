use Rattle.std.proofs.Common.{length, ◌++◌, ◌≡◌}
use Rattle.heyvl_acts.specs.PlainActs.{procedures_of}
use Rattle.heyvl_acts.specs.Rules.{Each}
use Rattle.verdict_report.specs.PlacedAnswers.{IsLoopPlaced}
use Rattle.verdict_report.specs.Reports.{loop_lines}
use Rattle.verdict_report.proofs.reports.write_loops.Given as goal

abbrev pub invariant-loops : goal.invariant-loops
invariant-loops l =
    (l.text.items ++ loop_lines l.fn.bytes (procedures_of l.fn.typed) l.fn.made l.fn.proc l.rest ≡ l.fn.text.items ++ loop_lines l.fn.bytes (procedures_of l.fn.typed) l.fn.made l.fn.proc l.fn.loops)
    × Each (IsLoopPlaced (length l.fn.bytes)) l.rest

abbrev pub decreases-loops : goal.decreases-loops
decreases-loops l = length l.rest
