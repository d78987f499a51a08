use Rattle.std.proofs.Common.{length, ◌++◌, ◌+◌, ◌≡◌}
use Rattle.heyvl_acts.specs.PlainActs.{procedures_of}
use Rattle.heyvl_acts.specs.Rules.{Each}
use Rattle.verdict_report.specs.PlacedAnswers.{IsAnswerPlaced}
use Rattle.verdict_report.specs.Reports.{lines_from}
use Rattle.verdict_report.proofs.reports.report.Given as goal

abbrev pub invariant-answers : goal.invariant-answers
invariant-answers l =
    (l.text.items ++ lines_from l.fn.bytes (procedures_of l.fn.typed) l.fn.made l.number l.rest ≡ lines_from l.fn.bytes (procedures_of l.fn.typed) l.fn.made 0 l.fn.answers)
    × (l.number + length l.rest ≡ length l.fn.typed.procs.items)
    × Each (IsAnswerPlaced (length l.fn.bytes) (length l.fn.typed.procs.items)) l.rest

abbrev pub decreases-answers : goal.decreases-answers
decreases-answers l = length l.rest
