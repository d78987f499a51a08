use Rattle.std.proofs.Common.{length, ◌++◌, ◌≡◌}
use Rattle.verdict_report.specs.Verdicts.{way_text}
use Rattle.verdict_report.proofs.verdicts.write_way.Given as goal

abbrev pub invariant-way : goal.invariant-way
invariant-way l = l.text.items ++ way_text l.rest ≡ l.fn.text.items ++ way_text l.fn.way

abbrev pub decreases-way : goal.decreases-way
decreases-way l = length l.rest
