use Rattle.std.proofs.lemmas.Result.{on_ok_weaker}
use Rattle.std.specs.Prelude.{codes}
use Rattle.verdict_report.proofs.Texts.{two_parts}
use Rattle.verdict_report.proofs.verdicts.write_rank.Goals as goal

pub returns-in_ok-extend_from_slice-in-NotRanked : goal.returns-in_ok-extend_from_slice-in-NotRanked
returns-in_ok-extend_from_slice-in-NotRanked c = rw c.in-NotRanked.is (on_ok_weaker c.write_state_of.result (λ h. two_parts c.args.text.now.items _ _ (codes "not ranked: ") _ c.in_ok-extend_from_slice-in-NotRanked.ensures.items h) (rw c.deref.ensures.value at c.write_state_of.ensures))

pub returns-in_ok-extend_from_slice-in-Unchecked : goal.returns-in_ok-extend_from_slice-in-Unchecked
returns-in_ok-extend_from_slice-in-Unchecked c = rw c.in-Unchecked.is (on_ok_weaker c.write_miss.result (λ h. two_parts c.args.text.now.items _ _ (codes "not checked: ") _ c.in_ok-extend_from_slice-in-Unchecked.ensures.items h) c.write_miss.ensures)
