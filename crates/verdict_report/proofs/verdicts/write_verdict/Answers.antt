use Rattle.std.proofs.lemmas.Result.{on_ok_weaker}
use Rattle.std.specs.Prelude.{codes}
use Rattle.verdict_report.specs.Verdicts.{about_text}
use Rattle.verdict_report.proofs.Texts.{two_parts}
use Rattle.verdict_report.proofs.verdicts.write_verdict.Goals as goal

pub returns-in_ok-write_about-in-Unchecked : goal.returns-in_ok-write_about-in-Unchecked
returns-in_ok-write_about-in-Unchecked c = rw c.in-Unchecked.is (on_ok_weaker c.write_miss.result (λ h. two_parts c.args.text.now.items _ _ (about_text (codes "not checked") c.in-Unchecked.id) _ c.in_ok-write_about-in-Unchecked.ensures h) c.write_miss.ensures)
