-- The answers on a generated text, and their summary. This project's own.
use Rattle.generated_files.specs.Texts.{generated_text}
use Rattle.command_rules.specs.Summaries.{summary}
use Rattle.goal_answers.specs.declared.named_goals.NamedGoal.{NamedGoal}
use Rattle.goal_answers.specs.declared.trees.GoalCert.{GoalCert}
use Rattle.heyvl_syntax.specs.Procedures.{Procedure}
use Rattle.heyvl_syntax.specs.SourceFaults.{IsSource}
use Rattle.static_rules.specs.Files.{first_fault, resolved}
use Rattle.std.specs.Prelude.{List, None, length, ◌≡◌, ℕ}
use Rattle.verdict_report.specs.declared.answers.Answer.{Answer}
use Rattle.verify_core.specs.AnsweredProcedures.{AreAnswered}
use Rattle.verify_core.specs.Headline.{IsHeadline}

-- The generated text of `n` lines spells a file of `n` procedures without an error. `answers` are
-- those by the goals of this file and keep the promises of the headline, and `text` is their
-- summary.
pub record IsSummary (n : ℕ) (answers : List Answer) (text : List ℕ) : Type 0 where
  pub file : List Procedure
  pub count : length file ≡ n
  pub spelled : IsSource (generated_text n) file
  pub faultless : first_fault file ≡ None
  pub made : List NamedGoal
  pub certs : List GoalCert
  pub answered : AreAnswered (resolved file) answers made certs
  pub headline : IsHeadline (resolved file) answers
  pub text_is : text ≡ summary n answers
