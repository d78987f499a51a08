-- The answers by certificates satisfy the requirements of a report.
use Rattle.goal_answers.specs.declared.trees.GoalCert.{GoalCert}
use Rattle.heyvl_acts.specs.PlainActs.{procedure_of, procedures_of}
use Rattle.heyvl_acts.specs.Rules.{Each, MeetsAllRules}
use Rattle.heyvl_acts.specs.declared.typed_trees.Typed.{Typed}
use Rattle.heyvl_replies.proofs.SaidOfFiles.{one_for_each}
use Rattle.std.proofs.Common.{List, length, ◌<◌, ◌∙◌, ℕ}
use Rattle.std.proofs.lemmas.List.{length-map}
use Rattle.std.specs.Prelude.{◌^◌}
use Rattle.verdict_report.specs.PlacedAnswers.{CanReport, IsAnswerPlaced}
use Rattle.verdict_report.specs.declared.answers.Answer.{Answer}
use Rattle.verify_core.specs.CheckedAnswers.{IsCheckedFile}

pub can_report_checked : (bytes : List ℕ) (tree : Typed) (certs : List GoalCert) (answers : List Answer) → length bytes < 2 ^ 31 → MeetsAllRules tree → IsCheckedFile (procedures_of tree) certs answers
    → Each (IsAnswerPlaced (length bytes) (length tree.procs.items)) answers → CanReport bytes tree answers
can_report_checked bytes tree certs answers short rules checked placed = record {
  short = short;
  rules = rules;
  each = one_for_each (procedures_of tree) _ _ 0 (procedures_of tree) answers checked.answers_of ∙ length-map tree.procs.items procedure_of;
  placed = placed;
}
