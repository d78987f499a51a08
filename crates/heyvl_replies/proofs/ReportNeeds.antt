-- A typed file satisfies the requirements of a report and of its answers.
use Rattle.goal_answers.specs.declared.trees.GoalCert.{GoalCert}
use Rattle.heyvl_replies.proofs.SaidOfFiles.{one_for_each}
use Rattle.spelled_files.specs.Sources.{file_limit}
use Rattle.heyvl_acts.specs.PlainActs.{procedure_of, procedures_of}
use Rattle.heyvl_acts.specs.Rules.{Each, MeetsAllRules}
use Rattle.heyvl_acts.specs.declared.typed_trees.Typed.{Typed}
use Rattle.std.proofs.Common.{List, arith, length, ◌<◌, ◌∙◌, ◌≤◌, ℕ}
use Rattle.std.proofs.lemmas.List.{length-map}
use Rattle.std.specs.Prelude.{◌^◌}
use Rattle.verdict_report.specs.PlacedAnswers.{CanReport, IsAnswerPlaced}
use Rattle.verdict_report.specs.declared.answers.Answer.{Answer}
use Rattle.goal_answers.specs.declared.named_goals.NamedGoal.{NamedGoal}
use Rattle.verify_core.specs.AnsweredProcedures.{AreAnswered}

pub short_bytes : (bytes : List ℕ) → length bytes ≤ file_limit → length bytes < 2 ^ 31
short_bytes bytes short = omega (arith, short)

pub can_report : (bytes : List ℕ) (tree : Typed) (answers : List Answer) (made : List NamedGoal) (certs : List GoalCert) → length bytes < 2 ^ 31 → MeetsAllRules tree
    → AreAnswered (procedures_of tree) answers made certs → Each (IsAnswerPlaced (length bytes) (length tree.procs.items)) answers → CanReport bytes tree answers
can_report bytes tree answers made certs short rules answered placed = record {
  short = short;
  rules = rules;
  each = one_for_each (procedures_of tree) _ _ 0 (procedures_of tree) answers answered.answers_of ∙ length-map tree.procs.items procedure_of;
  placed = placed;
}
