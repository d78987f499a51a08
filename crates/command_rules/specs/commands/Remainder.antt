-- `remainder FILE PROC NAME`: whether the pre of NAME bounds the remainder in a lower bound on
-- PROC. This project's own.
use Rattle.goal_answers.specs.declared.named_goals.NamedGoal.{NamedGoal}
use Rattle.goal_answers.specs.declared.trees.GoalCert.{GoalCert}
use Rattle.heyvl_acts.specs.Acts.{TypedProcedure}
use Rattle.heyvl_syntax.specs.Procedures.{Procedure}
use Rattle.heyvl_syntax.specs.SourceFaults.{IsSource}
use Rattle.command_rules.specs.FileReplies.{IsTypedReply}
use Rattle.command_rules.specs.Messages.{Reply, message, stated}
use Rattle.command_rules.specs.RunStarts.{procedure_named}
use Rattle.command_rules.specs.commands.Run.{no_procedure}
use Rattle.command_rules.specs.declared.faults.Fault.TheVariants as faults
use Rattle.static_rules.specs.Files.{first_fault, resolved}
use Rattle.lower_rules.specs.RemainderAnswers.{IsPromised, IsRemainderAnswer}
use Rattle.lower_goals.specs.declared.remainder_answers.Remainder.TheVariants.{Fails, Holds}
use Rattle.lower_goals.specs.declared.remainder_answers.Remainder.TheVariants.{NotRanked}
use Rattle.lower_goals.specs.declared.remainder_answers.Remainder.TheVariants.{NotVerified, Shape}
use Rattle.lower_goals.specs.declared.remainder_answers.Remainder.TheVariants.{Unknown}
use Rattle.lower_goals.specs.declared.remainder_answers.Remainder.{Remainder}
use Rattle.lower_texts.specs.RemainderTexts.{IsRemainderText}
use Rattle.std.specs.Prelude.{List, None, Some, ◌≡◌, ◌⊎◌, ℕ}
use Rattle.verdict_report.specs.declared.answers.Answer.{Answer}
use Rattle.verify_core.specs.AnsweredProcedures.{AreAnswered}

-- The reply with the line on an answer, and its status.
abbrev pub remainder_reply : Remainder → List ℕ → Reply
remainder_reply (Holds e) text = stated 0 text
remainder_reply (Fails s) text = stated 1 text
remainder_reply NotVerified text = stated 2 text
remainder_reply NotRanked text = stated 2 text
remainder_reply (Unknown cause) text = stated 2 text
remainder_reply Shape text = message faults.Shape text

-- The reply gives the answer on the procedures `p` and `q` that follows from answers of `verify`,
-- and this answer keeps its promise.
pub record TellsRemainder (bytes : List ℕ) (ps : List TypedProcedure) (p q : ℕ) (reply : Reply)
    : Type 0 where
  pub answers : List Answer
  pub made : List NamedGoal
  pub certs : List GoalCert
  pub are_answers : AreAnswered ps answers made certs
  pub answer : Remainder
  pub is_answer : IsRemainderAnswer ps answers p q answer
  pub meant : IsPromised ps p q answer
  pub text : List ℕ
  pub is_text : IsRemainderText bytes ps p q answer text
  pub told : reply ≡ remainder_reply answer text

-- The reply about the procedures named `procedure` and `name`, in a file with the procedures `ps`:
-- that no procedure has one of the names, or the answer on the pair.
pub data IsRemainderOf (procedure name bytes : List ℕ) (ps : List TypedProcedure) (reply : Reply)
    : Type 0 where
  by_name : (procedure_named procedure ps ≡ None) ⊎ (procedure_named name ps ≡ None)
      → reply ≡ no_procedure → IsRemainderOf procedure name bytes ps reply
  by_pair : (p q : ℕ) → procedure_named procedure ps ≡ Some p → procedure_named name ps ≡ Some q
      → TellsRemainder bytes ps p q reply → IsRemainderOf procedure name bytes ps reply

-- `IsRemainderReply procedure name bytes reply`: `reply` is the reply of `remainder` to a file with
-- the bytes `bytes` and the procedure names `procedure` and `name`.
abbrev pub IsRemainderReply : List ℕ → List ℕ → List ℕ → Reply → Type 0
IsRemainderReply procedure name bytes reply =
    IsTypedReply (IsRemainderOf procedure name bytes) bytes reply

-- If `bytes` spell a file without an error that has both procedures, `remainder` gives the answer
-- on them.
abbrev pub RemainderPairsAreAnswered : Type 0
RemainderPairsAreAnswered = (procedure name bytes : List ℕ) (file : List Procedure) (reply : Reply)
    → IsSource bytes file → first_fault file ≡ None
    → (p q : ℕ) → procedure_named procedure (resolved file) ≡ Some p
    → procedure_named name (resolved file) ≡ Some q
    → IsRemainderReply procedure name bytes reply → TellsRemainder bytes (resolved file) p q reply
