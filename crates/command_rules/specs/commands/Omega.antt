-- `omega FILE PROC NAME`: whether the pre of NAME is an omega invariant of the loop of PROC. This
-- project's own.
use Rattle.heyvl_acts.specs.Acts.{TypedProcedure}
use Rattle.heyvl_syntax.specs.Procedures.{Procedure}
use Rattle.heyvl_syntax.specs.SourceFaults.{IsSource}
use Rattle.command_rules.specs.FileReplies.{IsTypedReply}
use Rattle.command_rules.specs.Messages.{Reply, message, stated}
use Rattle.command_rules.specs.RunStarts.{procedure_named}
use Rattle.command_rules.specs.commands.Run.{no_procedure}
use Rattle.command_rules.specs.declared.faults.Fault.TheVariants as faults
use Rattle.static_rules.specs.Files.{first_fault, resolved}
use Rattle.lower_rules.specs.OmegaAnswers.{IsOmegaAnswer, OmegaHolds, ShownStateFails}
use Rattle.lower_goals.specs.declared.answers.Omega.TheVariants.{Fails, Holds, Shape, Unknown}
use Rattle.lower_goals.specs.declared.answers.Omega.{Omega}
use Rattle.lower_texts.specs.OmegaTexts.{IsOmegaText}
use Rattle.std.specs.Prelude.{List, None, Some, ◌≡◌, ◌⊎◌, ℕ}

-- The reply with the line on an answer, and its status.
abbrev pub omega_reply : Omega → List ℕ → Reply
omega_reply Holds text = stated 0 text
omega_reply (Fails step s) text = stated 1 text
omega_reply (Unknown step cause) text = stated 2 text
omega_reply Shape text = message faults.Shape text

-- The reply gives the answer on the procedures `p` and `q`. If the answer is that the pair holds,
-- the lower bound does. If a goal fails, it fails in the state that is shown.
pub record TellsOmega (bytes : List ℕ) (ps : List TypedProcedure) (p q : ℕ) (reply : Reply)
    : Type 0 where
  pub answer : Omega
  pub is_answer : IsOmegaAnswer ps p q answer
  pub bound : answer ≡ Holds → OmegaHolds ps p q
  pub shown : ShownStateFails ps p q answer
  pub text : List ℕ
  pub is_text : IsOmegaText bytes ps p q answer text
  pub told : reply ≡ omega_reply answer text

-- The reply about the procedures named `procedure` and `name`, in a file with the procedures `ps`:
-- that no procedure has one of the names, or the answer on the pair.
pub data IsOmegaOf (procedure name bytes : List ℕ) (ps : List TypedProcedure) (reply : Reply)
    : Type 0 where
  by_name : (procedure_named procedure ps ≡ None) ⊎ (procedure_named name ps ≡ None)
      → reply ≡ no_procedure → IsOmegaOf procedure name bytes ps reply
  by_pair : (p q : ℕ) → procedure_named procedure ps ≡ Some p → procedure_named name ps ≡ Some q
      → TellsOmega bytes ps p q reply → IsOmegaOf procedure name bytes ps reply

-- `IsOmegaReply procedure name bytes reply`: `reply` is the reply of `omega` to a file with the
-- bytes `bytes` and the procedure names `procedure` and `name`.
abbrev pub IsOmegaReply : List ℕ → List ℕ → List ℕ → Reply → Type 0
IsOmegaReply procedure name bytes reply = IsTypedReply (IsOmegaOf procedure name bytes) bytes reply

-- If `bytes` spell a file without an error that has both procedures, `omega` gives the answer on
-- them.
abbrev pub OmegaPairsAreAnswered : Type 0
OmegaPairsAreAnswered = (procedure name bytes : List ℕ) (file : List Procedure) (reply : Reply)
    → IsSource bytes file → first_fault file ≡ None
    → (p q : ℕ) → procedure_named procedure (resolved file) ≡ Some p
    → procedure_named name (resolved file) ≡ Some q
    → IsOmegaReply procedure name bytes reply → TellsOmega bytes (resolved file) p q reply
