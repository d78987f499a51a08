-- `run FILE PROC SCRIPT`: the sums over the runs of a procedure under a script. This project's own.
use Rattle.heyvl_acts.specs.Acts.{TypedProcedure, procedure_at}
use Rattle.heyvl_syntax.specs.Procedures.{Procedure}
use Rattle.heyvl_syntax.specs.SourceFaults.{IsSource}
use Rattle.command_rules.specs.FileReplies.{IsTypedReply}
use Rattle.command_rules.specs.Messages.{Reply, message}
use Rattle.command_rules.specs.RunStarts.{IsFirstNoProgram, known_at, procedure_named}
use Rattle.command_rules.specs.RunTexts.{no_procedure_text, no_program_text}
use Rattle.command_rules.specs.declared.faults.Fault.TheVariants as faults
use Rattle.static_rules.specs.Files.{first_fault, resolved}
use Rattle.run_machine.specs.ConfigConditions.{ReachesPrograms}
use Rattle.run_machine.specs.StoredStep.{stored_begin}
use Rattle.run_script.specs.Scripts.{IsFirstFault, Script, Spells}
use Rattle.run_script.specs.Starts.{start_state}
use Rattle.run_script.specs.Texts.{script_fault_text, stop_text, sums_text}
use Rattle.run_unroller.specs.RunLists.{begun}
use Rattle.run_unroller.specs.Unrolling.{Unrolling, totals_of, unrolled, unrolling_of}
use Rattle.run_unroller.specs.declared.answers.Unrolled.TheVariants as answers
use Rattle.run_unroller.specs.declared.answers.Unrolled.{Unrolled}
use Rattle.std.specs.Prelude.{List, None, Some, codes, ◌≡◌, ℕ}

-- ---- The result of a run

-- The reply with the sums, or with what stopped the run: more than 65,536 configurations, more than
-- 512 values in one, or an overflow.
abbrev pub run_reply : Unrolled → Reply
run_reply (answers.Sums sums) = message faults.Nothing (sums_text (totals_of sums))
run_reply (answers.Full step) =
    message (faults.Run (answers.Full step)) (stop_text (codes "runs") step)
run_reply (answers.Deep step) =
    message (faults.Run (answers.Deep step)) (stop_text (codes "values") step)
run_reply (answers.Bits step) =
    message (faults.Run (answers.Bits step)) (stop_text (codes "bits") step)

-- The runs of the procedure `p` under a script, from the state that the script sets.
abbrev pub runs_by : List TypedProcedure → ℕ → Script → Unrolling
runs_by ps p s = unrolled ps p s.decisions s.steps
    (begun (stored_begin ps p (start_state (procedure_at ps p) s.settings)))

-- The reply gives the result of the runs.
pub record TellsRun (ps : List TypedProcedure) (p : ℕ) (s : Script) (reply : Reply) : Type 0 where
  pub answer : Unrolled
  pub unrolls : unrolling_of answer ≡ runs_by ps p s
  pub told : reply ≡ run_reply answer

-- ---- Refusals

-- The line on an invalid script, whose first invalid line is `line`.
abbrev pub script_fault : ℕ → Reply
script_fault line = message (faults.Script line) (script_fault_text line)

-- The line on a name that no procedure has.
abbrev pub no_procedure : Reply
no_procedure = message faults.NoProcedure no_procedure_text

-- The line on a procedure that is no program.
abbrev pub no_program : List TypedProcedure → ℕ → Reply
no_program ps q = message (faults.NotProgram q) (no_program_text (procedure_at ps q).name)

-- ---- Replies

-- The reply about the run of the procedure named `name`, in a file with the procedures `ps`, under
-- a script with the bytes `script`, by the first case that applies: the script's first invalid
-- line; that no procedure has this name; the first procedure reached that is no program; otherwise
-- the result of the run.
pub data IsRunOf (name script : List ℕ) (ps : List TypedProcedure) (reply : Reply) : Type 0 where
  by_script : (line : ℕ) → IsFirstFault (known_at ps (procedure_named name ps)) script line
      → reply ≡ script_fault line → IsRunOf name script ps reply
  by_name : (s : Script) → Spells (known_at ps (procedure_named name ps)) s script
      → procedure_named name ps ≡ None → reply ≡ no_procedure → IsRunOf name script ps reply
  by_program : (s : Script) → Spells (known_at ps (procedure_named name ps)) s script → (p : ℕ)
      → procedure_named name ps ≡ Some p → (q : ℕ) → IsFirstNoProgram ps p q
      → reply ≡ no_program ps q → IsRunOf name script ps reply
  by_run : (s : Script) → Spells (known_at ps (procedure_named name ps)) s script → (p : ℕ)
      → procedure_named name ps ≡ Some p → ReachesPrograms ps p → TellsRun ps p s reply
      → IsRunOf name script ps reply

-- `IsRunReply name bytes script reply`: `reply` is the reply of `run` to a file with the bytes
-- `bytes`, the procedure name `name` and a script with the bytes `script`.
abbrev pub IsRunReply : List ℕ → List ℕ → List ℕ → Reply → Type 0
IsRunReply name bytes script reply = IsTypedReply (IsRunOf name script) bytes reply

-- If `bytes` spell a file without an error, in which `name` names a procedure that reaches only
-- programs, and `script` spells a script for it, `run` gives the result of its runs: the sums, or
-- what stops them.
abbrev pub ProgramsAreRun : Type 0
ProgramsAreRun = (name bytes script : List ℕ) (file : List Procedure) (reply : Reply)
    → IsSource bytes file → first_fault file ≡ None
    → (s : Script) (p : ℕ) → procedure_named name (resolved file) ≡ Some p
    → Spells (known_at (resolved file) (Some p)) s script → ReachesPrograms (resolved file) p
    → IsRunReply name bytes script reply → TellsRun (resolved file) p s reply
