-- `refute FILE PROC SCRIPT`: the least number of steps after which the runs of a coproc under a
-- script exceed its pre. This project's own.
use Rattle.goal_answers.specs.declared.named_goals.NamedGoal.{NamedGoal}
use Rattle.goal_answers.specs.declared.trees.GoalCert.{GoalCert}
use Rattle.heylo_formula.specs.declared.goals.GoalId.TheVariants.{Invariant, Main, Post, Pre}
use Rattle.heylo_formula.specs.declared.goals.GoalId.TheVariants.{Ranking}
use Rattle.heylo_formula.specs.declared.values.Val.{Val}
use Rattle.heyvl_acts.specs.Acts.{TypedProcedure, procedure_at}
use Rattle.heyvl_num.specs.ExtendedNumbers.{value_of}
use Rattle.heyvl_num.specs.Value.{Value}
use Rattle.heyvl_syntax.specs.Procedures.{Procedure}
use Rattle.heyvl_syntax.specs.SourceFaults.{IsSource}
use Rattle.command_rules.specs.FileReplies.{IsTypedReply}
use Rattle.command_rules.specs.Messages.{Reply, message}
use Rattle.command_rules.specs.RunStarts.{IsFirstNoProgram, known_at, procedure_named}
use Rattle.command_rules.specs.RunTexts.{no_coproc_text}
use Rattle.command_rules.specs.commands.Run.{no_procedure, no_program, run_reply, script_fault}
use Rattle.command_rules.specs.declared.faults.Fault.TheVariants as faults
use Rattle.static_rules.specs.Files.{first_fault, resolved}
use Rattle.refute_runs.specs.RefutedAnswers.{IsRefutedAnswer}
use Rattle.refute_runs.specs.Violations.{NumbersAreOfRuns, ViolationIsOfRuns}
use Rattle.refute_runs.specs.declared.answers.Refuted.TheVariants.{Stopped, Violation, Within}
use Rattle.refute_runs.specs.declared.answers.Refuted.{Refuted}
use Rattle.run_machine.specs.ConfigConditions.{ReachesPrograms}
use Rattle.run_script.specs.Scripts.{IsFirstFault, Script, Spells}
use Rattle.run_script.specs.Starts.{start_state_over}
use Rattle.run_script.specs.Texts.{violation_text, within_text}
use Rattle.std.specs.Prelude.{List, None, Some, [], false, true, ◌∷◌, ◌≡◌, ℕ}
use Prim.Native.Nat.{suc, zero}
use Rattle.verdict_report.specs.declared.answers.Answer.{Answer}
use Rattle.verdict_report.specs.declared.answers.Verdict.TheVariants as verdict
use Rattle.verdict_report.specs.declared.answers.Verdict.{Verdict}
use Rattle.verify_core.specs.AnsweredProcedures.{AreAnswered}
use Rattle.verify_core.specs.Headline.{IsHeadline}

-- ---- The start of the runs

-- The values that a verdict shows, if the main goal of the bound is falsified; otherwise none.
abbrev pub shown_by : Verdict → List Val
shown_by verdict.Verified = []
shown_by (verdict.Valid reason) = []
shown_by (verdict.Conditional q) = []
shown_by (verdict.NotVerified Main s) = s.items
shown_by (verdict.NotVerified Pre s) = []
shown_by (verdict.NotVerified Post s) = []
shown_by (verdict.NotVerified (Invariant n) s) = []
shown_by (verdict.NotVerified (Ranking n) s) = []
shown_by (verdict.Unknown id cause) = []
shown_by verdict.NoBody = []
shown_by (verdict.Unchecked id miss) = []

-- The values that the answers show of the procedure with the number `p`.
abbrev pub shown_of : List Answer → ℕ → List Val
shown_of [] p = []
shown_of (a ∷ rest) zero = shown_by a.verdict
shown_of (a ∷ rest) (suc p) = shown_of rest p

-- The state in which the runs start. Each value is the one that the script sets, otherwise the one
-- that the answers show, otherwise false or 0.
abbrev pub refute_start : List TypedProcedure → ℕ → Script → List Answer → List Val
refute_start ps p s answers = start_state_over (procedure_at ps p) s.settings (shown_of answers p)

-- ---- The result of a search

-- `with_answers answers reply`: `reply` with `answers` in place of its own.
abbrev pub with_answers : List Answer → Reply → Reply
with_answers answers reply =
    record { fault = reply.fault; answers = answers; output = reply.output; status = reply.status }

-- The reply with the line on a violation after `step` steps, and with answers.
abbrev pub violated : List ℕ → ℕ → Value → Value → List Answer → Reply
violated name step sum pre answers = record {
  fault = faults.Nothing;
  answers = answers;
  output = violation_text name step sum pre;
  status = 1;
}

-- The reply with the line on a search of at most `steps` steps, in a procedure named `name`: a
-- violation, that there is none, or why the runs stopped.
abbrev pub refuted_reply : List ℕ → ℕ → List Answer → Refuted → Reply
refuted_reply name steps answers (Violation s sum pre) =
    violated name s (value_of sum) (value_of pre) answers
refuted_reply name steps answers (Within sum pre) = record {
  fault = faults.Nothing;
  answers = answers;
  output = within_text name (value_of pre) steps (value_of sum);
  status = 0;
}
refuted_reply name steps answers (Stopped s stopped) = with_answers answers (run_reply stopped)

-- The reply has the answers of `verify`, and the result of a search under a script from the state
-- in which the runs start.
pub record TellsRefuted (ps : List TypedProcedure) (p : ℕ) (s : Script) (reply : Reply)
    : Type 0 where
  pub made : List NamedGoal
  pub certs : List GoalCert
  pub are_answers : AreAnswered ps reply.answers made certs
  pub headline : IsHeadline ps reply.answers
  pub answer : Refuted
  pub is_answer : IsRefutedAnswer ps p
      (refute_start ps p s reply.answers) s.decisions s.steps answer
  pub violation : ViolationIsOfRuns ps p (refute_start ps p s reply.answers) s.decisions answer
  pub numbers : NumbersAreOfRuns ps p (refute_start ps p s reply.answers) s.decisions s.steps answer
  pub told : reply ≡ refuted_reply (procedure_at ps p).name s.steps reply.answers answer

-- ---- Replies

-- The line on a procedure that is no coproc.
abbrev pub no_coproc : List TypedProcedure → ℕ → Reply
no_coproc ps p = message faults.Shape (no_coproc_text (procedure_at ps p).name)

-- The reply about the procedure named `name`, in a file with the procedures `ps`, and a script with
-- the bytes `script`, by the first case that applies: the script's first invalid line; that no
-- procedure has this name; that it is no coproc; the first procedure reached that is no program;
-- otherwise the result of the search.
pub data IsRefuteOf (name script : List ℕ) (ps : List TypedProcedure) (reply : Reply) : Type 0 where
  by_script : (line : ℕ) → IsFirstFault (known_at ps (procedure_named name ps)) script line
      → reply ≡ script_fault line → IsRefuteOf name script ps reply
  by_name : (s : Script) → Spells (known_at ps (procedure_named name ps)) s script
      → procedure_named name ps ≡ None → reply ≡ no_procedure → IsRefuteOf name script ps reply
  by_shape : (s : Script) → Spells (known_at ps (procedure_named name ps)) s script → (p : ℕ)
      → procedure_named name ps ≡ Some p → (procedure_at ps p).co ≡ false → reply ≡ no_coproc ps p
      → IsRefuteOf name script ps reply
  by_program : (s : Script) → Spells (known_at ps (procedure_named name ps)) s script → (p : ℕ)
      → procedure_named name ps ≡ Some p → (procedure_at ps p).co ≡ true → (q : ℕ)
      → IsFirstNoProgram ps p q → reply ≡ no_program ps q → IsRefuteOf name script ps reply
  by_search : (s : Script) → Spells (known_at ps (procedure_named name ps)) s script → (p : ℕ)
      → procedure_named name ps ≡ Some p → (procedure_at ps p).co ≡ true → ReachesPrograms ps p
      → TellsRefuted ps p s reply → IsRefuteOf name script ps reply

-- `IsRefuteReply name bytes script reply`: `reply` is the reply of `refute` to a file with the
-- bytes `bytes`, the procedure name `name` and a script with the bytes `script`.
abbrev pub IsRefuteReply : List ℕ → List ℕ → List ℕ → Reply → Type 0
IsRefuteReply name bytes script reply = IsTypedReply (IsRefuteOf name script) bytes reply

-- If `bytes` spell a file without an error, in which `name` names a coproc that reaches only
-- programs, and `script` spells a script for it, `refute` gives the result of the search.
abbrev pub CoprocsAreSearched : Type 0
CoprocsAreSearched = (name bytes script : List ℕ) (file : List Procedure) (reply : Reply)
    → IsSource bytes file → first_fault file ≡ None
    → (s : Script) (p : ℕ) → procedure_named name (resolved file) ≡ Some p
    → Spells (known_at (resolved file) (Some p)) s script
    → (procedure_at (resolved file) p).co ≡ true
    → ReachesPrograms (resolved file) p → IsRefuteReply name bytes script reply
    → TellsRefuted (resolved file) p s reply
