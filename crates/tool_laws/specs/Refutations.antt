-- What a user may rely on if `refute` reports that a bound is violated. This project's own.
use Rattle.goal_answers.specs.declared.named_goals.NamedGoal.{NamedGoal}
use Rattle.goal_answers.specs.declared.trees.GoalCert.{GoalCert}
use Rattle.heylo_formula.specs.declared.values.Val.{Val}
use Rattle.heyvl_acts.specs.Acts.{procedure_at}
use Rattle.heyvl_num.specs.Value.{Value}
use Rattle.heyvl_syntax.specs.Procedures.{Procedure}
use Rattle.heyvl_syntax.specs.SourceFaults.{IsSource}
use Rattle.tool_laws.specs.Calls.{AreRead, Call}
use Rattle.tool_laws.specs.Outcomes.{IsWritten, Writing}
use Rattle.command_rules.specs.RunStarts.{procedure_named}
use Rattle.command_words.specs.Words.{AskFor}
use Rattle.command_rules.specs.commands.Refute.{refute_start, violated}
use Rattle.command_words.specs.Requests.{Files}
use Rattle.tool_laws.specs.declared.outcomes.Outcome.{Outcome}
use Rattle.command_words.specs.declared.requests.Settings.TheVariants.{Refute}
use Rattle.static_rules.specs.Files.{first_fault, resolved}
use Rattle.refute_runs.specs.ScriptedSums.{AreOfRuns}
use Rattle.refute_runs.specs.Violations.{IsViolation}
use Rattle.run_laws.specs.Bare.{bare_procedures}
use Rattle.run_machine.specs.Bound.{Bound}
use Rattle.run_machine.specs.ConfigConditions.{ReachesPrograms}
use Rattle.run_script.specs.Scripts.{Script, Spells}
use Rattle.run_script.specs.Starts.{known_of}
use Rattle.std.specs.Prelude.{List, None, Some, ◌≡◌, ◌≤◌, ℕ}
use Rattle.verdict_report.specs.declared.answers.Answer.{Answer}
use Rattle.verdict_report.specs.declared.answers.Verdict.TheVariants.{Verified}
use Rattle.verdict_report.specs.VerdictsOn.{IsVerdictOn}
use Rattle.verify_core.specs.AnsweredProcedures.{AreAnswered}
use Rattle.verify_core.specs.CheckedAnswers.{IsCheckedFile}

-- No answers on `file`, by decisions of its goals or by certificates, report the procedure with the
-- number `number` as verified.
pub record IsNeverVerified (file : List Procedure) (number : ℕ) : Type 0 where
  pub decided : (answers : List Answer) (made : List NamedGoal) (certs : List GoalCert)
      → AreAnswered (resolved file) answers made certs → IsVerdictOn answers number Verified → ⊥
  pub checked : (certs : List GoalCert) (answers : List Answer)
      → IsCheckedFile (resolved file) certs answers → IsVerdictOn answers number Verified → ⊥

-- In a file without an error, a procedure whose bound does not hold is never reported as verified.
abbrev pub BrokenBoundsAreNeverVerified : Type 0
BrokenBoundsAreNeverVerified = (file : List Procedure) (number : ℕ) → first_fault file ≡ None
    → (Bound (resolved file) number → ⊥) → IsNeverVerified file number

-- A call of `refute` wrote a violation, and nothing else, and the runs have this violation.
--
-- The bytes that were read of the file and of the script are those that the source holds, if it
-- reports them. They spell a file without an error, in which `procedure` names a procedure that is
-- a program and reaches only programs, and a script for it. The runs start in the state that the
-- script sets, with values from the answers for what it does not set, and follow the script's
-- scheduler. Over the runs of `step` steps, the expected reward and post are above the pre; with
-- fewer steps they are not. So the bound of the procedure holds neither in this file nor in any
-- file that differs from it only in places and in the rules of its loops, and no answers on such a
-- file report it as verified.
pub record IsRefutedFrom (name procedure script : List ℕ) (made : Call) (done : Writing)
    (outcome : Outcome) : Type 0 where
  pub bytes : List ℕ
  pub text : List ℕ
  pub read : AreRead (Files.two name script) made.names bytes text made.before made.after
  pub file : List Procedure
  pub spelled : IsSource bytes file
  pub faultless : first_fault file ≡ None
  pub number : ℕ
  pub named : procedure_named procedure (resolved file) ≡ Some number
  pub programs : ReachesPrograms (resolved file) number
  pub said : Script
  pub spells : Spells (Some (known_of (procedure_at (resolved file) number))) said text
  pub start : List Val
  pub starts : start ≡ refute_start (resolved file) number said outcome.answers.items
  pub step : ℕ
  pub few : step ≤ said.steps
  pub violation : IsViolation (resolved file) number start said.decisions step
  pub sum : Value
  pub bound : Value
  pub numbers : AreOfRuns (resolved file) number start said.decisions step sum bound
  pub no_bound : (other : List Procedure)
      → bare_procedures (resolved file) ≡ bare_procedures (resolved other)
      → Bound (resolved other) number → ⊥
  pub unverified : (other : List Procedure)
      → bare_procedures (resolved file) ≡ bare_procedures (resolved other)
      → first_fault other ≡ None → IsNeverVerified other number
  pub written : IsWritten (violated
      (procedure_at (resolved file) number).name step sum bound outcome.answers.items) done outcome

-- If the status of `refute` is 1, it wrote a violation, for the bytes that were read.
abbrev pub ViolationsAreMeant : Call → Writing → Outcome → Type 0
ViolationsAreMeant made done outcome =
    (file procedure script : List ℕ) → AskFor made.words (Refute file procedure script)
    → outcome.status ≡ 1 → IsRefutedFrom file procedure script made done outcome
