-- What a user may rely on if a report says `verified`, `ranked` or `not verified`, and if `run`
-- writes numbers. This project's own.
use Rattle.std.specs.Prelude.{List, None, Some, [], ◌≡◌, ◌≢◌, ℕ}
use Rattle.heyvl_syntax.specs.Procedures.{Procedure}
use Rattle.heyvl_syntax.specs.SourceFaults.{IsSource}
use Rattle.tool_laws.specs.Calls.{AreRead, Call}
use Rattle.command_rules.specs.Messages.{Reply, message}
use Rattle.tool_laws.specs.Outcomes.{IsDelivered, IsWritten, Writing}
use Rattle.command_rules.specs.RunStarts.{procedure_named}
use Rattle.command_words.specs.Words.{AskFor}
use Rattle.command_rules.specs.commands.{IsReplyTo, verified_text}
use Rattle.command_words.specs.Requests.{Files, files_of}
use Rattle.command_rules.specs.declared.faults.Fault.TheVariants.{Nothing}
use Rattle.tool_laws.specs.declared.outcomes.Outcome.{Outcome}
use Rattle.command_words.specs.declared.requests.Settings.TheVariants.{Run}
use Rattle.command_words.specs.declared.requests.Settings.{Settings}
use Rattle.heyvl_acts.specs.Acts.{TypedProcedure, procedure_at}
use Rattle.static_rules.specs.Files.{first_fault, resolved}
use Rattle.run_machine.specs.ConfigConditions.{ReachesPrograms}
use Rattle.run_machine.specs.Configurations.{Config, Outcomes, begin}
use Rattle.run_machine.specs.Runs.{runs}
use Rattle.run_script.specs.Scripts.{Script, Spells}
use Rattle.run_script.specs.Starts.{known_of, start_state}
use Rattle.run_script.specs.Texts.{sums_text}
use Rattle.run_unroller.specs.ScriptTrees.{scripted}
use Rattle.run_unroller.specs.Totals.{Totals}
use Rattle.run_unroller.specs.UnrollLaws.{AreSums}
use Rattle.verify_core.specs.Headline.{IsHeadline}

-- The outcome of a command is its reply to the bytes that were read of its files. They are those
-- that the source holds, if it reports them. These bytes, or for `gen` its generated text, spell a
-- file without an error, and the answers of the outcome promise the following, for every n.
--
-- - Each coproc that is reported as verified has, from every initial state and under every
--   scheduler, reward and post over runs of at most n steps, weighted exactly, of at most its pre.
-- - Each proc with `@wlp` that is reported as verified has post over these runs, plus the mass not
--   yet terminated, of at least its pre.
-- - Each loop that is reported as ranked has expected iterations within n steps, times its step, of
--   at most its ranking.
-- - Each program without loops and calls whose bound is reported as not verified has runs that
--   violate it, from the initial state that is shown.
pub record IsVerifiedFrom (settings : Settings) (made : Call) (done : Writing) (outcome : Outcome)
    : Type 0 where
  pub bytes : List ℕ
  pub second : List ℕ
  pub read : AreRead (files_of settings) made.names bytes second made.before made.after
  pub reply : Reply
  pub said : IsReplyTo settings bytes second reply
  pub is_delivered : IsDelivered reply done outcome
  pub file : List Procedure
  pub spelled : IsSource (verified_text settings bytes) file
  pub faultless : first_fault file ≡ None
  pub headline : IsHeadline (resolved file) outcome.answers.items

-- If a command gives answers, they are those on the bytes that were read, and keep the promises of
-- the headline.
abbrev pub AnswersAreMeant : Call → Writing → Outcome → Type 0
AnswersAreMeant made done outcome = (settings : Settings) → AskFor made.words settings
    → outcome.answers.items ≢ [] → IsVerifiedFrom settings made done outcome

-- ---- Runs

-- The configuration in which the procedure `p` starts by a script: its body, in the state that the
-- script sets.
abbrev pub start_by : List TypedProcedure → ℕ → Script → Config
start_by ps p s = begin ps p (start_state (procedure_at ps p) s.settings)

-- The runs of the procedure `p` of at most `n` steps, each with its probability, under the
-- scheduler of the script.
abbrev pub scripted_runs : List TypedProcedure → ℕ → Script → ℕ → Outcomes
scripted_runs ps p s n = runs ps n (start_by ps p s) (scripted ps s.decisions n 0 (start_by ps p s))

-- A call of `run` wrote numbers, as a whole and nothing else, and they are sums over runs.
--
-- The bytes that were read of the file and of the script are those that the source holds, if it
-- reports them. They spell a file without an error, in which `procedure` names a procedure that is
-- a program and reaches only programs, and a script for it. The runs are those of this procedure
-- within the script's number of steps, from the state that the script sets and under its scheduler,
-- weighted exactly. The numbers are the expected post of the terminated runs, the expected reward
-- of all runs, the mass not yet terminated, and the expected iterations of each loop.
pub record IsSummedFrom (name procedure script : List ℕ) (made : Call) (done : Writing)
    (outcome : Outcome) : Type 0 where
  pub bytes : List ℕ
  pub text : List ℕ
  pub read : AreRead (Files.two name script) made.names bytes text made.before made.after
  pub file : List Procedure
  pub spelled : IsSource bytes file
  pub faultless : first_fault file ≡ None
  pub number : ℕ
  pub named : procedure_named procedure (resolved file) ≡ Some number
  pub programs : ReachesPrograms (resolved file) number
  pub said : Script
  pub spells : Spells (Some (known_of (procedure_at (resolved file) number))) said text
  pub numbers : Totals
  pub sums : AreSums (procedure_at (resolved file) number)
      (scripted_runs (resolved file) number said said.steps) numbers
  pub written : IsWritten (message Nothing (sums_text numbers)) done outcome

-- If `run` ends without an error, `IsSummedFrom` holds for the file, the procedure and the script
-- that the call names.
abbrev pub SumsAreMeant : Call → Writing → Outcome → Type 0
SumsAreMeant made done outcome =
    (file procedure script : List ℕ) → AskFor made.words (Run file procedure script)
    → outcome.fault ≡ Nothing → IsSummedFrom file procedure script made done outcome
