-- Each command gives its answer unless a device, a length limit or memory prevents it: the whole
-- reply is written. This project's own.
use Rattle.heyvl_io.specs.Faults.{Rose}
use Rattle.heyvl_io.specs.History.{since_start}
use Rattle.spelled_files.specs.Sources.{file_limit}
use Rattle.tool_laws.specs.Calls.{AreRead, Call}
use Rattle.command_rules.specs.Messages.{Reply}
use Rattle.tool_laws.specs.Outcomes.{IsAnswered, IsOutOfMemory, IsWritten, Writing}
use Rattle.command_words.specs.Words.{AskFor}
use Rattle.command_rules.specs.commands.{IsReplyTo}
use Rattle.command_words.specs.Requests.{files_of}
use Rattle.tool_laws.specs.declared.outcomes.Outcome.{Outcome}
use Rattle.command_words.specs.declared.requests.Settings.{Settings}
use Rattle.std.specs.Prelude.{List, length, ◌≡◌, ◌≢◌, ◌≤◌, ◌⊎◌, ℕ}

-- Neither the source nor the sink failed, at most `file_limit` bytes were read after the last
-- start, and memory sufficed.
pub record WentWell (made : Call) (done : Writing) (outcome : Outcome) : Type 0 where
  pub source : Rose made.before.faults made.after.faults → ⊥
  pub short : length (since_start made.after.history) ≤ file_limit
  pub sink : Rose done.faults_before done.faults_after → ⊥
  pub memory : outcome.status ≢ 7

-- The bytes that were read of the command's files are those that the source holds, if it reports
-- them. The command's reply to them was written as a whole, with its answers and its status.
pub record IsComplete (settings : Settings) (made : Call) (done : Writing) (outcome : Outcome)
    : Type 0 where
  pub bytes : List ℕ
  pub second : List ℕ
  pub read : AreRead (files_of settings) made.names bytes second made.before made.after
  pub reply : Reply
  pub said : IsReplyTo settings bytes second reply
  pub written : IsWritten reply done outcome
  pub answers : outcome.answers.items ≡ reply.answers

-- If a call asks for a command and nothing fails, each outcome that `run_tool` promises is
-- complete.
abbrev pub CommandsAreComplete : Type 0
CommandsAreComplete =
    (settings : Settings) (made : Call) (done : Writing) (outcome : Outcome)
    → AskFor made.words settings → WentWell made done outcome
    → IsAnswered made done outcome ⊎ IsOutOfMemory done outcome
    → IsComplete settings made done outcome
