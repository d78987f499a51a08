-- What a call may do to its source. This project's own.
use Rattle.spelled_files.specs.Sources.{file_limit}
use Rattle.tool_laws.specs.Calls.{Call, IsStarted, Moment, Names}
use Rattle.command_words.specs.Words.{AskFor, IsUsage}
use Rattle.command_words.specs.Requests.{Files, files_of}
use Rattle.command_words.specs.declared.requests.Settings.{Settings}
use Rattle.std.specs.Prelude.{List, ◌+◌, ◌≡◌, ◌⊎◌, ℕ}

-- No name was started, and no byte was read.
pub record IsUntouched (before after : Moment) : Type 0 where
  pub order : after.order ≡ before.order
  pub history : after.history ≡ before.history

-- `name` was started once and nothing else, and at most `file_limit + 1` bytes of it were read.
abbrev pub IsStartedOnce : Names → List ℕ → Moment → Moment → Type 0
IsStartedOnce names name before after = IsStarted (file_limit + 1) names name before after

-- The first file was started once, and then the second one at most once; at most `file_limit + 1`
-- bytes of each were read. Nothing else was started, and nothing at all if the command has no file.
abbrev pub IsReadInTurn : Files → Names → Moment → Moment → Type 0
IsReadInTurn Files.none names before after = IsUntouched before after
IsReadInTurn (Files.one file) names before after = IsStartedOnce names file before after
IsReadInTurn (Files.two file second) names before after =
    IsStartedOnce names file before after
    ⊎ ((between : Moment) × IsStartedOnce names file before between
    × IsStartedOnce names second between after)

-- The names were started as `run_tool` promises: none if the arguments are not a valid command;
-- otherwise the files of the command in their order, or none if memory ran out for the arguments.
pub record IsStartedRight (made : Call) (NoMemory : Type 0) : Type 0 where
  pub no_start : IsUsage made.words → IsUntouched made.before made.after
  pub start : (settings : Settings) → AskFor made.words settings
      → IsReadInTurn (files_of settings) made.names made.before made.after
      ⊎ (NoMemory × IsUntouched made.before made.after)
