-- What `clap` makes of the arguments, in the terms of the reader.
use Rattle.clap.specs.Words.{Row, Text, first_of}
use Rattle.command_words.specs.LineCounts.{AsksFor}
use Rattle.command_words.specs.Words.{AskFor, is_argument}
use Rattle.command_words.specs.Forms.{generate}
use Rattle.command_words.specs.Requests.{arguments_of, request_of}
use Rattle.command_words.specs.declared.requests.Settings.TheVariants as commands
use Rattle.command_words.specs.declared.requests.Settings.{Settings}
use Rattle.command_words.specs.declared.requests.SettingsStop.TheVariants.{Memory, Usage}
use Rattle.command_words.specs.declared.requests.SettingsStop.{SettingsStop}
use Rattle.std.specs.Prelude.{Err, List, Ok, Option, Result, Some, [], map, option_map, true, ◌∷◌}
use Rattle.std.specs.Prelude.{◌≡◌, ℕ}

-- The name of the command that was found, and the values of the arguments with these names.
abbrev pub name_and_values : List Text → Option (Text × List Row)
    → Option (Text × List (Option Text))
name_and_values names = option_map (λ met. (met.0, map (λ name. first_of name met.1) names))

-- The command of `settings` was found, and each of its arguments has its value.
abbrev pub IsFound : Settings → Option (Text × List Row) → Type 0
IsFound settings met = name_and_values (request_of settings).form.names met
    ≡ Some ((request_of settings).form.word, map Some (arguments_of settings))

-- `gen` was found, and its argument has the value `word`.
abbrev pub IsGenFound : Text → Option (Text × List Row) → Type 0
IsGenFound word met = name_and_values generate.names met ≡ Some (generate.word, Some word ∷ [])

-- The arguments ask for a command, and it was found; or they are `gen` and an allowed argument, and
-- these were found.
pub data IsMet (words : List (List ℕ)) (met : Option (Text × List Row)) : Type 0 where
  asked : (settings : Settings) → AskFor words settings → IsFound settings met → IsMet words met
  numbered : (word : Text) → words ≡ generate.word ∷ word ∷ [] → is_argument word ≡ true
      → IsGenFound word met → IsMet words met

-- The result of reading the argument of `gen`: the number of lines that it is; `Usage` if it is
-- none; or memory ran out.
abbrev pub IsGenRead : Text → Result Settings SettingsStop → Type 0
IsGenRead word (Ok (commands.Gen n)) = AsksFor n word
IsGenRead word (Ok other) = ⊥
IsGenRead word (Err Usage) = (n : ℕ) → AsksFor n word → ⊥
IsGenRead word (Err (Memory error)) = Unit {0}

-- The error is that memory ran out.
abbrev pub IsMemory : SettingsStop → Type 0
IsMemory Usage = ⊥
IsMemory (Memory error) = Unit {0}
