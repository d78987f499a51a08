-- The commands that the arguments of the command line ask for. This project's own.
use Rattle.command_words.specs.Requests.{arguments_of, request_of, words_of}
use Rattle.command_words.specs.declared.requests.Settings.{Settings}
use Rattle.command_words.specs.declared.requests.SettingsStop.TheVariants.{Memory, Usage}
use Rattle.command_words.specs.declared.requests.SettingsStop.{SettingsStop}
use Rattle.std.specs.List.{list_all}
use Rattle.std.specs.Prelude.{Bool, List, [], false, nat_eq, not, true, ◌∷◌, ◌≡◌, ℕ}

-- Whether an argument is allowed: it is not empty and does not begin with `-`.
abbrev pub is_argument : List ℕ → Bool
is_argument [] = false
is_argument (b ∷ bs) = not (nat_eq b 45)

-- `words`, the arguments of the command line, ask for the command `settings`.
pub record AskFor (words : List (List ℕ)) (settings : Settings) : Type 0 where
  pub words_are : words ≡ words_of settings
  pub arguments : list_all is_argument (arguments_of settings) ≡ true
  pub fits : (request_of settings).fits ≡ true

-- The arguments are not a valid command.
abbrev pub IsUsage : List (List ℕ) → Type 0
IsUsage words = (settings : Settings) → AskFor words settings → ⊥

-- Why arguments make no request: they are not a valid command, or memory ran out.
abbrev pub IsSettingsStop : List (List ℕ) → SettingsStop → Type 0
IsSettingsStop words Usage = IsUsage words
IsSettingsStop words (Memory error) = Unit {0}
