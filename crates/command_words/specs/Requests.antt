-- The table of the requests: the arguments of each command, and the files that it reads.
-- `command_rules` has the table of the replies. This project's own.
use Rattle.command_words.specs.Forms.{Form, certify, check, generate, omega_pair, pgcl, print}
use Rattle.command_words.specs.Forms.{refute, remainder, run, verify}
use Rattle.command_words.specs.LineCounts.{is_line_count}
use Rattle.command_words.specs.declared.requests.Settings.TheVariants as commands
use Rattle.command_words.specs.declared.requests.Settings.{Settings}
use Rattle.std.specs.Prelude.{Bool, List, [], decimal, true, ◌∷◌, ℕ}

-- ---- The rows

-- The files of a command, in the order in which they are read.
pub data Files : Type 0 where
  none : Files
  one : List ℕ → Files
  two : List ℕ → List ℕ → Files

-- A request: the form of the command, its arguments, whether their numbers are in range, and its
-- files.
pub record Request : Type 0 where
  pub form : Form
  pub words : List (List ℕ)
  pub fits : Bool
  pub files : Files

-- A request without numbers.
abbrev pub request : Form → List (List ℕ) → Files → Request
request form words files = record { form = form; words = words; fits = true; files = files }

-- The table of the requests.
abbrev pub request_of : Settings → Request
request_of (commands.Verify file) = request verify (file ∷ []) (Files.one file)
request_of (commands.Print file) = request print (file ∷ []) (Files.one file)
request_of (commands.Run file procedure script) =
    request run (file ∷ procedure ∷ script ∷ []) (Files.two file script)
request_of (commands.Certify file) = request certify (file ∷ []) (Files.one file)
request_of (commands.Check file certificates) =
    request check (file ∷ certificates ∷ []) (Files.two file certificates)
request_of (commands.Gen n) =
    record (request generate (decimal n ∷ []) Files.none) { fits = is_line_count n }
request_of (commands.Pgcl file) = request pgcl (file ∷ []) (Files.one file)
request_of (commands.Omega file procedure name) =
    request omega_pair (file ∷ procedure ∷ name ∷ []) (Files.one file)
request_of (commands.Remainder file procedure name) =
    request remainder (file ∷ procedure ∷ name ∷ []) (Files.one file)
request_of (commands.Refute file procedure script) =
    request refute (file ∷ procedure ∷ script ∷ []) (Files.two file script)

-- ---- Its columns

-- The arguments of a command, without its name.
abbrev pub arguments_of : Settings → List (List ℕ)
arguments_of settings = (request_of settings).words

-- The name of a command and its arguments.
abbrev pub words_of : Settings → List (List ℕ)
words_of settings = (request_of settings).form.word ∷ arguments_of settings

-- The files of a command.
abbrev pub files_of : Settings → Files
files_of settings = (request_of settings).files
