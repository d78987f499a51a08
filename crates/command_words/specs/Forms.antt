-- The forms of the commands and the usage line. This project's own.
use Rattle.std.specs.Prelude.{List, [], codes, ◌++◌, ◌∷◌, ℕ}

-- The form of a command: its name, and the names of its arguments.
pub record Form : Type 0 where
  pub word : List ℕ
  pub names : List (List ℕ)

abbrev form : List ℕ → List (List ℕ) → Form
form word names = record { word = word; names = names }

-- `verify FILE`
abbrev pub verify : Form
verify = form (codes "verify") (codes "FILE" ∷ [])

-- `print FILE`
abbrev pub print : Form
print = form (codes "print") (codes "FILE" ∷ [])

-- `run FILE PROC SCRIPT`
abbrev pub run : Form
run = form (codes "run") (codes "FILE" ∷ codes "PROC" ∷ codes "SCRIPT" ∷ [])

-- `certify FILE`
abbrev pub certify : Form
certify = form (codes "certify") (codes "FILE" ∷ [])

-- `check FILE CERT`
abbrev pub check : Form
check = form (codes "check") (codes "FILE" ∷ codes "CERT" ∷ [])

-- `gen N`
abbrev pub generate : Form
generate = form (codes "gen") (codes "N" ∷ [])

-- `pgcl FILE`
abbrev pub pgcl : Form
pgcl = form (codes "pgcl") (codes "FILE" ∷ [])

-- `omega FILE PROC NAME`
abbrev pub omega_pair : Form
omega_pair = form (codes "omega") (codes "FILE" ∷ codes "PROC" ∷ codes "NAME" ∷ [])

-- `remainder FILE PROC NAME`
abbrev pub remainder : Form
remainder = form (codes "remainder") (codes "FILE" ∷ codes "PROC" ∷ codes "NAME" ∷ [])

-- `refute FILE PROC SCRIPT`
abbrev pub refute : Form
refute = form (codes "refute") (codes "FILE" ∷ codes "PROC" ∷ codes "SCRIPT" ∷ [])

-- All forms, in the order of the usage line.
abbrev pub forms : List Form
forms = verify ∷ print ∷ run ∷ certify ∷ check ∷ generate ∷ pgcl ∷ omega_pair ∷ remainder ∷ refute
    ∷ []

-- ---- The usage line

-- The names, with a space before each.
abbrev names_text : List (List ℕ) → List ℕ
names_text [] = []
names_text (name ∷ more) = codes " " ++ name ++ names_text more

-- A command with the names of its arguments, for example `verify FILE`.
abbrev pub form_text : Form → List ℕ
form_text f = f.word ++ names_text f.names

-- The forms, with bars between them.
abbrev pub forms_text : List Form → List ℕ
forms_text [] = []
forms_text (f ∷ []) = form_text f
forms_text (f ∷ g ∷ more) = form_text f ++ codes " | " ++ forms_text (g ∷ more)

-- The line that is written if the arguments are not a valid command.
abbrev pub usage_line : List ℕ
usage_line = codes "usage: caesar " ++ forms_text forms ++ codes "\n"
