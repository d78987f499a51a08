-- Lines about names and procedures. This project's own.
use Rattle.std.specs.Prelude.{List, codes, ◌++◌, ℕ}

-- The line on a name that no procedure has.
abbrev pub no_procedure_text : List ℕ
no_procedure_text = codes "no such procedure\n"

-- The line on a procedure that is no program.
abbrev pub no_program_text : List ℕ → List ℕ
no_program_text name = name ++ codes " is not a program\n"

-- The line on a procedure that is no coproc.
abbrev pub no_coproc_text : List ℕ → List ℕ
no_coproc_text name = name ++ codes " is not a coproc\n"
