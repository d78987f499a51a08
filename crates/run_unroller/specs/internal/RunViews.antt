-- The program's runs as plain data.
use Rattle.heyvl_num.specs.Rational.{Rational}
use Rattle.run_machine.specs.Names.{Stored, stored}
use Rattle.run_machine.specs.declared.configurations.Config as C
use Rattle.run_unroller.specs.RunLists.{RunList}
use Rattle.std.specs.Prelude.{List, map}

-- A run of the program.
abbrev pub run_of : C.Config × Rational → Rational × Stored
run_of e = (e.1, stored e.0)

-- The runs of the program.
abbrev pub runs_of : List (C.Config × Rational) → RunList
runs_of es = map run_of es
