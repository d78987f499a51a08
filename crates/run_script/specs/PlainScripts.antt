-- Scripts and variables that the program holds, read as plain data. This project's own.
use Rattle.heyvl_acts.specs.PlainActs.{variable_of}
use Rattle.heyvl_acts.specs.declared.typed_trees.VarInfo.{VarInfo}
use Rattle.run_script.specs.Scripts as scripts
use Rattle.run_script.specs.declared.scripts.Script.{Script}
use Rattle.std.specs.Borrow.{Bor}
use Rattle.std.specs.Prelude.{List, Option, map, option_map}

-- A script that the program holds.
abbrev pub script_of : Script → scripts.Script
script_of s = record { steps = s.steps; settings = s.settings.items; decisions = s.decisions.items }

-- The variables that may be set.
abbrev pub known_in : Option (Bor (List VarInfo)) → scripts.Known
known_in known = option_map (λ variables. map variable_of variables.now) known
