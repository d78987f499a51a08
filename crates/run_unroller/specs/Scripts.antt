-- Decisions of a script: the decision number j of every run, from 0, is the script's entry j. If it
-- has none, no decision is made. This project's own.
use Rattle.std.specs.Prelude.{ℕ, List, option_map}
use Rattle.std.specs.Borrow.{Bor}
use Rattle.heyvl_acts.specs.Places.{nth}
use Rattle.run_machine.specs.declared.configurations.Decide.{Decide}
use Rattle.run_machine.specs.Names.{decision_of}
use Rattle.run_machine.specs.Step.{Decision}

-- A reference to a decision. Its address does not matter.
abbrev pub lent : Decide → Bor Decide
lent d = record { ref_ptr = (0, 0); now = d }

-- The script's entry `j`, or no decision after its end.
abbrev pub entry : List Decide → ℕ → Decision
entry script j = decision_of (option_map lent (nth script j))
