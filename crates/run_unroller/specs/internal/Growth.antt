-- Bounds on the counts of iterations and decisions after some steps.
use Rattle.std.specs.Prelude.{◌≤◌, ℕ, List}
use Rattle.heyvl_acts.specs.Acts.{TypedProcedure}
use Rattle.run_machine.specs.ConfigConditions.{IsConfig}
use Rattle.run_machine.specs.Names.{Stored, turns_of}
use Rattle.run_laws.specs.EachOutcome.{EachOutcome}
use Rattle.run_unroller.specs.RunLists.{RunList}

-- After `n` steps a configuration has counted at most `n` iterations of each loop and `n`
-- decisions.
pub record Within (ps : List TypedProcedure) (n : ℕ) (c : Stored) : Type 0 where
  pub config : IsConfig ps c
  pub turns : (number : ℕ) → turns_of c.turns number ≤ n
  pub made : c.made ≤ n

-- Each run satisfies `Within`, and no weight is negative.
abbrev pub AllWithin : List TypedProcedure → ℕ → RunList → Type 0
AllWithin ps n rs = EachOutcome (Within ps n) rs
