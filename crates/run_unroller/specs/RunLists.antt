-- The list of runs after a step: the outcomes of each run, in order, their weights multiplied by
-- the run's, where runs with equal configurations are merged. A terminated run stays as it is. A
-- configuration counts the decisions asked for, so runs with different numbers of decisions are
-- never merged. This project's own.
use Rattle.std.specs.Prelude.{ℕ, List, [], ◌∷◌}
use Prim.Native.Nat.{zero, suc}
use Rattle.heyvl_num.specs.WeightedSums.{joined}
use Rattle.heyvl_acts.specs.Acts.{TypedProcedure}
use Rattle.run_machine.specs.declared.configurations.Decide.{Decide}
use Rattle.run_machine.specs.Configurations.{Outcomes}
use Rattle.run_machine.specs.Names.{Numbered, Stored}
use Rattle.run_machine.specs.Replies.{StoredOutcomes, named, surely}
use Rattle.run_machine.specs.SameConfigurations.{same_stored}
use Rattle.run_machine.specs.StoredStep.{stored_step}
use Rattle.run_unroller.specs.MergedLists.{merged}
use Rattle.run_unroller.specs.Scripts.{entry}

-- The stored configurations of runs, with their probabilities.
abbrev pub RunList : Type 0
RunList = StoredOutcomes

-- The outcomes of a run with the given items: those of its step under its next decision, or itself
-- if it has terminated.
abbrev pub followed : List TypedProcedure → List Decide → List Numbered → Stored → RunList
followed ps script [] c = surely c
followed ps script (i ∷ is) c = stored_step ps c (entry script c.made)

-- The outcomes of a run.
abbrev pub follow : List TypedProcedure → List Decide → Stored → RunList
follow ps script c = followed ps script c.items c

-- The list after one step.
abbrev pub after_step : List TypedProcedure → List Decide → RunList → RunList
after_step ps script rs = merged same_stored (joined (follow ps script) rs)

-- The list after `n` steps.
abbrev pub after : List TypedProcedure → List Decide → ℕ → RunList → RunList
after ps script zero rs = rs
after ps script (suc n) rs = after_step ps script (after ps script n rs)

-- The list of the one run that begins with the configuration `c`.
abbrev pub begun : Stored → RunList
begun c = surely c

-- The outcomes, in the definition of runs, that the stored runs represent.
abbrev pub outcomes : List TypedProcedure → RunList → Outcomes
outcomes ps rs = named ps rs
