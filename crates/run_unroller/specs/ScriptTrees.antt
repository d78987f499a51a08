-- The scheduler of a script: the decision of each node is the script's entry for the number of
-- decisions asked for before it. This project's own.
use Rattle.std.specs.Prelude.{ℕ, ◌+◌, List, [], ◌∷◌}
use Prim.Native.Nat.{zero, suc}
use Rattle.heyvl_acts.specs.Acts.{TypedProcedure}
use Rattle.run_machine.specs.declared.configurations.Decide.{Decide}
use Rattle.run_machine.specs.Configurations.{Config, Outcomes}
use Rattle.run_machine.specs.Scheduler.{Tree, Forest}
use Rattle.run_machine.specs.Step.{step}
use Rattle.run_machine.specs.StepAnswers.{asked_by}
use Rattle.run_unroller.specs.Scripts.{entry}

-- The trees for the outcomes, in their order.
abbrev pub forest : (Config → Tree) → Outcomes → Forest
forest f [] = Forest.no_trees
forest f (x ∷ xs) = Forest.trees (f x.1) (forest f xs)

-- `scripted ps script n made c`: the scheduler for `n` steps from `c`, before which `made`
-- decisions were asked for.
abbrev pub scripted : List TypedProcedure → List Decide → ℕ → ℕ → Config → Tree
scripted ps script zero made c = Tree.leaf
scripted ps script (suc n) made c = Tree.node (entry script made)
    (forest (scripted ps script n (made + asked_by c.items)) (step ps c (entry script made)))
