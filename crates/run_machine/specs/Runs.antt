-- The runs of a configuration under a scheduler: the outcomes of at most `n` steps, with their
-- probabilities. This project's own.
use Rattle.std.specs.Prelude.{ℕ, List, [], ◌∷◌, ◌++◌}
use Prim.Native.Nat.{zero, suc}
use Rattle.heyvl_num.specs.WeightedSums.{scaled}
use Rattle.heyvl_acts.specs.Acts.{TypedProcedure}
use Rattle.run_machine.specs.Configurations.{Item, Config, Outcomes}
use Rattle.run_machine.specs.Step.{sure, step_item}
use Rattle.run_machine.specs.Scheduler.{Tree, Forest, decision, under, first, rest}

-- A function from a configuration and its scheduler to outcomes.
abbrev pub Runner : Type 0
Runner = Config → Tree → Outcomes

-- `spread f xs ts`: the outcomes of `f` on each configuration of `xs` under its tree in `ts`, with
-- the weights multiplied.
abbrev pub spread : Runner → Outcomes → Forest → Outcomes
spread f [] ts = []
spread f (x ∷ xs) ts = scaled x.0 (f x.1 (first ts)) ++ spread f xs (rest ts)

-- The outcomes of the first step and then of `f`. A terminated configuration stays as it is.
abbrev pub onward : List TypedProcedure → Runner → List Item → Config → Tree → Outcomes
onward ps f [] c t = sure c
onward ps f (i ∷ is) c t = spread f (step_item ps i is c (decision t)) (under t)

-- `runs ps n c t`: the outcomes of at most `n` steps from the configuration `c` under the scheduler
-- `t`. If `d = flip(1/2)` is the only item, one or more steps have two outcomes of weight 1/2.
unfoldable pub runs : List TypedProcedure → ℕ → Runner
runs ps zero c t = sure c
runs ps (suc n) c t = onward ps (runs ps n) c.items c t
