-- The runs of guarded commands under a scheduler, and their upper sums. A scheduler is a tree with
-- a decision for each step, and with a subtree for each outcome of the step. This project's own.
use Prim.Native.Nat.{suc, zero}
use Rattle.heylo_formula.specs.declared.values.Val.{Val}
use Rattle.heyvl_num.specs.Value.{Value, zeroᵛ, ◌+ᵛ◌}
use Rattle.heyvl_num.specs.WeightedSums.{scaled, weighted_sum}
use Rattle.heyvl_syntax.specs.Expressions.{Expression}
use Rattle.typed_expressions.specs.Scopes.{Scope}
use Rattle.pgcl_front.specs.GuardedSteps.{GuardedConfig, GuardedOutcomes, does, listed}
use Rattle.pgcl_front.specs.GuardedSteps.{step_command, surely}
use Rattle.pgcl_front.specs.Readings.{amount, own_scope}
use Rattle.guarded_commands.specs.Programs.{BlockTree, CommandTree, ProgramTree}
use Rattle.run_machine.specs.Scheduler.{Forest, Tree, decision, first, rest, under}
use Rattle.std.specs.Prelude.{List, None, Option, Some, [], ◌++◌, ◌∷◌, ℕ}

-- A function that yields the runs of a configuration under a scheduler.
abbrev pub GuardedRunner : Type 0
GuardedRunner = GuardedConfig → Tree → GuardedOutcomes

-- The runs of each outcome under its own tree, concatenated. The weights of the outcomes multiply
-- those of the runs.
abbrev pub spread : GuardedRunner → GuardedOutcomes → Forest → GuardedOutcomes
spread f [] ts = []
spread f (x ∷ xs) ts = scaled x.0 (f x.1 (first ts)) ++ spread f xs (rest ts)

-- The runs of a configuration with the block `o`, if it is `Some`, to enter and the commands `cs`
-- to do. `f` yields the runs after the first step. A terminated configuration stays as it is.
abbrev pub onward : Scope → GuardedRunner → Option BlockTree → List CommandTree → GuardedConfig
    → Tree → GuardedOutcomes
onward sc f (Some b) cs c t = spread f (surely (does (listed b cs) c.state c.reward)) (under t)
onward sc f None [] c t = surely c
onward sc f None (x ∷ cs) c t =
    spread f (step_command sc x cs c.state c.reward (decision t)) (under t)

-- `guarded_runs sc n c t`: the runs of at most `n` steps from `c` under the scheduler `t`.
unfoldable pub guarded_runs : Scope → ℕ → GuardedRunner
guarded_runs sc zero c t = surely c
guarded_runs sc (suc n) c t = onward sc (guarded_runs sc n) c.chosen c.todo c t

-- The post in the state of a terminated run, otherwise 0.
abbrev pub at_end : Scope → Expression → Option BlockTree → List CommandTree → List Val → Value
at_end sc post (Some b) cs s = zeroᵛ
at_end sc post None [] s = amount sc post s
at_end sc post None (x ∷ cs) s = zeroᵛ

-- The value of a run: its reward, and the post if it has terminated.
abbrev pub guarded_worth : Scope → Expression → GuardedConfig → Value
guarded_worth sc post c = c.reward +ᵛ at_end sc post c.chosen c.todo c.state

-- The upper sum of the runs: their values, each multiplied by its weight, added up.
abbrev pub guarded_sum : Scope → Expression → GuardedOutcomes → Value
guarded_sum sc post cs = weighted_sum (guarded_worth sc post) cs

-- The upper sum of the program over its runs of at most `n` steps from the state `s`.
abbrev pub program_sum : ProgramTree → ℕ → List Val → Tree → Value
program_sum program n s tree = guarded_sum (own_scope program.declarations) program.post
    (guarded_runs (own_scope program.declarations) n (does (listed program.body []) s zeroᵛ) tree)
