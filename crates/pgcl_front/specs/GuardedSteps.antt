-- The steps of guarded commands, defined without the acts of HeyVL. Skip, an assignment, a tick, a
-- test of an `if` or `while`, and a nondeterministic choice take one step. A probabilistic choice
-- takes two: the first chooses a block, the second enters it. Source: the operational reading of
-- the guarded command language with probabilistic and nondeterministic choice (McIver and Morgan,
-- Abstraction, Refinement and Proof for Probabilistic Systems, 2005), in this project's own words.
use Rattle.heylo_formula.specs.declared.values.Val.{Val}
use Rattle.heyvl_num.specs.Rational.{Rational, oneʳ, ◌-ʳ◌}
use Rattle.heyvl_num.specs.Value.{Value, ◌+ᵛ◌}
use Rattle.typed_expressions.specs.Scopes.{Scope}
use Rattle.pgcl_front.specs.Readings.{amount, chance, index_in, is_true, new_value}
use Rattle.guarded_commands.specs.Programs.{BlockTree, CommandTree}
use Rattle.run_machine.specs.Step.{Decision, side_of}
use Rattle.std.specs.Prelude.{List, None, Option, Some, [], if◌then◌else◌, set, ◌∷◌}

-- A configuration of a run: the block that was chosen and is entered next, if there is one; the
-- commands to do after it, the next one first; the value of each declared variable; and the reward
-- so far. The run has terminated if there is nothing to enter or to do.
pub record GuardedConfig : Type 0 where
  pub chosen : Option BlockTree
  pub todo : List CommandTree
  pub state : List Val
  pub reward : Value

-- Configurations with their probabilities.
abbrev pub GuardedOutcomes : Type 0
GuardedOutcomes = List (Rational × GuardedConfig)

-- The commands of a block, followed by `cs`.
abbrev pub listed : BlockTree → List CommandTree → List CommandTree
listed BlockTree.done cs = cs
listed (BlockTree.next c rest) cs = c ∷ listed rest cs

-- The configuration in which the commands `cs` are to do.
abbrev pub does : List CommandTree → List Val → Value → GuardedConfig
does cs s r = record { chosen = None; todo = cs; state = s; reward = r }

-- The configuration in which the block `b` is to be entered, and then the commands `cs` are to do.
abbrev pub enters : BlockTree → List CommandTree → List Val → Value → GuardedConfig
enters b cs s r = record { chosen = Some b; todo = cs; state = s; reward = r }

-- The configuration `c` with probability 1.
abbrev pub surely : GuardedConfig → GuardedOutcomes
surely c = (oneʳ, c) ∷ []

-- `step_command sc c cs s r d`: the outcomes of a step of the command `c`, which the commands `cs`
-- follow, in the state `s`, with the reward `r` so far and under the decision `d`.
abbrev pub step_command : Scope → CommandTree → List CommandTree → List Val → Value → Decision
    → GuardedOutcomes
-- skip;
step_command sc (CommandTree.skip p) cs s r d = surely (does cs s r)
-- x := e;
step_command sc (CommandTree.assign x e p) cs s r d =
    surely (does cs (set s (index_in sc x) (new_value sc e s)) r)
-- tick(e);
step_command sc (CommandTree.tick e p) cs s r d = surely (does cs s (r +ᵛ amount sc e s))
-- if (g) P else Q
step_command sc (CommandTree.branch g a b p) cs s r d =
    surely (does (listed (if is_true sc g s then a else b) cs) s r)
-- P [q] Q
step_command sc (CommandTree.mix q a b p) cs s r d =
    (chance sc q s, enters a cs s r) ∷ (oneʳ -ʳ chance sc q s, enters b cs s r) ∷ []
-- P [] Q, where the decision `left` takes P
step_command sc (CommandTree.choice a b p) cs s r d =
    surely (does (listed (if side_of d then a else b) cs) s r)
-- while (g) [I] P, where the invariant does nothing
step_command sc (CommandTree.repeat g i a p) cs s r d =
    surely (does (if is_true sc g s then listed a (CommandTree.repeat g i a p ∷ cs) else cs) s r)
