-- Omega invariants: lower bounds, for each m, on the expected post of the runs that terminate
-- within m iterations. Source: omega-invariants of weakest preexpectations (McIver and Morgan,
-- Abstraction, Refinement and Proof for Probabilistic Systems, 2005); that the number of iterations
-- is a variable of one formula is this project's own.
use Rattle.std.specs.Prelude.{◌≤◌, ◌<◌, ℕ, List, length, pos, if◌then◌else◌}
use Prim.Native.Nat.{suc}
use Rattle.heyvl_num.specs.Rational.{ratio}
use Rattle.heyvl_num.specs.Value.{zeroᵛ, ◌≤ᵛ◌}
use Rattle.heylo_formula.specs.Choices.{Choices}
use Rattle.heylo_formula.specs.Formula.{Form}
use Rattle.heylo_formula.specs.Meaning.{value, holds}
use Rattle.heylo_formula.specs.State.{Env, put, environment}
use Rattle.heylo_formula.specs.declared.values.Val.{Val}
use Rattle.heylo_formula.specs.declared.values.Val.TheVariants.{Num}
use Rattle.heyvl_acts.specs.Acts.{Head, Acts, TypedProcedure, variables, procedure_at}
use Rattle.heyvl_acts.specs.Forward.{forward}
use Rattle.heyvl_acts.specs.Rules.{Each, MeetsRules}
use Rattle.run_machine.specs.Bound.{IsState}
use Rattle.run_machine.specs.Runs.{runs}
use Rattle.run_machine.specs.Scheduler.{Tree}
use Rattle.lower_rules.specs.CollectedSums.{at_loop, collected}
use Rattle.lower_goals.specs.OneLoop.{OneLoop, steps}

-- A number of iterations as the value of a variable.
abbrev pub turns_value : ℕ → Val
turns_value m = Num (ratio (pos m) 1)

-- The environment in which the variable `n`, which no act uses, is the number of iterations `m`.
abbrev pub with_turns : ℕ → ℕ → Env → Env
with_turns n m s = put n (turns_value m) s

-- The formula `f` is an omega invariant. Its number of iterations is the variable after the
-- procedure's own. With no iteration left, it is at most 0 while the guard holds, otherwise at most
-- the pre-expectation of the acts after the loop. With one more iteration, it is at most its own
-- pre-expectation over the body while the guard holds, otherwise again at most that of the acts
-- after the loop.
pub record IsOmega (p : TypedProcedure) (h : Head) (body behind : Acts) (f : Form) : Type 0 where
  pub base : (s : List Val) (c : Choices) → IsState p s
      → value f (with_turns (length (variables p)) 0 (environment s)) Choices.stop
      ≤ᵛ (if holds h.guard (environment s) Choices.stop then zeroᵛ
      else forward behind (value p.post) (environment s) c)
  pub turn : (s : List Val) (c : Choices) (m : ℕ) → IsState p s
      → value f (with_turns (length (variables p)) (suc m) (environment s)) Choices.stop
      ≤ᵛ (if holds h.guard (environment s) Choices.stop
      then forward body (λ t d. value f (with_turns (length (variables p)) m t) Choices.stop)
      (environment s) c else forward behind (value p.post) (environment s) c)

-- From the state `s` of the procedure, for every `m`, every `n` from `steps`(m) on and every
-- scheduler: the expected post of the runs that terminate within `m` iterations, from the loop's
-- test on, is at least the formula with `m` iterations.
abbrev pub BoundsFrom : List TypedProcedure → (p : ℕ) → (front body behind : Acts) → Head → Form
    → List Val → Type 0
BoundsFrom ps p front body behind h f s = (m n : ℕ) → steps front body behind m ≤ n → (t : Tree)
    → value f (with_turns (length (variables (procedure_at ps p))) m (environment s)) Choices.stop
    ≤ᵛ collected m h.number (procedure_at ps p).post (runs ps n (at_loop p h body behind s) t)

-- An omega invariant bounds the runs from each state, for each number of iterations, under every
-- scheduler.
abbrev pub OmegaBoundsRuns : Type 0
OmegaBoundsRuns = (ps : List TypedProcedure) (p : ℕ) → Each (MeetsRules ps) ps → p < length ps
    → (l : OneLoop (procedure_at ps p)) (f : Form)
    → IsOmega (procedure_at ps p) l.head l.body l.behind f → (s : List Val)
    → IsState (procedure_at ps p) s → BoundsFrom ps p l.front l.body l.behind l.head f s
