-- The answer on an omega pair, and what the answers promise. This project's own.
use Rattle.std.specs.Option.{unwrap_or}
use Rattle.std.specs.Prelude.{◌≡◌, ℕ, false, List, Option, Some, None, length, take}
use Rattle.goal_answers.specs.declared.decisions.Decision.{Decision}
use Rattle.goal_answers.specs.declared.decisions.Decision.TheVariants as decision
use Rattle.heylo_formula.specs.declared.values.Val.{Val}
use Rattle.heyvl_acts.specs.Acts.{TypedProcedure, procedure_at, type_list, variables}
use Rattle.region_split.specs.Meanings as meaning
use Rattle.run_machine.specs.Bound.{IsState}
use Rattle.vp_generator.specs.PrenexedGoals.{FailsByChoices}
use Rattle.lower_rules.specs.Omega.{BoundsFrom}
use Rattle.lower_goals.specs.OmegaGoals.{goal_variables, greater, limited, smaller, step_goal}
use Rattle.lower_goals.specs.OmegaPairs.{OmegaPair, formula_of}
use Rattle.lower_rules.specs.LimitedDecisions.{IsDecidedWithin}
use Rattle.lower_goals.specs.declared.answers.Omega.{Omega}
use Rattle.lower_goals.specs.declared.answers.Omega.TheVariants.{Holds, Fails, Unknown, Shape}
use Rattle.lower_goals.specs.declared.answers.Step.{Step}
use Rattle.lower_goals.specs.declared.answers.Step.TheVariants.{One, Base, Turn}

-- ---- The answer

-- `d` is the decision of the goal of the step.
abbrev pub IsStepDecided : (p q : TypedProcedure) → OmegaPair p q → Step → Decision → Type 0
IsStepDecided p q l step d = IsDecidedWithin
    (step_goal p l.loop.head l.loop.body l.loop.behind q step)
    (limited p l.loop.body l.loop.behind (formula_of p l.loop.head q) step) d

-- The answer for a falsified goal.
abbrev pub if_falsified : Step → Decision → Option Omega
if_falsified step (decision.Falsified s) = Some (Fails step s)
if_falsified step (decision.Proved t) = None
if_falsified step (decision.Unknown c) = None

-- The answer for an undecided goal.
abbrev pub if_unknown : Step → Decision → Option Omega
if_unknown step (decision.Unknown c) = Some (Unknown step c)
if_unknown step (decision.Proved t) = None
if_unknown step (decision.Falsified s) = None

-- The answer for the decisions of the three goals: the first goal that is falsified; if none is,
-- the first undecided goal; otherwise `Holds`.
abbrev pub told : Decision → Decision → Decision → Omega
told one base turn = unwrap_or (if_falsified One one)
    (unwrap_or (if_falsified Base base)
    (unwrap_or (if_falsified Turn turn)
    (unwrap_or (if_unknown One one)
    (unwrap_or (if_unknown Base base) (unwrap_or (if_unknown Turn turn) Holds)))))

-- The procedures are an omega pair, and the answer is that for the decisions of its three goals.
pub record IsTold (p q : TypedProcedure) (answer : Omega) : Type 0 where
  pub pair : OmegaPair p q
  pub one : Decision
  pub base : Decision
  pub turn : Decision
  pub one_is : IsStepDecided p q pair One one
  pub base_is : IsStepDecided p q pair Base base
  pub turn_is : IsStepDecided p q pair Turn turn
  pub is_told : answer ≡ told one base turn

-- The answer on the procedures `p` and `q` of a file: `Shape` exactly if they are no omega pair,
-- otherwise as `told` gives it.
abbrev pub IsOmegaAnswer : List TypedProcedure → ℕ → ℕ → Omega → Type 0
IsOmegaAnswer ps p q Shape = OmegaPair (procedure_at ps p) (procedure_at ps q) → ⊥
IsOmegaAnswer ps p q Holds = IsTold (procedure_at ps p) (procedure_at ps q) Holds
IsOmegaAnswer ps p q (Fails step s) = IsTold (procedure_at ps p) (procedure_at ps q) (Fails step s)
IsOmegaAnswer ps p q (Unknown step c) =
    IsTold (procedure_at ps p) (procedure_at ps q) (Unknown step c)

-- ---- Promises of the answers

-- For each m, the formula bounds the expected post of the runs that terminate within m iterations
-- from below, from the loop's test on, from each state and under every scheduler.
pub record OmegaHolds (ps : List TypedProcedure) (p q : ℕ) : Type 0 where
  pub pair : OmegaPair (procedure_at ps p) (procedure_at ps q)
  pub bounds : (s : List Val) → IsState (procedure_at ps p) s
      → BoundsFrom ps p pair.loop.front pair.loop.body pair.loop.behind pair.loop.head
      (formula_of (procedure_at ps p) pair.loop.head (procedure_at ps q)) s

-- The goal of the step fails by the meaning of formulas. The first values of `s` are a state of the
-- first procedure and a number of iterations, in which the smaller side is above the larger one for
-- some choices. The goal is also false with all values of `s`, where those after the variables are
-- the values of the binders.
pub record StepFails (p q : TypedProcedure) (step : Step) (s : List Val) : Type 0 where
  pub pair : OmegaPair p q
  pub fails : FailsByChoices false (type_list (goal_variables p pair.loop.head q))
      (smaller (length (variables p)) (formula_of p pair.loop.head q) step)
      (greater p pair.loop.head pair.loop.body pair.loop.behind
      (formula_of p pair.loop.head q) step)
      (take (length (type_list (goal_variables p pair.loop.head q))) s)
  pub as_shown : meaning.Fails (step_goal p pair.loop.head pair.loop.body pair.loop.behind q step) s

-- If the answer is `Fails`, the goal fails in the reported state.
abbrev pub ShownStateFails : List TypedProcedure → ℕ → ℕ → Omega → Type 0
ShownStateFails ps p q Holds = Unit {0}
ShownStateFails ps p q (Fails step s) =
    StepFails (procedure_at ps p) (procedure_at ps q) step s.items
ShownStateFails ps p q (Unknown step c) = Unit {0}
ShownStateFails ps p q Shape = Unit {0}
