-- The goals of a procedure's bound, and when each of them holds: over all states, and over all
-- choices of its forms and its encoding. Source: the verification condition of a HeyVL procedure
-- (Schroeer, Batz, Kaminski, Katoen, Matheja, OOPSLA 2023). That the formulas of a proc with `@wlp`
-- are at most 1 is required of probabilities.
use Rattle.std.specs.Prelude.{ℕ, List, [], ◌∷◌, Option, Some, None, map, if◌then◌else◌}
use Rattle.heyvl_num.specs.Value.{oneᵛ, ◌≤ᵛ◌}
use Rattle.heylo_formula.specs.Choices.{Choices}
use Rattle.heylo_formula.specs.Formula.{Form}
use Rattle.heylo_formula.specs.Goals.{Compares}
use Rattle.heylo_formula.specs.Meaning.{value}
use Rattle.heylo_formula.specs.State.{environment, IsTyped}
use Rattle.heylo_formula.specs.declared.goals.GoalId.{GoalId}
use Rattle.heylo_formula.specs.declared.goals.GoalId.TheVariants.{Main, Pre, Post, Invariant}
use Rattle.heylo_formula.specs.declared.types.Ty.{Ty}
use Rattle.heylo_formula.specs.declared.values.Val.{Val}
use Rattle.act_walks.specs.Loops.{loop_in}
use Rattle.heyvl_acts.specs.Acts.{Act, Acts, Head, TypedProcedure, Variable, variables, type_list}
use Rattle.heyvl_acts.specs.Acts.{acts_in}
use Rattle.heyvl_acts.specs.Forward.{forward}
use Rattle.heyvl_acts.specs.Places.{in_order}
use Rattle.heyvl_acts.specs.Rules.{Each, loop_numbers}
use Rattle.loop_encodings.specs.Encoding.{all_variables, encoding}

-- A goal of a bound: the main one, or that the pre, the post or the invariant of the loop with this
-- number is at most 1.
pub data BoundGoal : Type 0 where
  main : BoundGoal
  pre : BoundGoal
  post : BoundGoal
  invariant : ℕ → BoundGoal

-- The name of the goal among all goals of a procedure, which include those of rankings.
abbrev pub goal_id : BoundGoal → GoalId
goal_id BoundGoal.main = Main
goal_id BoundGoal.pre = Pre
goal_id BoundGoal.post = Post
goal_id (BoundGoal.invariant n) = Invariant n

-- The goals of a procedure's bound. A procedure with a body has the main goal; if it has `@wlp`,
-- its pre, its post and each invariant have one too.
abbrev pub bound_goals : TypedProcedure → List BoundGoal
bound_goals p = goals p.body
  where
    weak_goals : Acts → List BoundGoal
    weak_goals acts = BoundGoal.pre
        ∷ (BoundGoal.post ∷ map BoundGoal.invariant (loop_numbers (in_order acts)))

    goals : Option Acts → List BoundGoal
    goals None = []
    goals (Some acts) = BoundGoal.main ∷ (if p.weak then weak_goals acts else [])

-- The invariant of a loop, if there is one.
abbrev pub invariant_at : Option (Head × Acts) → Option Form
invariant_at (Some l) = Some l.0.inv
invariant_at None = None

-- The invariant of the loop with the number `n` among the acts.
abbrev pub invariant_in : ℕ → List Act → Option Form
invariant_in n acts = invariant_at (loop_in n acts)

-- The variables of the goal: those of the encoding for the main goal, the procedure's for the
-- others.
abbrev pub goal_variables : List TypedProcedure → TypedProcedure → BoundGoal → List Variable
goal_variables ps p BoundGoal.main = all_variables ps p
goal_variables ps p BoundGoal.pre = variables p
goal_variables ps p BoundGoal.post = variables p
goal_variables ps p (BoundGoal.invariant n) = variables p

-- If there is a formula, it is at most 1 in the state `s` for the choices `c`.
abbrev pub IsSmallThere : Option Form → List Val → Choices → Type 0
IsSmallThere None s c = Unit {0}
IsSmallThere (Some f) s c = value f (environment s) c ≤ᵛ oneᵛ

-- The goal holds in the state `s` for the choices `c` of its forms and its encoding. The main goal:
-- the pre bounds the pre-expectation of the encoded body, from above in a coproc, from below in a
-- proc.
abbrev pub GoalHoldsIn : List TypedProcedure → TypedProcedure → BoundGoal → List Val → Choices
    → Type 0
GoalHoldsIn ps p BoundGoal.main s c = Compares p.co (value p.pre (environment s) Choices.stop)
    (forward (encoding ps p) (value p.post) (environment s) c)
GoalHoldsIn ps p BoundGoal.pre s c = value p.pre (environment s) c ≤ᵛ oneᵛ
GoalHoldsIn ps p BoundGoal.post s c = value p.post (environment s) c ≤ᵛ oneᵛ
GoalHoldsIn ps p (BoundGoal.invariant n) s c =
    IsSmallThere (invariant_in n (in_order (acts_in p.body))) s c

-- The goal holds in each state of its variables, for all choices.
abbrev pub GoalHolds : List TypedProcedure → TypedProcedure → BoundGoal → Type 0
GoalHolds ps p goal = (s : List Val) (c : Choices)
    → IsTyped (type_list (goal_variables ps p goal)) s → GoalHoldsIn ps p goal s c

-- The goal fails in the state `s` of its variables, for some choices.
pub record GoalFails (ps : List TypedProcedure) (p : TypedProcedure) (goal : BoundGoal)
    (s : List Val) : Type 0 where
  pub choices : Choices
  pub state : IsTyped (type_list (goal_variables ps p goal)) s
  pub fails : GoalHoldsIn ps p goal s choices → ⊥

-- The main goal of the procedure holds.
abbrev pub IsBounded : List TypedProcedure → TypedProcedure → Type 0
IsBounded ps p = GoalHolds ps p BoundGoal.main

-- `IsAtMostOne tys f`: the formula `f` is at most 1 in each state of the types `tys`, for all
-- choices.
abbrev pub IsAtMostOne : List Ty → Form → Type 0
IsAtMostOne tys f = (s : List Val) (c : Choices) → IsTyped tys s → value f (environment s) c ≤ᵛ oneᵛ

-- All goals of the procedure's bound hold.
abbrev pub BoundGoalsHold : List TypedProcedure → TypedProcedure → Type 0
BoundGoalsHold ps p = Each (GoalHolds ps p) (bound_goals p)
