-- The goals of a file with what was found of each, in tables with a row for each procedure. This
-- project's own.
use Rattle.std.specs.List.{AllZip}
use Rattle.std.specs.Prelude.{ℕ, List}
use Rattle.goal_answers.specs.declared.named_goals.NamedGoal.{NamedGoal}
use Rattle.heyvl_acts.specs.Acts.{TypedProcedure}
use Rattle.loop_encodings.specs.BoundGoals.{bound_goals}
use Rattle.verify_core.specs.NumberedLists.{AllNumbered}
use Rattle.verify_core.specs.Questions.{IsGoalOf}
use Rattle.verify_core.specs.Rankings.{IsRankingGoal, ranked_loops}

-- A goal, or the limit that its form passes, and what was found of it: a decision, or the result of
-- a check.
pub record GoalWith (A : Type 0) : Type 0 where
  pub goal : NamedGoal
  pub found : A

-- `Is` holds for the goal of `g`, and `Finds` for this goal and what was found of it.
pub record HasFound {A : Type 0} (Is : NamedGoal → Type 0) (Finds : NamedGoal → A
    → Type 0) (g : GoalWith A) : Type 0 where
  pub goal : Is g.goal
  pub found : Finds g.goal g.found

-- The goals `gs` are those named `is`, in their order, each with a finding that `Finds` allows.
abbrev pub AreFound : {I A : Type 0} → (I → NamedGoal → Type 0) → (NamedGoal → A → Type 0) → List I
    → List (GoalWith A) → Type 0
AreFound {I} {A} Is Finds is gs = AllZip (λ i (g : GoalWith A). HasFound (Is i) Finds g) is gs

-- `AreBoundsFound Finds ps p qs table`: `table` has for each of the procedures `qs`, numbered from
-- `p` on, the goals of its bound, each with a finding that `Finds` allows.
abbrev pub AreBoundsFound : {A : Type 0} → (NamedGoal → A → Type 0) → List TypedProcedure → ℕ
    → List TypedProcedure → List (List (GoalWith A)) → Type 0
AreBoundsFound {A} Finds ps p qs table = AllNumbered
    (λ k (q : TypedProcedure) (gs : List (GoalWith A)).
    AreFound (IsGoalOf ps k) Finds (bound_goals q) gs) p qs table

-- `AreRankingsFound Finds ps p qs table`: `table` has for each of the procedures `qs`, numbered
-- from `p` on, the goals of its rankings, each with a finding that `Finds` allows.
abbrev pub AreRankingsFound : {A : Type 0} → (NamedGoal → A → Type 0) → List TypedProcedure → ℕ
    → List TypedProcedure → List (List (GoalWith A)) → Type 0
AreRankingsFound {A} Finds ps p qs table = AllNumbered
    (λ k (q : TypedProcedure) (gs : List (GoalWith A)).
    AreFound (IsRankingGoal ps k) Finds (ranked_loops q) gs) p qs table
