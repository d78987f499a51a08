-- Laws of the comparisons of a goal: the path of a state, and the values at its end.
use Rattle.std.specs.Prelude.{◌≡◌, List, [], false, Some, None}
use Rattle.heylo_formula.specs.Formula.{Form}
use Rattle.heylo_formula.specs.Goals.{Goal}
use Rattle.heylo_formula.specs.State.{Env, IsTyped, environment}
use Rattle.heylo_formula.specs.Choices.{Choices}
use Rattle.heylo_formula.specs.Meaning.{value}
use Rattle.heylo_formula.specs.declared.values.Val.{Val}
use Rattle.linear_form.specs.Query.{Query, Taken}
use Rattle.linear_form.specs.Query.Query.{done, bits, ask}
use Rattle.linear_values.specs.Lin.{Linear}
use Rattle.linear_form.specs.Questions.{Ends, value_in, evaluate}
use Rattle.linear_form.specs.Paths.{IsPath, Agrees, IsPathOf, end_at}
use Rattle.heylo_formula.specs.TypedGoals.{IsTypedGoal}
use Rattle.heylo_formula.specs.NumericVariables.{has_variable}

-- Each state has a path to the end that agrees with it.
abbrev pub StatesHaveAPath : Type 0
StatesHaveAPath = (g : Goal) (s : Env) → (ps : List Taken) × IsPathOf g s ps

-- Two paths to an end that agree with one state are equal.
abbrev pub PathsAreUnique : Type 0
PathsAreUnique = (g : Goal) (s : Env) (ps qs : List Taken) → IsPathOf g s ps → IsPathOf g s qs
    → ps ≡ qs

-- At an end, the two linear values are the values of the two forms in each state that agrees with
-- the path, infinity included.
abbrev pub EndsAreValues : Type 0
EndsAreValues = (g : Goal) (s : List Val) (ps : List Taken) (e : Ends) → IsTypedGoal g
    → IsTyped g.types s → IsPath g ps → Agrees (environment s) ps → end_at g ps ≡ done e
    → (value_in e.0 (environment s) ≡ value g.stated (environment s) Choices.stop)
    × (value_in e.1 (environment s) ≡ value g.found (environment s) Choices.stop)

-- `EachResult P t`: each result of the tree `t`, after any answers, has the property `P`.
abbrev pub EachResult : {A : Type 0} → (A → Type 0) → Query A → Type 0
EachResult P (done a) = P a
EachResult P bits = Unit {0}
EachResult P (ask q y n) = EachResult P y × EachResult P n

-- `IsConstant x`: the linear value `x` has no terms, or it is infinity.
abbrev pub IsConstant : Linear → Type 0
IsConstant (Some a) = a.terms ≡ []
IsConstant None = Unit {0}

-- A form without variables outside conditions has constant values after any answers.
abbrev pub ConstantWithoutVariables : Type 0
ConstantWithoutVariables = (f : Form) → has_variable f ≡ false → EachResult IsConstant (evaluate f)
