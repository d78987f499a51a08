-- One step of an evaluation.
use Rattle.std.specs.Prelude.{◌≡◌, ◌<◌, ℕ, List, Option, Some, None, Result, Ok, Err}
use Rattle.std.specs.declared.alloc.Global.{Global}
use Rattle.std.specs.declared.boxed.Box.{Box}
use Rattle.heylo_formula.specs.Goals.{Goal}
use Rattle.linear_form.specs.Query.{Query, Taken}
use Rattle.linear_form.specs.Questions.{Ends}
use Rattle.linear_form.specs.Paths.{IsPath}
use Rattle.linear_form.specs.Places.{IsOn}
use Rattle.linear_form.specs.internal.Run.{Evaluation, along}
use Rattle.linear_form.specs.internal.EvaluationResults.{Stops}
use Rattle.linear_form.specs.internal.Outcomes as outcomes
use Rattle.linear_form.specs.internal.Outcomes.{IsKeptResult}
use Rattle.linear_form.specs.internal.PlainParts.{outcome_of}
use Rattle.linear_form.specs.internal.Evaluations.{IsReadyEvaluation, standing, weight}
use Rattle.linear_form.specs.declared.places.Evaluation as E
use Rattle.linear_form.specs.declared.cursor.Stop.{Stop}
use Rattle.linear_form.specs.declared.cursor.Stop as S
use Rattle.linear_form.specs.declared.questions.Ask as A
use Rattle.linear_values.specs.PlainValues.{linear_of}
use Rattle.linear_form.specs.declared.operations.Came.{Came}

-- `Moves ps q i p`: if an evaluation with the remaining tree `q` that has used `i` answers is on
-- the path `ps` of a goal, so is the evaluation `p`.
pub record Moves (ps : List Taken) (q : Query Ends) (i : ℕ) (p : E.Evaluation) : Type 0 where
  pub on : (g : Goal) → IsPath g ps → IsOn g ps (record { left = q; at = i })
      → IsOn g ps (standing p)
  pub ready : IsReadyEvaluation p

-- `GoesOn ps q i w p`: the next evaluation `p` has a weight below `w`.
abbrev pub GoesOn : List Taken → Query Ends → ℕ → ℕ → E.Evaluation → Type 0
GoesOn ps q i w p = Moves ps q i p × (weight p < w)

-- `UnlessMemory e holds`: `holds`, unless memory ran out.
abbrev pub UnlessMemory : Stop → Type 0 → Type 0
UnlessMemory (S.TheVariants.Decide a) holds = holds
UnlessMemory S.TheVariants.Bits holds = holds
UnlessMemory (S.TheVariants.Memory e) holds = Unit {0}

-- `IsEnd a o`: `a` is an end with the values of the result `o`.
abbrev pub IsEnd : A.Ask → Evaluation Ends → Type 0
IsEnd (A.TheVariants.Decide q) o = ⊥
IsEnd (A.TheVariants.End x y) o = (j : ℕ) × (o ≡ Evaluation.value (linear_of x, linear_of y) j)
IsEnd A.TheVariants.Bits o = ⊥

-- `Steps ps q i w p r`: the result `r` of a step: another evaluation `p` of lower weight, or the
-- result of the evaluation along the path, with `p` still on the path.
abbrev pub Steps : List Taken → Query Ends → ℕ → ℕ → E.Evaluation
    → Result (Option (Box A.Ask Global)) Stop → Type 0
Steps ps q i w p (Ok None) = GoesOn ps q i w p
Steps ps q i w p (Ok (Some a)) = IsEnd a.value (along ps q i) × Moves ps q i p
Steps ps q i w p (Err e) = Stops e (along ps q i) × UnlessMemory e (Moves ps q i p)

-- `Comes r o`: the result `r` of the program is the result `o` of the definition, unless memory ran
-- out.
abbrev pub Comes : Result Came Stop → Evaluation outcomes.Result → Type 0
Comes (Ok r) o = o ≡ Evaluation.value (outcome_of r.outcome) r.next
Comes (Err e) o = Stops e o
