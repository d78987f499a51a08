-- The texts of answers on omega pairs. This project's own.
use Rattle.goal_answers.specs.declared.causes.Cause.{Cause}
use Rattle.heylo_formula.specs.declared.goals.Made.{Made}
use Rattle.heylo_formula.specs.declared.values.Val.{Val}
use Rattle.heyvl_acts.specs.Acts.{TypedProcedure, procedure_at}
use Rattle.lower_goals.specs.OmegaGoals.{limited, step_goal}
use Rattle.lower_goals.specs.OmegaPairs.{OmegaPair, formula_of, places}
use Rattle.lower_goals.specs.LimitedGoals.{IsMadeFor}
use Rattle.lower_goals.specs.declared.answers.Omega.TheVariants.{Fails, Holds, Shape, Unknown}
use Rattle.lower_goals.specs.declared.answers.Omega.{Omega}
use Rattle.lower_goals.specs.declared.answers.Step.TheVariants.{Base, One, Turn}
use Rattle.lower_goals.specs.declared.answers.Step.{Step}
use Rattle.verdict_report.specs.GoalNames.{names_of_made}
use Rattle.lower_texts.specs.PlacedCauses.{placed}
use Rattle.std.specs.Prelude.{List, codes, length, ◌++◌, ◌≡◌, ℕ}
use Rattle.verdict_report.specs.Causes.{cause_text}
use Rattle.verdict_report.specs.States.{state_text}

-- The name of the goal of a step.
abbrev pub step_text : Step → List ℕ
step_text One = codes "at most 1"
step_text Base = codes "base"
step_text Turn = codes "turn"

-- `P: omega: holds`
abbrev pub holds_text : List ℕ → List ℕ
holds_text name = name ++ codes ": omega: holds\n"

-- `P: omega: WHAT (STEP): WHY`, for the goal of a step.
abbrev pub step_line : List ℕ → List ℕ → Step → List ℕ → List ℕ
step_line name what step why = name ++ codes ": omega: " ++ what ++ codes " (" ++ step_text step
    ++ codes "): " ++ why ++ codes "\n"

-- The line on procedures that are no omega pair.
abbrev pub no_omega_pair_text : List ℕ
no_omega_pair_text = codes "not an omega pair\n"

-- `m` is the goal of a step of an omega pair, or the limit that one of its forms exceeds.
abbrev pub IsStepMade : (ps : List TypedProcedure) (p q : ℕ)
    → OmegaPair (procedure_at ps p) (procedure_at ps q) → Step → Made → Type 0
IsStepMade ps p q l step m =
    IsMadeFor (step_goal (procedure_at ps p) l.loop.head l.loop.body l.loop.behind
    (procedure_at ps q) step)
    (limited (procedure_at ps p) l.loop.body l.loop.behind
    (formula_of (procedure_at ps p) l.loop.head (procedure_at ps q)) step) m

-- If the answer has a state or a cause, the procedures are an omega pair.
abbrev pub HasPair : List TypedProcedure → ℕ → ℕ → Omega → Type 0
HasPair ps p q Holds = Unit {0}
HasPair ps p q (Fails step s) = OmegaPair (procedure_at ps p) (procedure_at ps q)
HasPair ps p q (Unknown step cause) = OmegaPair (procedure_at ps p) (procedure_at ps q)
HasPair ps p q Shape = Unit {0}

-- The line on a falsified goal. Of the state it shows the values of the variables of the loop's
-- scope, of the number of iterations, which has the name of the second procedure's last input, and
-- of the binders that are neither 0 nor false.
pub record IsFailsText (ps : List TypedProcedure) (p q : ℕ) (step : Step) (s : List Val)
    (text : List ℕ) : Type 0 where
  pub pair : OmegaPair (procedure_at ps p) (procedure_at ps q)
  pub made : Made
  pub is_made : IsStepMade ps p q pair step made
  pub is : text ≡ step_line (procedure_at ps p).name (codes "fails") step
      (state_text (names_of_made made) (places (procedure_at ps p) pair.loop.head) s)

-- `IsUnknownText bytes ps p q step cause text`: `text` is the line on the goal of `step` for the
-- omega pair `p` and `q`, if `cause` leaves it undecided. `bytes` are those of the file.
pub record IsUnknownText (bytes : List ℕ) (ps : List TypedProcedure) (p q : ℕ) (step : Step)
    (cause : Cause) (text : List ℕ) : Type 0 where
  pub pair : OmegaPair (procedure_at ps p) (procedure_at ps q)
  pub made : Made
  pub is_made : IsStepMade ps p q pair step made
  pub is : text ≡ step_line (procedure_at ps p).name (codes "unknown") step
      (cause_text bytes (names_of_made made) (placed (length bytes) cause))

-- `IsOmegaText bytes ps p q answer text`: `text` is the line on `answer` for the procedures with
-- the numbers `p` and `q`.
abbrev pub IsOmegaText : List ℕ → List TypedProcedure → ℕ → ℕ → Omega → List ℕ → Type 0
IsOmegaText bytes ps p q Holds text = text ≡ holds_text (procedure_at ps p).name
IsOmegaText bytes ps p q (Fails step s) text = IsFailsText ps p q step s.items text
IsOmegaText bytes ps p q (Unknown step cause) text = IsUnknownText bytes ps p q step cause text
IsOmegaText bytes ps p q Shape text = text ≡ no_omega_pair_text
