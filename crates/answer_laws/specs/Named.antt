-- Names for the types of outcomes, which are private in `verify_core`.
use Rattle.verify_core.specs.Outcomes.{is_proved, loop_answer}

abbrev domain : {A B : Type 0} → (A → B) → Type 0
domain {A} {B} f = A

-- The outcome of a goal.
abbrev pub Outcome : Type 0
Outcome = domain is_proved

-- A goal and its outcome.
abbrev pub GoalOutcome : Type 0
GoalOutcome = domain loop_answer
