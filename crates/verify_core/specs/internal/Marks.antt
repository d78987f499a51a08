-- A mark for each procedure: whether it is not closed.
use Rattle.std.specs.Prelude.{◌<◌, ℕ, Bool, true, false, not, List, [], ◌∷◌, Option, Some, None}
use Rattle.std.specs.Prelude.{length, get_or, if◌then◌else◌}
use Rattle.heyvl_acts.specs.Acts.{TypedProcedure}
use Rattle.verdict_report.specs.declared.answers.Answer.{Answer}
use Rattle.verdict_report.specs.declared.answers.Verdict.{Verdict}
use Rattle.verdict_report.specs.declared.answers.Verdict.TheVariants as verdict
use Rattle.verify_core.specs.Verdicts.{IsClosed}
use Rattle.verify_core.specs.declared.outcomes.GoalOutcome.{GoalOutcome}

-- Whether the verdict by the procedure's own goals and kind is `Verified`.
abbrev pub is_verified : Verdict → Bool
is_verified verdict.Verified = true
is_verified verdict.NoBody = false
is_verified (verdict.Unchecked id miss) = false
is_verified (verdict.Valid why) = false
is_verified (verdict.NotVerified id s) = false
is_verified (verdict.Unknown id c) = false
is_verified (verdict.Conditional q) = false

abbrev pub is_unverified : Answer → Bool
is_unverified a = not (is_verified a.verdict)

-- The mark `true` means that the procedure `q` is not closed, `false` that it is.
abbrev pub IsMark : List TypedProcedure → List (List GoalOutcome) → ℕ → Bool → Type 0
IsMark ps table q true = IsClosed ps table q → ⊥
IsMark ps table q false = IsClosed ps table q

-- `ms` has the right mark for each procedure.
abbrev pub AreMarks : List TypedProcedure → List (List GoalOutcome) → List Bool → Type 0
AreMarks ps table ms = (q : ℕ) → q < length ps → IsMark ps table q (get_or ms q false)

-- The first of the numbers that is marked.
abbrev pub first_marked : List Bool → List ℕ → Option ℕ
first_marked ms [] = None
first_marked ms (q ∷ qs) = if get_or ms q false then Some q else first_marked ms qs
