-- The answers on the procedures of a file, by the outcomes of their goals. This project's own.
use Rattle.std.specs.Prelude.{◌≡◌, ◌<◌, ℕ, true, List, Some, None, map}
use Rattle.heyvl_acts.specs.Acts.{TypedProcedure, procedure_at}
use Rattle.heyvl_acts.specs.Program.{IsProgram, Reaches, why_no_program}
use Rattle.proc_contracts.specs.Reasons.{plain}
use Rattle.verdict_report.specs.declared.answers.Answer.{Answer}
use Rattle.verdict_report.specs.declared.answers.Verdict.{Verdict}
use Rattle.verdict_report.specs.declared.answers.Verdict.TheVariants as verdict
use Rattle.verify_core.specs.NumberedLists.{AllNumbered, row_at}
use Rattle.verify_core.specs.Outcomes.{IsTold, all_proved, loop_answer}
use Rattle.verify_core.specs.declared.outcomes.GoalOutcome.{GoalOutcome}
use Rattle.verify_core.specs.declared.outcomes.Outcome.TheVariants.{Falsified, Unknown, Missed}

-- `IsClosed ps table p`: the procedure with the number `p` is a program, and the goals of its bound
-- are proved by the outcomes in `table`.
pub record IsClosed (ps : List TypedProcedure) (table : List (List GoalOutcome)) (p : ℕ)
    : Type 0 where
  pub proved : all_proved (row_at table p) ≡ true
  pub program : IsProgram (procedure_at ps p)

-- `q` is the first procedure of the file that the procedure `p` reaches and that is not closed.
pub record IsFirstOpen (ps : List TypedProcedure) (table : List (List GoalOutcome)) (p q : ℕ)
    : Type 0 where
  pub reached : Reaches ps p q
  pub is_open : IsClosed ps table q → ⊥
  pub closed_before : (r : ℕ) → r < q → Reaches ps p r → IsClosed ps table r

-- The verdict on the procedure with the number `p`, by the first case that applies. It has no body:
-- `NoBody`. A goal of its bound is falsified: `NotVerified` with the first such goal. A goal is
-- open: `Unknown` with a cause, or `Unchecked` with what the certificates lack. It is no program:
-- `Valid` with the reason. It reaches a procedure that is not closed: `Conditional` on the first
-- one. Otherwise it is `Verified`.
abbrev pub IsVerdict : List TypedProcedure → List (List GoalOutcome) → ℕ → Verdict → Type 0
IsVerdict ps table p verdict.NoBody = (procedure_at ps p).body ≡ None
IsVerdict ps table p (verdict.NotVerified id s) = IsTold (row_at table p) id (Falsified s)
IsVerdict ps table p (verdict.Unknown id c) = IsTold (row_at table p) id (Unknown c)
IsVerdict ps table p (verdict.Unchecked id miss) = IsTold (row_at table p) id (Missed miss)
IsVerdict ps table p (verdict.Valid why) = (all_proved (row_at table p) ≡ true)
    × (((procedure_at ps p).body ≡ None → ⊥)
    × (why_no_program (procedure_at ps p) ≡ Some (plain why)))
IsVerdict ps table p (verdict.Conditional q) = IsClosed ps table p × IsFirstOpen ps table p q
IsVerdict ps table p verdict.Verified =
    IsClosed ps table p × ((q : ℕ) → Reaches ps p q → IsClosed ps table q)

-- `a` is the answer on the procedure with the number `p`: its verdict by the outcomes in `table`,
-- and a verdict on each ranking by the outcome of its goal in `ranks`.
pub record IsAnswer (ps : List TypedProcedure) (table ranks : List (List GoalOutcome)) (p : ℕ)
    (a : Answer) : Type 0 where
  pub name : a.name ≡ (procedure_at ps p).name
  pub verdict : IsVerdict ps table p a.verdict
  pub loops : a.loops.items ≡ map loop_answer (row_at ranks p)

-- `answers` has one answer for each procedure of `qs`, whose first one has the number `p`.
abbrev pub AreAnswers : List TypedProcedure → List (List GoalOutcome) → List (List GoalOutcome) → ℕ
    → List TypedProcedure → List Answer → Type 0
AreAnswers ps table ranks p qs answers =
    AllNumbered (λ k (q : TypedProcedure) (a : Answer). IsAnswer ps table ranks k a) p qs answers
