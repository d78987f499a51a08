-- The answers on procedures by their own goals and kinds, before the procedures that they reach are
-- considered.
use Rattle.std.specs.Prelude.{◌≡◌, ◌^◌, ℕ, true, List, [], ◌∷◌, ◌++◌, None, Some, map}
use Rattle.cert_text.specs.Certificates.{IsGrowingAfter, certificates_of}
use Rattle.goal_answers.specs.declared.named_goals.NamedGoal.{NamedGoal}
use Rattle.goal_answers.specs.declared.trees.GoalCert.{GoalCert}
use Rattle.heyvl_acts.specs.Acts.{TypedProcedure, procedure_at}
use Rattle.heyvl_acts.specs.FormSizes.{FormsWithin}
use Rattle.heyvl_acts.specs.Program.{IsProgram, why_no_program}
use Rattle.heyvl_acts.specs.Rules.{Each}
use Rattle.loop_encodings.specs.BoundGoals.{bound_goals}
use Rattle.proc_contracts.specs.Reasons.{plain}
use Rattle.proc_contracts.specs.declared.reasons.WhyNot.{WhyNot}
use Rattle.verdict_report.specs.declared.answers.Answer.{Answer}
use Rattle.verdict_report.specs.declared.answers.Verdict.{Verdict}
use Rattle.verdict_report.specs.declared.answers.Verdict.TheVariants as verdict
use Rattle.verify_core.specs.NumberedLists.{AllNumbered, row_at}
use Prim.Native.Nat.{suc}
use Rattle.verify_core.specs.GoalDecisions.{certified_in_file}
use Rattle.verify_core.specs.Outcomes.{IsTold, all_outcomes, all_proved, all_shown, listed}
use Rattle.verify_core.specs.Outcomes.{loop_answer, outcomes, told, told_in_file}
use Rattle.verify_core.specs.Questions.{IsGoalOf}
use Rattle.verify_core.specs.Rankings.{IsRankingGoal, ranked_loops}
use Rattle.verify_core.specs.Tables.{AreBoundsFound, AreFound, AreRankingsFound, GoalWith}
use Rattle.verify_core.specs.Verdicts.{AreAnswers}
use Rattle.verify_core.specs.declared.outcomes.GoalOutcome.{GoalOutcome}
use Rattle.verify_core.specs.declared.outcomes.Outcome.TheVariants.{Falsified, Unknown, Missed}
use Rattle.verify_core.specs.declared.settled_goals.Way.{Way}
use Rattle.verify_core.specs.declared.settled_goals.Way.TheVariants.{Decide, Check}
use Rattle.verify_core.specs.internal.SettledGoals.{Finding, Finds, certificates_by, outcome_by}

-- What `own_answers` requires of the forms of a file to decide its goals, or of the certificates to
-- check them.
abbrev pub CanAnswer : Way → List TypedProcedure → Type 0
CanAnswer Decide ps = Each (FormsWithin (2 ^ 27)) ps
CanAnswer (Check certs) ps = IsGrowingAfter None (certificates_of certs.now)

-- ---- One procedure

-- The findings for the goals of a procedure's bound and of its rankings.
pub record Row (way : Way) : Type 0 where
  pub bounds : List (GoalWith (Finding way))
  pub rankings : List (GoalWith (Finding way))

abbrev pub bound_outcomes : (way : Way) → Row way → List GoalOutcome
bound_outcomes way r = outcomes (outcome_by way) r.bounds

abbrev pub ranking_outcomes : (way : Way) → Row way → List GoalOutcome
ranking_outcomes way r = outcomes (outcome_by way) r.rankings

-- The goals of a row whose state or cause is in an answer.
abbrev pub made_in : (way : Way) → Row way → List NamedGoal
made_in way r = all_shown (listed (told (bound_outcomes way r)))
    ++ all_shown (ranking_outcomes way r)

-- The certificates of a row. Checking by certificates yields none.
abbrev pub certs_in : (way : Way) → Row way → List GoalCert
certs_in way r = certificates_by way r.bounds ++ certificates_by way r.rankings

-- `r` is a row of the procedure `q`, whose number is `p`.
pub record IsRow (way : Way) (ps : List TypedProcedure) (p : ℕ) (q : TypedProcedure) (r : Row way)
    : Type 0 where
  pub bounds : AreFound (IsGoalOf ps p) (Finds way) (bound_goals q) r.bounds
  pub rankings : AreFound (IsRankingGoal ps p) (Finds way) (ranked_loops q) r.rankings

-- The verdict by the procedure's kind, if the goals of its bound are proved.
abbrev pub IsKindVerdict : TypedProcedure → Verdict → Type 0
IsKindVerdict q verdict.NoBody = q.body ≡ None
IsKindVerdict q (verdict.Valid why) = (q.body ≡ None → ⊥) × (why_no_program q ≡ Some (plain why))
IsKindVerdict q verdict.Verified = IsProgram q
IsKindVerdict q (verdict.NotVerified id s) = ⊥
IsKindVerdict q (verdict.Unknown id c) = ⊥
IsKindVerdict q (verdict.Unchecked id miss) = ⊥
IsKindVerdict q (verdict.Conditional p) = ⊥

-- The verdict on a procedure that is no program, if its goals are proved.
abbrev pub verdict_for : WhyNot → Verdict
verdict_for WhyNot.NoBody = verdict.NoBody
verdict_for WhyNot.NoWlp = verdict.Valid WhyNot.NoWlp
verdict_for WhyNot.Quantifier = verdict.Valid WhyNot.Quantifier
verdict_for (WhyNot.Statement span) = verdict.Valid (WhyNot.Statement span)

-- The verdict on the procedure `q` by the outcomes `os` of its own goals and by its kind.
abbrev pub IsOwnVerdict : TypedProcedure → List GoalOutcome → Verdict → Type 0
IsOwnVerdict q os verdict.NoBody = q.body ≡ None
IsOwnVerdict q os (verdict.Valid why) =
    (all_proved os ≡ true) × ((q.body ≡ None → ⊥) × (why_no_program q ≡ Some (plain why)))
IsOwnVerdict q os verdict.Verified = (all_proved os ≡ true) × IsProgram q
IsOwnVerdict q os (verdict.NotVerified id s) = IsTold os id (Falsified s)
IsOwnVerdict q os (verdict.Unknown id c) = IsTold os id (Unknown c)
IsOwnVerdict q os (verdict.Unchecked id miss) = IsTold os id (Missed miss)
IsOwnVerdict q os (verdict.Conditional p) = ⊥

-- `a` is the answer on `q` by the outcomes `os` of its bound's goals and `rs` of its rankings'
-- goals.
pub record IsAnswerBy (q : TypedProcedure) (os rs : List GoalOutcome) (a : Answer) : Type 0 where
  pub name : a.name ≡ q.name
  pub verdict : IsOwnVerdict q os a.verdict
  pub loops : a.loops.items ≡ map loop_answer rs

-- `a` is the answer on the procedure with the number `p`. Its certificates are appended to `certs`,
-- and its reported goals to `made`.
pub record IsOwnAnswer (way : Way) (ps : List TypedProcedure) (p : ℕ) (a : Answer)
    (certs certs_after : List GoalCert) (made made_after : List NamedGoal) : Type 0 where
  pub row : Row way
  pub is_row : IsRow way ps p (procedure_at ps p) row
  pub answer : IsAnswerBy (procedure_at ps p) (bound_outcomes way row) (ranking_outcomes way row) a
  pub certs_are : certs_after ≡ certs ++ certs_in way row
  pub made_are : made_after ≡ made ++ made_in way row

-- ---- A file

-- The lists that `f` makes of the items, concatenated.
abbrev pub gathered : {A B : Type 0} → (A → List B) → List A → List B
gathered f [] = []
gathered f (x ∷ xs) = f x ++ gathered f xs

-- The answers, certificates and reported goals of the procedures `qs`, the first ones of `ps`.
pub record AreOwn (way : Way) (ps qs : List TypedProcedure) (answers : List Answer)
    (certs : List GoalCert) (made : List NamedGoal) : Type 0 where
  pub rows : List (Row way)
  pub are_rows : AllNumbered (IsRow way ps) 0 qs rows
  pub answers_are : AllNumbered (λ k (r : Row way) (a : Answer).
      IsAnswerBy (procedure_at ps k) (bound_outcomes way r) (ranking_outcomes way r) a) 0 rows
      answers
  pub certs_are : certs ≡ gathered (certs_in way) rows
  pub made_are : made ≡ gathered (made_in way) rows

-- `a` is the answer on the procedure with the number `p` by the rows with this number.
abbrev pub IsOwnBy : List TypedProcedure → List (List GoalOutcome) → List (List GoalOutcome) → ℕ
    → Answer → Type 0
IsOwnBy ps table ranks p a = IsAnswerBy (procedure_at ps p) (row_at table p) (row_at ranks p) a

-- `P` holds for each item and its number. The first item has the number `p`.
abbrev pub EachNumbered : {B : Type 0} → (ℕ → B → Type 0) → ℕ → List B → Type 0
EachNumbered P p [] = Unit {0}
EachNumbered P p (y ∷ ys) = P p y × EachNumbered P (suc p) ys

-- The certificates of a file. Checking by certificates yields none.
abbrev pub file_certs : (way : Way) → List (List (GoalWith (Finding way)))
    → List (List (GoalWith (Finding way))) → List GoalCert
file_certs Decide table ranks = certified_in_file table ranks
file_certs (Check certs) table ranks = []

-- The answers on a file, the reported goals and the certificates, for some findings for its goals.
pub record IsWhole (way : Way) (ps : List TypedProcedure) (answers : List Answer)
    (made : List NamedGoal) (certs : List GoalCert) : Type 0 where
  pub table : List (List (GoalWith (Finding way)))
  pub ranks : List (List (GoalWith (Finding way)))
  pub found : AreBoundsFound (Finds way) ps 0 ps table
  pub ranks_found : AreRankingsFound (Finds way) ps 0 ps ranks
  pub answers_of : AreAnswers ps (all_outcomes (outcome_by way) table)
      (all_outcomes (outcome_by way) ranks) 0 ps answers
  pub made_of : made ≡ told_in_file (all_outcomes (outcome_by way) table)
      (all_outcomes (outcome_by way) ranks)
  pub certs_of : certs ≡ file_certs way table ranks
