-- The answers on a file by one way to settle goals are those by decisions, or those by
-- certificates.
use Rattle.std.proofs.Common.{◌≡◌, ℕ, refl, ap, ◌∙◌, List, [], ◌∷◌, ◌++◌, Some, None, Option}
use Rattle.std.specs.Borrow.{Bor}
use Prim.Native.Nat.{suc}
use Rattle.goal_answers.specs.declared.misses.Miss.{Miss}
use Rattle.goal_answers.specs.declared.named_goals.NamedGoal.{NamedGoal}
use Rattle.goal_answers.specs.declared.trees.GoalCert.{GoalCert}
use Rattle.heyvl_acts.specs.Acts.{TypedProcedure}
use Rattle.heyvl_acts.specs.Rules.{Each}
use Rattle.loop_encodings.specs.BoundGoals.{bound_goals}
use Rattle.verdict_report.specs.declared.answers.Answer.{Answer}
use Rattle.verify_core.specs.AnsweredProcedures.{AreAnswered}
use Rattle.verify_core.specs.CertifiedGoals.{CheckedGoal, outcome_of}
use Rattle.verify_core.specs.CheckedAnswers.{IsCheckedFile}
use Rattle.verify_core.specs.GoalDecisions.{DecidedGoal, Decides}
use Rattle.verify_core.specs.NumberedLists.{AllNumbered}
use Rattle.verify_core.specs.Outcomes.{all_outcomes, all_shown, listed, outcomes, shown, told, told_in_file}
use Rattle.verify_core.specs.Questions.{IsGoalOf}
use Rattle.verify_core.specs.Rankings.{IsRankingGoal, ranked_loops}
use Rattle.verify_core.specs.Tables.{AreFound}
use Rattle.verify_core.specs.declared.outcomes.GoalOutcome.{GoalOutcome}
use Rattle.verify_core.specs.declared.settled_goals.Way.TheVariants.{Decide, Check}
use Rattle.verify_core.specs.internal.Own.{IsWhole}
use Rattle.verify_core.specs.internal.SettledGoals.{Finds}
use Rattle.verify_core.proofs.GoalOutcomes.{told_is}

-- ---- By decisions

row_decided : {I : Type 0} (Is : I → NamedGoal → Type 0) (is : List I) (ds : List DecidedGoal) → AreFound Is (Finds Decide) is ds → AreFound Is Decides is ds
row_decided Is [] [] h = tt
row_decided Is [] (d ∷ ds) h = absurd h
row_decided Is (i ∷ is) [] h = absurd h
row_decided Is (i ∷ is) (d ∷ ds) h = (record { goal = h.0.goal; found = h.0.found.0 }, row_decided Is is ds h.1)

table_decided : {I : Type 0} (Is : ℕ → I → NamedGoal → Type 0) (ids : TypedProcedure → List I) (k : ℕ) (qs : List TypedProcedure) (table : List (List DecidedGoal)) → AllNumbered (λ n q ds. AreFound (Is n) (Finds Decide) (ids q) ds) k qs table → AllNumbered (λ n q ds. AreFound (Is n) Decides (ids q) ds) k qs table
table_decided Is ids k [] [] h = tt
table_decided Is ids k [] (r ∷ table) h = absurd h
table_decided Is ids k (q ∷ qs) [] h = absurd h
table_decided Is ids k (q ∷ qs) (r ∷ table) h = (row_decided (Is k) (ids q) r h.0, table_decided Is ids (suc k) qs table h.1)

pub is_answered : (ps : List TypedProcedure) (answers : List Answer) (made : List NamedGoal) (certs : List GoalCert) → IsWhole Decide ps answers made certs → AreAnswered ps answers made certs
is_answered ps answers made certs w = record {
  table = w.table;
  ranks = w.ranks;
  decided = table_decided (IsGoalOf ps) bound_goals 0 ps w.table w.found;
  ranks_decided = table_decided (IsRankingGoal ps) ranked_loops 0 ps w.ranks w.ranks_found;
  answers_of = w.answers_of;
  made_of = w.made_of;
  certs_of = w.certs_of;
}

-- ---- By certificates

pub is_checked : (ps : List TypedProcedure) (answers : List Answer) (given : Bor (List GoalCert)) (made : List NamedGoal) (certs : List GoalCert) → IsWhole (Check given) ps answers made certs → IsCheckedFile ps given.now answers
is_checked ps answers given made certs w = record { table = w.table; ranks = w.ranks; checked = w.found; ranks_checked = w.ranks_found; answers_of = w.answers_of }

none_of : (g : NamedGoal) (m : Option Miss) → shown (record { goal = g; outcome = outcome_of m }) ≡ []
none_of g None = refl
none_of g (Some m) = refl

abbrev IsUnshown : GoalOutcome → Type 0
IsUnshown o = shown o ≡ []

each_unshown : (cs : List CheckedGoal) → Each IsUnshown (outcomes outcome_of cs)
each_unshown [] = tt
each_unshown (c ∷ cs) = (none_of c.goal c.found, each_unshown cs)

none_shown : (os : List GoalOutcome) → Each IsUnshown os → all_shown os ≡ []
none_shown [] h = refl
none_shown (o ∷ os) h = ap (λ l. l ++ all_shown os) h.0 ∙ none_shown os h.1

told_by : (os : List GoalOutcome) (t : Option GoalOutcome) → Each IsUnshown os → told os ≡ t → all_shown (listed t) ≡ []
told_by os None h e = refl
told_by os (Some o) h e = ap (λ l. l ++ []) (told_is IsUnshown os o h e).0

none_told : (table ranks : List (List CheckedGoal)) → told_in_file (all_outcomes outcome_of table) (all_outcomes outcome_of ranks) ≡ []
none_told [] ranks = refl
none_told (cs ∷ table) [] = refl
none_told (cs ∷ table) (rs ∷ ranks) =
    let rest = told_in_file (all_outcomes outcome_of table) (all_outcomes outcome_of ranks) in
    ap (λ l. (l ++ all_shown (outcomes outcome_of rs)) ++ rest) (told_by (outcomes outcome_of cs) (told (outcomes outcome_of cs)) (each_unshown cs) refl) ∙ (ap (λ l. l ++ rest) (none_shown (outcomes outcome_of rs) (each_unshown rs)) ∙ none_told table ranks)

pub none_made : (ps : List TypedProcedure) (answers : List Answer) (given : Bor (List GoalCert)) (made : List NamedGoal) (certs : List GoalCert) → IsWhole (Check given) ps answers made certs → made ≡ []
none_made ps answers given made certs w = w.made_of ∙ none_told w.table w.ranks
