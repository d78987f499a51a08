-- The outcome of one goal of a bound has its meaning alone.
use Rattle.std.proofs.Common.{List, [], length, subst, take, ◌<◌, ◌∷◌, ℕ}
use Rattle.std.specs.Borrow.{Bor}
use Rattle.std.specs.List.{AllZip}
use Rattle.goal_answers.specs.declared.named_goals.NamedGoal.{NamedGoal}
use Rattle.goal_answers.specs.declared.trees.GoalCert.{GoalCert}
use Rattle.heylo_formula.specs.TypedGoals.{IsGoal}
use Rattle.heyvl_acts.specs.Acts.{TypedProcedure, procedure_at}
use Rattle.heyvl_acts.specs.Rules.{Each, MeetsRules}
use Rattle.loop_encodings.proofs.exported.BoundNames.{same_goal}
use Rattle.loop_encodings.specs.BoundGoals.{BoundGoal, GoalFails, bound_goals, goal_variables}
use Rattle.verdict_report.specs.declared.answers.Answer.{Answer}
use Rattle.verify_core.specs.AnsweredProcedures.{AreAnswered}
use Rattle.verify_core.specs.CheckedAnswers.{IsCheckedFile}
use Rattle.verify_core.specs.NumberedLists.{row_at}
use Rattle.verify_core.specs.Outcomes.{all_outcomes}
use Rattle.verify_core.specs.Questions.{goal, question}
use Rattle.verify_core.specs.SingleGoals.{IsMeantAlone}
use Rattle.verify_core.specs.declared.outcomes.GoalOutcome.{GoalOutcome}
use Rattle.verify_core.specs.declared.settled_goals.Way.TheVariants.{Check, Decide}
use Rattle.verify_core.specs.internal.SettledGoals.{outcome_by}
use Rattle.verify_core.proofs.AskedGoals.{goal_is, proper}
use Rattle.verify_core.proofs.FalsifiedGoals.{falsified_in}
use Rattle.verify_core.proofs.Headlines.{proved_holds}
use Rattle.verify_core.proofs.MadeGoals.{Means}
use Rattle.verify_core.proofs.OutcomesMean.{AreOutcomes, IsBoundOutcome}
use Rattle.verify_core.proofs.PromisedAnswers.{Laws, checked_outcomes, decided_outcomes}

zip_each : {A B : Type 0} (R S : A → B → Type 0) (xs : List A) (ys : List B) → ((x : A) (y : B) → R x y → S x y) → AllZip R xs ys → AllZip S xs ys
zip_each R S [] [] f h = tt
zip_each R S [] (y ∷ ys) f h = absurd h
zip_each R S (x ∷ xs) [] f h = absurd h
zip_each R S (x ∷ xs) (y ∷ ys) f h = (f x y h.0, zip_each R S xs ys f h.1)

module _ (laws : Laws) (ps : List TypedProcedure) (rules : Each (MeetsRules ps) ps) where
  pub bound_goal_is : (p : ℕ) (asked : BoundGoal) → p < length ps → IsGoal (goal (question ps (procedure_at ps p) asked))
  bound_goal_is p asked there = goal_is laws.goals (question ps (procedure_at ps p) asked) (proper laws.formula laws.over laws.encoded ps rules p there asked)

  meant : (p : ℕ) → p < length ps → (asked : BoundGoal) (o : GoalOutcome) → IsBoundOutcome ps p asked o → IsMeantAlone ps p asked o
  meant p there asked o h =
      let q = procedure_at ps p in
      let g = goal (question ps q asked) in
      record {
        id_of = h.id_of;
        proved = λ e. (laws.say ps p asked rules there).0 (proved_holds g o.outcome h.means e);
        falsified = λ s e.
            let k = falsified_in laws.means laws.formula laws.over laws.encoded laws.failing ps rules p there asked s.items (subst (Means g) e h.means) in
            subst (λ (b : BoundGoal). GoalFails ps q b (take (length (goal_variables ps q b)) s.items)) (same_goal k.goal asked k.id_of) k.fails;
        as_shown = λ s e. subst (Means g) e h.means;
      }

  row_meant : (table ranks : List (List GoalOutcome)) → AreOutcomes ps table ranks → (p : ℕ) → p < length ps → AllZip (IsMeantAlone ps p) (bound_goals (procedure_at ps p)) (row_at table p)
  row_meant table ranks are p there = zip_each (IsBoundOutcome ps p) (IsMeantAlone ps p) (bound_goals (procedure_at ps p)) (row_at table p) (meant p there) (are.bounds p there)

  pub goals_meant : (answers : List Answer) (made : List NamedGoal) (certs : List GoalCert) (h : AreAnswered ps answers made certs) (p : ℕ) → p < length ps → AllZip (IsMeantAlone ps p) (bound_goals (procedure_at ps p)) (row_at (all_outcomes (outcome_by Decide) h.table) p)
  goals_meant answers made certs h p there = row_meant (all_outcomes (outcome_by Decide) h.table) (all_outcomes (outcome_by Decide) h.ranks) (decided_outcomes laws ps rules answers made certs h) p there

  pub checked_goals_meant : (given : Bor (List GoalCert)) (answers : List Answer) (h : IsCheckedFile ps given.now answers) (p : ℕ) → p < length ps → AllZip (IsMeantAlone ps p) (bound_goals (procedure_at ps p)) (row_at (all_outcomes (outcome_by (Check given)) h.table) p)
  checked_goals_meant given answers h p there = row_meant (all_outcomes (outcome_by (Check given)) h.table) (all_outcomes (outcome_by (Check given)) h.ranks) (checked_outcomes laws ps rules given answers h) p there
