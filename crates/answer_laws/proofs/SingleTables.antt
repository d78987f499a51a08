-- A table determines one verdict, and two tables whose findings agree determine verdicts that
-- agree.
use Rattle.std.proofs.Common.{◌≡◌, ℕ, refl, sym, ap, ◌∙◌, subst, List, [], ◌∷◌}
use Rattle.std.proofs.lemmas.Bool.{false≢true}
use Rattle.std.specs.List.{AllZip}
use Rattle.std.specs.Prelude.{Option, Some, None}
use Prim.Native.Nat.{zero, suc}
use Rattle.goal_answers.specs.declared.decisions.Decision.{Decision}
use Rattle.goal_answers.specs.declared.decisions.Decision.TheVariants.{Proved, Falsified, Unknown}
use Rattle.goal_answers.specs.declared.misses.Miss.{Miss}
use Rattle.goal_answers.specs.declared.named_goals.NamedGoal.{NamedGoal}
use Rattle.heyvl_acts.specs.Acts.{Acts, TypedProcedure, procedure_at}
use Rattle.heyvl_acts.specs.Rules.{Each}
use Rattle.loop_encodings.specs.BoundGoals.{BoundGoal, bound_goals}
use Rattle.verdict_report.specs.declared.answers.Verdict.{Verdict}
use Rattle.verdict_report.specs.declared.answers.Verdict.TheVariants as verdict
use Rattle.verify_core.specs.CertifiedGoals as certified
use Rattle.verify_core.specs.GoalDecisions as decided
use Rattle.verify_core.specs.NumberedLists.{row_at}
use Rattle.verify_core.specs.Outcomes.{all_outcomes, is_falsified, is_open, is_proved, outcomes}
use Rattle.verify_core.specs.Questions.{IsGoalOf}
use Rattle.verify_core.specs.Tables.{AreBoundsFound, AreFound, GoalWith, HasFound}
use Rattle.verify_core.specs.Verdicts.{IsVerdict}
use Rattle.answer_laws.specs.SingleAnswers.{DecisionsGiveOneVerdict, MissesGiveOneVerdict}
use Rattle.answer_laws.proofs.AlikeVerdicts.{Agree, AlikeGoals, IsOrdinary, one_verdict}
use Rattle.answer_laws.specs.Named.{GoalOutcome, Outcome}
use Rattle.answer_laws.proofs.Told.{IsLawful, IsLawfulOne}

-- ---- Tables

nothing_beside : {A : Type 0} (f : A → Outcome) (R : BoundGoal → GoalWith A → Type 0) (gs : List (GoalWith A)) → AllZip R [] gs → outcomes f gs ≡ []
nothing_beside f R [] h = refl
nothing_beside f R (g ∷ gs) h = absurd h

no_goals : {A : Type 0} (f : A → Outcome) (R : BoundGoal → GoalWith A → Type 0) (p : TypedProcedure) (gs : List (GoalWith A)) → p.body ≡ None → AllZip R (bound_goals p) gs → outcomes f gs ≡ []
no_goals f R p gs e h = nothing_beside f R gs (subst (λ (o : Option Acts). AllZip R (bound_goals (record p { body = o })) gs) e h)

bare_rows : {A : Type 0} (f : A → Outcome) (Finds : NamedGoal → A → Type 0) (ps : List TypedProcedure) (k : ℕ) (qs : List TypedProcedure) (table : List (List (GoalWith A))) → AreBoundsFound Finds ps k qs table → (p : ℕ) → (procedure_at qs p).body ≡ None → row_at (all_outcomes f table) p ≡ []
bare_rows f Finds ps k [] [] h p e = refl
bare_rows f Finds ps k [] (r ∷ rs) h p e = absurd h
bare_rows f Finds ps k (q ∷ qs) [] h p e = absurd h
bare_rows {A} f Finds ps k (q ∷ qs) (r ∷ rs) h zero e = no_goals f (λ i (g : GoalWith A). HasFound (IsGoalOf ps k i) Finds g) q r e h.0
bare_rows f Finds ps k (q ∷ qs) (r ∷ rs) h (suc p) e = bare_rows f Finds ps (suc k) qs rs h.1 p e

lawful_row : {A : Type 0} (f : A → Outcome) → ((a : A) → IsLawful (f a)) → (gs : List (GoalWith A)) → Each IsLawfulOne (outcomes f gs)
lawful_row f l [] = tt
lawful_row f l (g ∷ gs) = (l g.found, lawful_row f l gs)

lawful_rows : {A : Type 0} (f : A → Outcome) → ((a : A) → IsLawful (f a)) → (table : List (List (GoalWith A))) (p : ℕ) → Each IsLawfulOne (row_at (all_outcomes f table) p)
lawful_rows f l [] p = tt
lawful_rows f l (r ∷ rs) zero = lawful_row f l r
lawful_rows f l (r ∷ rs) (suc p) = lawful_rows f l rs p

pub ordinary : {A : Type 0} (f : A → Outcome) → ((a : A) → IsLawful (f a)) → (Finds : NamedGoal → A → Type 0) (ps : List TypedProcedure) (table : List (List (GoalWith A))) → AreBoundsFound Finds ps 0 ps table → IsOrdinary ps (all_outcomes f table)
ordinary f l Finds ps table h = record { bare = λ p e. bare_rows f Finds ps 0 ps table h p e; lawful = λ p. lawful_rows f l table p }

pub decided_lawful : (d : Decision) → IsLawful (decided.outcome_of d)
decided_lawful (Proved t) = record { falsified = λ e. absurd (false≢true e); is_open = λ e. absurd (false≢true e) }
decided_lawful (Falsified s) = record { falsified = λ e. refl; is_open = λ e. refl }
decided_lawful (Unknown c) = record { falsified = λ e. refl; is_open = λ e. refl }

pub missed_lawful : (m : Option Miss) → IsLawful (certified.outcome_of m)
missed_lawful None = record { falsified = λ e. absurd (false≢true e); is_open = λ e. absurd (false≢true e) }
missed_lawful (Some m) = record { falsified = λ e. refl; is_open = λ e. refl }

-- ---- One table

abbrev Same : Outcome → Outcome → Type 0
Same o u = o ≡ u

abbrev SameVerdict : Verdict → Verdict → Type 0
SameVerdict v w = v ≡ w

itself : (os : List GoalOutcome) → AllZip (AlikeGoals Same) os os
itself [] = tt
itself (o ∷ os) = ((refl, refl), itself os)

agree_itself : Agree Same SameVerdict
agree_itself = record {
  proved_test = λ o u e. ap is_proved e;
  falsified_test = λ o u e. ap is_falsified e;
  open_test = λ o u e. ap is_open e;
  apart = λ c m e. cc;
  apart_back = λ m c e. cc;
  falsified = λ i s r e. let k : s ≡ r = cc in ap (λ x. verdict.NotVerified i x) k;
  unknown = λ i c d e. let k : c ≡ d = cc in ap (λ x. verdict.Unknown i x) k;
  missed = λ i m n e. let k : m ≡ n = cc in ap (λ x. verdict.Unchecked i x) k;
  no_body = refl;
  valid = λ why. refl;
  conditional = λ q. refl;
  verified = refl;
}

pub decisions_give_one_verdict : DecisionsGiveOneVerdict
decisions_give_one_verdict ps table h p v w a b =
    let t = ordinary decided.outcome_of decided_lawful decided.Decides ps table h in
    one_verdict Same SameVerdict agree_itself ps (all_outcomes decided.outcome_of table) (all_outcomes decided.outcome_of table) t t (λ q. itself (row_at (all_outcomes decided.outcome_of table) q)) p v w a b

pub misses_give_one_verdict : MissesGiveOneVerdict
misses_give_one_verdict ps certs table h p v w a b =
    let t = ordinary certified.outcome_of missed_lawful (certified.IsMissOf certs) ps table h in
    one_verdict Same SameVerdict agree_itself ps (all_outcomes certified.outcome_of table) (all_outcomes certified.outcome_of table) t t (λ q. itself (row_at (all_outcomes certified.outcome_of table) q)) p v w a b

-- ---- Two tables

-- The outcomes belong to findings that agree.
pub record Comes {A : Type 0} (f : A → Outcome) (S : A → A → Type 0) (o u : Outcome) : Type 0 where
  pub a : A
  pub b : A
  pub first : f a ≡ o
  pub second : f b ≡ u
  pub same : S a b

module _ {A : Type 0} (f : A → Outcome) (S : A → A → Type 0) (Finds : NamedGoal → A → Type 0) (ps : List TypedProcedure) (one : (k : ℕ) (i : BoundGoal) (g h : GoalWith A) → HasFound (IsGoalOf ps k i) Finds g → HasFound (IsGoalOf ps k i) Finds h → S g.found h.found) where
  row_alike : (k : ℕ) (ids : List BoundGoal) (gs hs : List (GoalWith A)) → AreFound (IsGoalOf ps k) Finds ids gs → AreFound (IsGoalOf ps k) Finds ids hs → AllZip (AlikeGoals (Comes f S)) (outcomes f gs) (outcomes f hs)
  row_alike k [] [] [] a b = tt
  row_alike k [] (g ∷ gs) hs a b = absurd a
  row_alike k [] [] (h ∷ hs) a b = absurd b
  row_alike k (i ∷ ids) [] hs a b = absurd a
  row_alike k (i ∷ ids) (g ∷ gs) [] a b = absurd b
  row_alike k (i ∷ ids) (g ∷ gs) (h ∷ hs) a b = ((a.0.goal.id_of ∙ sym b.0.goal.id_of, record { a = g.found; b = h.found; first = refl; second = refl; same = one k i g h a.0 b.0 }), row_alike k ids gs hs a.1 b.1)

  rows_alike : (k : ℕ) (qs : List TypedProcedure) (t u : List (List (GoalWith A))) → AreBoundsFound Finds ps k qs t → AreBoundsFound Finds ps k qs u → (p : ℕ) → AllZip (AlikeGoals (Comes f S)) (row_at (all_outcomes f t) p) (row_at (all_outcomes f u) p)
  rows_alike k [] [] [] a b p = tt
  rows_alike k [] (r ∷ t) u a b p = absurd a
  rows_alike k [] [] (s ∷ u) a b p = absurd b
  rows_alike k (q ∷ qs) [] u a b p = absurd a
  rows_alike k (q ∷ qs) (r ∷ t) [] a b p = absurd b
  rows_alike k (q ∷ qs) (r ∷ t) (s ∷ u) a b zero = row_alike k (bound_goals q) r s a.0 b.0
  rows_alike k (q ∷ qs) (r ∷ t) (s ∷ u) a b (suc p) = rows_alike (suc k) qs t u a.1 b.1 p

  pub two_tables : (V : Verdict → Verdict → Type 0) → Agree (Comes f S) V → ((a : A) → IsLawful (f a)) → (t u : List (List (GoalWith A))) → AreBoundsFound Finds ps 0 ps t → AreBoundsFound Finds ps 0 ps u → (p : ℕ) (v w : Verdict) → IsVerdict ps (all_outcomes f t) p v → IsVerdict ps (all_outcomes f u) p w → V v w
  two_tables V agree l t u a b p v w h k = one_verdict (Comes f S) V agree ps (all_outcomes f t) (all_outcomes f u) (ordinary f l Finds ps t a) (ordinary f l Finds ps u b) (λ q. rows_alike 0 ps t u a b q) p v w h k
