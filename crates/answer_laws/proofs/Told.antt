-- The goal that a verdict reports.
use Rattle.std.proofs.Common.{◌≡◌, ◌⊎◌, refl, sym, ◌∙◌, subst, Bool, true, false, List, [], ◌∷◌, inl, inr, ⊎_elim}
use Rattle.std.proofs.lemmas.Bool.{false≢true}
use Rattle.std.specs.Option.{option_or}
use Rattle.std.specs.Prelude.{◌&&◌, Option, Some, None, if◌then◌else◌}
use Rattle.heyvl_acts.specs.Rules.{Each}
use Rattle.verify_core.specs.Outcomes.{all_proved, first_with, is_falsified, is_open, is_proved, told}
use Rattle.answer_laws.specs.Named.{GoalOutcome, Outcome}

or_cases : (a b : Option GoalOutcome) (o : GoalOutcome) → option_or a b ≡ Some o → (a ≡ Some o) ⊎ (b ≡ Some o)
or_cases None b o e = inr e
or_cases (Some x) b o e = inl e

pub same_some : {A : Type 0} (a b : A) → Some a ≡ Some b → a ≡ b
same_some a b e = cc

first_by : (P : GoalOutcome → Type 0) (test : Outcome → Bool) (x o : GoalOutcome) (b : Bool) (rest : Option GoalOutcome) → test x.outcome ≡ b → P x → (rest ≡ Some o → P o × (test o.outcome ≡ true)) → (if b then Some x else rest) ≡ Some o → P o × (test o.outcome ≡ true)
first_by P test x o true rest e p f h = subst (λ y. P y × (test y.outcome ≡ true)) (same_some x o h) (p, e)
first_by P test x o false rest e p f h = f h

first_is : (P : GoalOutcome → Type 0) (test : Outcome → Bool) (os : List GoalOutcome) (o : GoalOutcome) → Each P os → first_with test os ≡ Some o → P o × (test o.outcome ≡ true)
first_is P test [] o h e = absurd (cc)
first_is P test (x ∷ os) o h e = first_by P test x o (test x.outcome) (first_with test os) refl h.0 (λ k. first_is P test os o h.1 k) e

pub told_is : (P : GoalOutcome → Type 0) (os : List GoalOutcome) (o : GoalOutcome) → Each P os → told os ≡ Some o → P o × ((is_falsified o.outcome ≡ true) ⊎ (is_open o.outcome ≡ true))
told_is P os o h e = ⊎_elim (λ a. let f = first_is P is_falsified os o h a in (f.0, inl f.1)) (λ b. let f = first_is P is_open os o h b in (f.0, inr f.1)) (or_cases (first_with is_falsified os) (first_with is_open os) o e)

-- ---- If all goals are proved

-- An outcome that is falsified or open is not proved.
pub record IsLawful (o : Outcome) : Type 0 where
  pub falsified : is_falsified o ≡ true → is_proved o ≡ false
  pub is_open : is_open o ≡ true → is_proved o ≡ false

and_both : (a b : Bool) → (a && b) ≡ true → (a ≡ true) × (b ≡ true)
and_both true b e = (refl, e)
and_both false b e = absurd (false≢true e)

abbrev IsLawfullyProved : GoalOutcome → Type 0
IsLawfullyProved o = IsLawful o.outcome × (is_proved o.outcome ≡ true)

abbrev pub IsLawfulOne : GoalOutcome → Type 0
IsLawfulOne o = IsLawful o.outcome

each_proved : (os : List GoalOutcome) → Each IsLawfulOne os → all_proved os ≡ true → Each IsLawfullyProved os
each_proved [] l e = tt
each_proved (o ∷ os) l e = let k = and_both (is_proved o.outcome) (all_proved os) e in ((l.0, k.0), each_proved os l.1 k.1)

pub told_unproved : (os : List GoalOutcome) (o : GoalOutcome) → Each IsLawfulOne os → told os ≡ Some o → all_proved os ≡ true → ⊥
told_unproved os o l e h =
    let k = told_is IsLawfullyProved os o (each_proved os l h) e in
    ⊎_elim (λ f. false≢true (sym (k.0.0.falsified f) ∙ k.0.1)) (λ f. false≢true (sym (k.0.0.is_open f) ∙ k.0.1)) k.1
