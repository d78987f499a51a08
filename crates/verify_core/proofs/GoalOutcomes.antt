-- Lists of outcomes: the goal that a verdict reports, and whether all are proved.
use Rattle.std.proofs.Common.{◌≡◌, ◌⊎◌, ℕ, refl, sym, ap, ◌∙◌, subst, append-nil, append_assoc, Bool, true, false, List, [], ◌∷◌, ◌++◌, length, map, inl, inr, ⊎_elim}
use Rattle.std.proofs.lemmas.Bool.{false≢true}
use Rattle.std.proofs.lemmas.List.{map-append}
use Rattle.std.specs.Option.{option_or}
use Rattle.std.specs.Prelude.{◌&&◌, Option, Some, None, if◌then◌else◌}
use Rattle.goal_answers.specs.declared.named_goals.NamedGoal.{NamedGoal}
use Rattle.heylo_formula.specs.GoalOrder.{loop_of}
use Rattle.heyvl_acts.specs.Rules.{Each}
use Rattle.verdict_report.specs.declared.answers.LoopAnswer.{LoopAnswer}
use Rattle.verify_core.specs.Outcomes.{all_proved, all_shown, first_with, is_falsified, is_open, is_proved, loop_answer, rank_of, shown, told}
use Rattle.verify_core.specs.declared.outcomes.GoalOutcome.{GoalOutcome}
use Rattle.verify_core.specs.declared.outcomes.Outcome.{Outcome}
use Rattle.verify_core.specs.declared.outcomes.Outcome.TheVariants.{Proved, Falsified, Unknown, Missed}

pub nothing_left : {A : Type 0} (n : ℕ) (xs : List A) → n ≡ length xs → n ≡ 0 → xs ≡ []
nothing_left n [] e z = refl
nothing_left n (x ∷ xs) e z = absurd (cc)

-- ---- The first goal with an outcome

or_none : (kept : Option GoalOutcome) → option_or kept None ≡ kept
or_none None = refl
or_none (Some o) = refl

or_found : (kept : Option GoalOutcome) (o : GoalOutcome) (rest : Option GoalOutcome) → option_or (option_or kept (Some o)) rest ≡ option_or kept (Some o)
or_found None o rest = refl
or_found (Some x) o rest = refl

pub found_next : (test : Outcome → Bool) (kept now : Option GoalOutcome) (o : GoalOutcome) (zs ys : List GoalOutcome) (all : Option GoalOutcome) → zs ≡ o ∷ ys → test o.outcome ≡ true → now ≡ option_or kept (Some o) → option_or kept (first_with test zs) ≡ all → option_or now (first_with test ys) ≡ all
found_next test kept now o zs ys all z e n h =
    ap (λ k. option_or k (first_with test ys)) n
    ∙ (or_found kept o (first_with test ys)
    ∙ (ap (λ b. option_or kept (if b then Some o else first_with test ys)) (sym e)
    ∙ (ap (λ l. option_or kept (first_with test l)) (sym z) ∙ h)))

pub passed_next : (test : Outcome → Bool) (kept : Option GoalOutcome) (o : GoalOutcome) (zs ys : List GoalOutcome) (all : Option GoalOutcome) → zs ≡ o ∷ ys → test o.outcome ≡ false → option_or kept (first_with test zs) ≡ all → option_or kept (first_with test ys) ≡ all
passed_next test kept o zs ys all z e h = ap (λ b. option_or kept (if b then Some o else first_with test ys)) (sym e) ∙ (ap (λ l. option_or kept (first_with test l)) (sym z) ∙ h)

pub found_last : (test : Outcome → Bool) (kept : Option GoalOutcome) (zs : List GoalOutcome) (all : Option GoalOutcome) → zs ≡ [] → option_or kept (first_with test zs) ≡ all → kept ≡ all
found_last test kept zs all z h = sym (or_none kept) ∙ (ap (λ l. option_or kept (first_with test l)) (sym z) ∙ h)

pub falsified_not_open : (o : Outcome) → is_falsified o ≡ true → is_open o ≡ false
falsified_not_open Proved e = refl
falsified_not_open (Falsified s) e = refl
falsified_not_open (Unknown c) e = absurd (false≢true e)
falsified_not_open (Missed m) e = absurd (false≢true e)

-- ---- The reported goal

or_cases : (a b : Option GoalOutcome) (o : GoalOutcome) → option_or a b ≡ Some o → (a ≡ Some o) ⊎ (b ≡ Some o)
or_cases None b o e = inr e
or_cases (Some x) b o e = inl e

same_some : {A : Type 0} (a b : A) → Some a ≡ Some b → a ≡ b
same_some a b e = cc

first_by : (P : GoalOutcome → Type 0) (test : Outcome → Bool) (x o : GoalOutcome) (b : Bool) (rest : Option GoalOutcome) → test x.outcome ≡ b → P x → (rest ≡ Some o → P o × (test o.outcome ≡ true)) → (if b then Some x else rest) ≡ Some o → P o × (test o.outcome ≡ true)
first_by P test x o true rest e p f h = subst (λ y. P y × (test y.outcome ≡ true)) (same_some x o h) (p, e)
first_by P test x o false rest e p f h = f h

first_is : (P : GoalOutcome → Type 0) (test : Outcome → Bool) (os : List GoalOutcome) (o : GoalOutcome) → Each P os → first_with test os ≡ Some o → P o × (test o.outcome ≡ true)
first_is P test [] o h e = absurd (cc)
first_is P test (x ∷ os) o h e = first_by P test x o (test x.outcome) (first_with test os) refl h.0 (λ k. first_is P test os o h.1 k) e

falsified_unproved : (o : Outcome) → is_falsified o ≡ true → is_proved o ≡ false
falsified_unproved Proved e = absurd (false≢true e)
falsified_unproved (Falsified s) e = refl
falsified_unproved (Unknown c) e = refl
falsified_unproved (Missed m) e = refl

open_unproved : (o : Outcome) → is_open o ≡ true → is_proved o ≡ false
open_unproved Proved e = absurd (false≢true e)
open_unproved (Falsified s) e = refl
open_unproved (Unknown c) e = refl
open_unproved (Missed m) e = refl

pub told_is : (P : GoalOutcome → Type 0) (os : List GoalOutcome) (o : GoalOutcome) → Each P os → told os ≡ Some o → P o × (is_proved o.outcome ≡ false)
told_is P os o h e = ⊎_elim (λ a. let f = first_is P is_falsified os o h a in (f.0, falsified_unproved o.outcome f.1)) (λ b. let f = first_is P is_open os o h b in (f.0, open_unproved o.outcome f.1)) (or_cases (first_with is_falsified os) (first_with is_open os) o e)

unit_each : (os : List GoalOutcome) → Each (λ o. Unit {0}) os
unit_each [] = tt
unit_each (o ∷ os) = (tt, unit_each os)

pub proved_untold : (os : List GoalOutcome) (o : GoalOutcome) → told os ≡ Some o → o.outcome ≡ Proved → ⊥
proved_untold os o e h = false≢true (sym (told_is (λ x. Unit {0}) os o (unit_each os) e).1 ∙ ap is_proved h)

-- ---- All are proved

and_both : (a b : Bool) → (a && b) ≡ true → (a ≡ true) × (b ≡ true)
and_both true b e = (refl, e)
and_both false b e = absurd (false≢true e)

abbrev pub IsProvedOne : GoalOutcome → Type 0
IsProvedOne o = is_proved o.outcome ≡ true

pub each_proved : (os : List GoalOutcome) → all_proved os ≡ true → Each IsProvedOne os
each_proved [] e = tt
each_proved (o ∷ os) e = let k = and_both (is_proved o.outcome) (all_proved os) e in (k.0, each_proved os k.1)

pub told_unproved : (os : List GoalOutcome) (o : GoalOutcome) → told os ≡ Some o → all_proved os ≡ true → ⊥
told_unproved os o e h = let k = told_is IsProvedOne os o (each_proved os h) e in false≢true (sym k.1 ∙ k.0)

some_left : (a : Option GoalOutcome) (o : GoalOutcome) → option_or a (Some o) ≡ None → ⊥
some_left None o e = cc
some_left (Some x) o e = cc

none_by : (g : NamedGoal) (o : Outcome) (os : List GoalOutcome) → told ((record { goal = g; outcome = o }) ∷ os) ≡ None → (told os ≡ None → all_proved os ≡ true) → (is_proved o && all_proved os) ≡ true
none_by g Proved os e f = f e
none_by g (Falsified s) os e f = absurd (cc)
none_by g (Unknown c) os e f = absurd (some_left (first_with is_falsified os) (record { goal = g; outcome = Unknown c }) e)
none_by g (Missed m) os e f = absurd (some_left (first_with is_falsified os) (record { goal = g; outcome = Missed m }) e)

pub none_told : (os : List GoalOutcome) → told os ≡ None → all_proved os ≡ true
none_told [] e = refl
none_told (o ∷ os) e = none_by o.goal o.outcome os e (none_told os)

-- ---- Goals whose state or cause is reported

pub shown_more : (os : List GoalOutcome) (o : GoalOutcome) → all_shown os ++ shown o ≡ all_shown (os ++ o ∷ [])
shown_more [] o = sym (append-nil (shown o))
shown_more (x ∷ os) o = append_assoc (shown x) (all_shown os) (shown o) ∙ ap (λ l. shown x ++ l) (shown_more os o)

pub answer_more : (os : List GoalOutcome) (o : GoalOutcome) (xs ys : List LoopAnswer) (a : LoopAnswer) → ys ≡ xs ++ a ∷ [] → xs ≡ map loop_answer os → a.number ≡ loop_of o.goal.id → a.rank ≡ rank_of o.outcome → ys ≡ map loop_answer (os ++ o ∷ [])
answer_more os o xs ys a e h n r = e ∙ (ap (λ l. l ++ a ∷ []) h ∙ (ap (λ x. map loop_answer os ++ x ∷ []) same ∙ sym (map-append loop_answer os (o ∷ []))))
  where
    same : a ≡ loop_answer o
    same = ap (λ x. record a { number = x }) n ∙ ap (λ x. record a { number = loop_of o.goal.id; rank = x }) r
