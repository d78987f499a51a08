-- Decisions of the same goals determine verdicts that agree.
use Rattle.std.proofs.Common.{◌≡◌, ℕ, refl, sym, ap, ◌∙◌, subst, arith, List, [], ◌∷◌}
use Rattle.std.specs.Prelude.{Vec}
use Rattle.std.specs.declared.alloc.Global.{Global}
use Prim.Native.Nat.{suc}
use Rattle.goal_answers.specs.declared.causes.Cause.{Cause}
use Rattle.goal_answers.specs.declared.causes.Cause.TheVariants as cause
use Rattle.goal_answers.specs.declared.decisions.Decision.{Decision}
use Rattle.goal_answers.specs.declared.decisions.Decision.TheVariants.{Proved, Falsified, Unknown}
use Rattle.goal_answers.specs.declared.named_goals.NamedGoal.{NamedGoal}
use Rattle.heylo_formula.specs.Formula.{Form}
use Rattle.heylo_formula.specs.Goals.{Goal}
use Rattle.heylo_formula.specs.declared.goals.Made.{Made}
use Rattle.heylo_formula.specs.declared.goals.Made.TheVariants as made
use Rattle.heylo_formula.specs.declared.values.Val.{Val}
use Rattle.heyvl_acts.specs.Acts.{TypedProcedure, procedure_at}
use Rattle.heyvl_acts.specs.Rules.{Each}
use Rattle.loop_encodings.specs.BoundGoals.{BoundGoal, bound_goals}
use Rattle.region_split.specs.DecisionLaws.{DecisionsAreUnique, IsOfLimits, IsSameCause, IsSameDecision}
use Rattle.region_split.specs.Decisions.{IsDecision}
use Rattle.verify_core.specs.GoalDecisions.{DecidedGoal, Decides, IsDecisionOf, outcome_of}
use Rattle.verify_core.specs.Outcomes.{is_falsified, is_open, is_proved}
use Rattle.verify_core.specs.Questions.{IsGoalOf, goal, question}
use Rattle.verify_core.specs.Tables.{AreBoundsFound, AreFound, HasFound}
use Rattle.vp_generator.specs.PrenexedGoals.{IsMadeWithin}
use Rattle.answer_laws.specs.SingleAnswers.{DecidedVerdictsAreUnique, IsWithinLimits, SaySameCause, SaySameVerdict}
use Rattle.answer_laws.proofs.AlikeVerdicts.{Agree}
use Rattle.answer_laws.proofs.Complete.{unmissed}
use Rattle.answer_laws.proofs.SingleTables.{Comes, decided_lawful, two_tables}

-- Two decisions agree, apart from their trees.
abbrev SaySame : Decision → Decision → Type 0
SaySame (Proved t) (Proved u) = Unit {0}
SaySame (Falsified s) (Falsified r) = s.items ≡ r.items
SaySame (Unknown c) (Unknown d) = SaySameCause c d
SaySame d e = ⊥

-- ---- One goal

same_cause : (c d : Cause) → IsSameCause c d → SaySameCause c d
same_cause cause.Depth d h = absurd h
same_cause cause.Nodes d h = absurd h
same_cause (cause.Rows m n) d h = absurd h
same_cause cause.Bits d h = absurd h
same_cause (cause.Nonlinear s) d h = h
same_cause (cause.Cells n) d h = h
same_cause (cause.Fraction b) d h = h

same_decision : (d e : Decision) → IsSameDecision d e → SaySame d e
same_decision (Proved t) (Proved u) h = tt
same_decision (Proved t) (Falsified r) h = h
same_decision (Proved t) (Unknown d) h = h
same_decision (Falsified s) (Proved u) h = h
same_decision (Falsified s) (Falsified r) h = h
same_decision (Falsified s) (Unknown d) h = h
same_decision (Unknown c) (Proved u) h = h
same_decision (Unknown c) (Falsified r) h = h
same_decision (Unknown c) (Unknown d) h = same_cause c d h

-- `d` is a decision of the goal, and no limit of rows or of bits is exceeded.
abbrev DecidesWithin : NamedGoal → Decision → Type 0
DecidesWithin g d = Decides g d × (IsOfLimits d → ⊥)

limits_same : (d e : Decision) (c b : Cause) → d ≡ Unknown c → e ≡ Unknown b → SaySame (Unknown c) (Unknown b) → SaySame d e
limits_same d e c b h k s = subst (λ x. SaySame x e) (sym h) (subst (λ x. SaySame (Unknown c) x) (sym k) s)

decided_twice : DecisionsAreUnique → (f : Form) (g : Goal) (m n : Made) (d e : Decision) → IsMadeWithin f g m → IsMadeWithin f g n → IsDecisionOf m d → IsDecisionOf n e → (IsOfLimits d → ⊥) → (IsOfLimits e → ⊥) → SaySame d e
decided_twice law f g (made.Goal x) (made.Goal y) d e a b h k i j = same_decision d e (law g d e (subst (λ z. IsDecision z d) a.0 h) (subst (λ z. IsDecision z e) b.0 k) i j)
decided_twice law f g (made.Goal x) made.Depth d e a b h k i j = absurd (let s = a.1.shallow in omega (arith, s, b))
decided_twice law f g (made.Goal x) made.Nodes d e a b h k i j = absurd (let s = a.1.few in omega (arith, s, b))
decided_twice law f g made.Depth (made.Goal y) d e a b h k i j = absurd (let s = b.1.shallow in omega (arith, s, a))
decided_twice law f g made.Nodes (made.Goal y) d e a b h k i j = absurd (let s = b.1.few in omega (arith, s, a))
decided_twice law f g made.Depth made.Depth d e a b h k i j = limits_same d e cause.Depth cause.Depth h k tt
decided_twice law f g made.Depth made.Nodes d e a b h k i j = limits_same d e cause.Depth cause.Nodes h k tt
decided_twice law f g made.Nodes made.Depth d e a b h k i j = limits_same d e cause.Nodes cause.Depth h k tt
decided_twice law f g made.Nodes made.Nodes d e a b h k i j = limits_same d e cause.Nodes cause.Nodes h k tt

-- ---- Outcomes

record HasSameTests (d e : Decision) : Type 0 where
  proved : is_proved (outcome_of d) ≡ is_proved (outcome_of e)
  falsified : is_falsified (outcome_of d) ≡ is_falsified (outcome_of e)
  is_open : is_open (outcome_of d) ≡ is_open (outcome_of e)

same_tests : (d e : Decision) → SaySame d e → HasSameTests d e
same_tests (Proved t) (Proved u) h = record { proved = refl; falsified = refl; is_open = refl }
same_tests (Proved t) (Falsified r) h = absurd h
same_tests (Proved t) (Unknown d) h = absurd h
same_tests (Falsified s) (Proved u) h = absurd h
same_tests (Falsified s) (Falsified r) h = record { proved = refl; falsified = refl; is_open = refl }
same_tests (Falsified s) (Unknown d) h = absurd h
same_tests (Unknown c) (Proved u) h = absurd h
same_tests (Unknown c) (Falsified r) h = absurd h
same_tests (Unknown c) (Unknown d) h = record { proved = refl; falsified = refl; is_open = refl }

falsified_by : (d : Decision) (s : Vec Val Global) → outcome_of d ≡ outcome_of (Falsified s) → d ≡ Falsified s
falsified_by (Proved t) s e = cc
falsified_by (Falsified r) s e = cc
falsified_by (Unknown c) s e = cc

unknown_by : (d : Decision) (c : Cause) → outcome_of d ≡ outcome_of (Unknown c) → d ≡ Unknown c
unknown_by (Proved t) c e = cc
unknown_by (Falsified r) c e = cc
unknown_by (Unknown b) c e = cc

agree_decided : Agree (Comes outcome_of SaySame) SaySameVerdict
agree_decided = record {
  proved_test = λ o u r. sym (ap is_proved r.first) ∙ ((same_tests r.a r.b r.same).proved ∙ ap is_proved r.second);
  falsified_test = λ o u r. sym (ap is_falsified r.first) ∙ ((same_tests r.a r.b r.same).falsified ∙ ap is_falsified r.second);
  open_test = λ o u r. sym (ap is_open r.first) ∙ ((same_tests r.a r.b r.same).is_open ∙ ap is_open r.second);
  apart = λ c m r. unmissed r.b m r.second;
  apart_back = λ m c r. unmissed r.a m r.first;
  falsified = λ i s q r. (refl, subst (λ x. SaySame (Falsified s) x) (falsified_by r.b q r.second) (subst (λ x. SaySame x r.b) (falsified_by r.a s r.first) r.same));
  unknown = λ i c d r. (refl, subst (λ x. SaySame (Unknown c) x) (unknown_by r.b d r.second) (subst (λ x. SaySame x r.b) (unknown_by r.a c r.first) r.same));
  missed = λ i m n r. absurd (unmissed r.a m r.first);
  no_body = tt;
  valid = λ why. refl;
  conditional = λ q. refl;
  verified = tt;
}

-- ---- Tables

within_row : (Is : BoundGoal → NamedGoal → Type 0) (ids : List BoundGoal) (gs : List DecidedGoal) → AreFound Is Decides ids gs → Each IsWithinLimits gs → AreFound Is DecidesWithin ids gs
within_row Is [] [] h l = tt
within_row Is [] (g ∷ gs) h l = absurd h
within_row Is (i ∷ ids) [] h l = absurd h
within_row Is (i ∷ ids) (g ∷ gs) h l = (record { goal = h.0.goal; found = (h.0.found, l.0) }, within_row Is ids gs h.1 l.1)

within : (ps : List TypedProcedure) (k : ℕ) (qs : List TypedProcedure) (t : List (List DecidedGoal)) → AreBoundsFound Decides ps k qs t → Each (Each IsWithinLimits) t → AreBoundsFound DecidesWithin ps k qs t
within ps k [] [] h l = tt
within ps k [] (r ∷ t) h l = absurd h
within ps k (q ∷ qs) [] h l = absurd h
within ps k (q ∷ qs) (r ∷ t) h l = (within_row (IsGoalOf ps k) (bound_goals q) r h.0 l.0, within ps (suc k) qs t h.1 l.1)

goal_twice : DecisionsAreUnique → (ps : List TypedProcedure) (k : ℕ) (i : BoundGoal) (g h : DecidedGoal) → HasFound (IsGoalOf ps k i) DecidesWithin g → HasFound (IsGoalOf ps k i) DecidesWithin h → SaySame g.found h.found
goal_twice law ps k i g h a b =
    let q = question ps (procedure_at ps k) i in
    decided_twice law q.found (goal q) g.goal.made h.goal.made g.found h.found a.goal.made b.goal.made a.found.0 b.found.0 a.found.1 b.found.1

pub decided_verdicts_unique : DecisionsAreUnique → DecidedVerdictsAreUnique
decided_verdicts_unique law ps t u a b l m p v w h k = two_tables outcome_of SaySame DecidesWithin ps (goal_twice law ps) SaySameVerdict agree_decided decided_lawful t u (within ps 0 ps t a l) (within ps 0 ps u b m) p v w h k
