-- A goal, and the meaning of its decision or of its certificate.
use Rattle.std.proofs.Common.{◌≡◌, ◌≤◌, ℕ, sym, ◌∙◌, subst, arith, List}
use Rattle.std.specs.Prelude.{Option, Some, None}
use Rattle.heyvl_places.specs.declared.spans.Span.{Span}
use Rattle.farkas_check.specs.AcceptedCertificates.{IsCertificate}
use Rattle.farkas_check.specs.CertificateLaws.{CertifiedGoalsHold}
use Rattle.goal_answers.specs.Trees.{Tree}
use Rattle.heylo_formula.specs.Formula.{Form}
use Rattle.heylo_formula.specs.Goals.{Goal, Holds, goal_of}
use Rattle.heylo_formula.specs.TypedGoals.{IsGoal, IsTypedGoal}
use Rattle.heylo_formula.specs.declared.goals.Made.{Made}
use Rattle.heylo_formula.specs.declared.goals.Made.TheVariants as made
use Rattle.goal_answers.specs.declared.causes.Cause.{Cause}
use Rattle.goal_answers.specs.declared.causes.Cause.TheVariants as cause
use Rattle.linear_form.specs.Nonlinear.{nonlinear_product}
use Rattle.ranking_rule.specs.Laws.{IsFew}
use Rattle.vp_generator.specs.PrenexedGoals.{IsMadeWithin}
use Rattle.region_split.specs.Meanings.{Fails}
use Rattle.goal_answers.specs.declared.decisions.Decision.{Decision}
use Rattle.goal_answers.specs.declared.decisions.Decision.TheVariants.{Proved, Falsified, Unknown}
use Rattle.verdict_report.specs.PlacedAnswers.{IsCausePlaced}
use Rattle.vp_generator.specs.Limits.{IsSmall}
use Rattle.goal_answers.specs.declared.misses.Miss.{Miss}
use Rattle.goal_answers.specs.declared.named_goals.NamedGoal.{NamedGoal}
use Rattle.goal_answers.specs.declared.trees.GoalCert.{GoalCert}
use Rattle.verify_core.specs.CertifiedGoals as checked
use Rattle.verify_core.specs.CertifiedGoals.{Certifies, IsMissOf}
use Rattle.verify_core.specs.GoalDecisions as decided
use Rattle.verify_core.specs.GoalDecisions.{IsDecisionOf}
use Rattle.verify_core.specs.declared.outcomes.Outcome.{Outcome}
use Rattle.verify_core.specs.declared.outcomes.Outcome.TheVariants as outcome
use Rattle.verify_core.specs.declared.settled_goals.Way.{Way}
use Rattle.verify_core.specs.declared.settled_goals.Way.TheVariants.{Decide, Check}
use Rattle.verify_core.specs.internal.Decidable.{CanDecide, IsDecidable}
use Rattle.verify_core.specs.internal.SettledGoals.{Finding, Finds, TellsOf, outcome_by}

-- ---- Goals and limits

pub decidable : (f : Form) (g : Goal) (m : Made) → IsGoal g → (IsSmall f → IsFew g) → IsMadeWithin f g m → CanDecide m
decidable f g (made.Goal x) i few h =
    let k = few h.1 in
    subst IsDecidable (sym h.0) (record { typed = i.typed; over = i.over; stated = k.stated; found = k.found; variables = k.variables })
decidable f g made.Depth i few h = tt
decidable f g made.Nodes i few h = tt

abbrev pub MadeAlike : Made → Made → Type 0
MadeAlike (made.Goal g) (made.Goal h) = goal_of g ≡ goal_of h
MadeAlike (made.Goal g) made.Depth = ⊥
MadeAlike (made.Goal g) made.Nodes = ⊥
MadeAlike made.Depth n = Unit {0}
MadeAlike made.Nodes n = Unit {0}

-- A question has one goal at most.
pub made_alike : (f : Form) (g : Goal) (m n : Made) → IsMadeWithin f g m → IsMadeWithin f g n → MadeAlike m n
made_alike f g (made.Goal x) (made.Goal y) a b = a.0 ∙ sym b.0
made_alike f g (made.Goal x) made.Depth a b = let s = a.1.shallow in omega (arith, s, b)
made_alike f g (made.Goal x) made.Nodes a b = let s = a.1.few in omega (arith, s, b)
made_alike f g made.Depth n a b = tt
made_alike f g made.Nodes n a b = tt

-- ---- Outcomes

-- The meaning of an outcome: the goal holds; or it fails in this state; or the place in the cause
-- is that of the goal's first nonlinear product.
abbrev pub Means : Goal → Outcome → Type 0
Means g outcome.Proved = Holds g
Means g (outcome.Falsified s) = Fails g s.items
Means g (outcome.Unknown c) = (n : ℕ) → ((s : Span) → nonlinear_product g ≡ Some s → s.from ≤ n) → IsCausePlaced n c
Means g (outcome.Missed m) = Unit {0}

same_cause : (c d : Cause) → ◌≡◌ {A = Decision} (Unknown c) (Unknown d) → c ≡ d
same_cause c d e = cc

-- The place in the cause is in the text, if the goal's first nonlinear product is.
cause_placed : (n : ℕ) (f : Form) (g : Goal) (m : Made) (c : Cause) → ((s : Span) → nonlinear_product g ≡ Some s → s.from ≤ n) → IsMadeWithin f g m → IsDecisionOf m (Unknown c) → IsCausePlaced n c
cause_placed n f g (made.Goal x) cause.Depth w h k = tt
cause_placed n f g (made.Goal x) cause.Nodes w h k = tt
cause_placed n f g (made.Goal x) (cause.Nonlinear s) w h k = w s (subst (λ (y : Goal). nonlinear_product y ≡ Some s) h.0 k)
cause_placed n f g (made.Goal x) (cause.Cells count) w h k = tt
cause_placed n f g (made.Goal x) (cause.Rows step count) w h k = tt
cause_placed n f g (made.Goal x) cause.Bits w h k = tt
cause_placed n f g (made.Goal x) (cause.Fraction b) w h k = tt
cause_placed n f g made.Depth c w h k = subst (IsCausePlaced n) (sym (same_cause c cause.Depth k)) tt
cause_placed n f g made.Nodes c w h k = subst (IsCausePlaced n) (sym (same_cause c cause.Nodes k)) tt

decision_means : (f : Form) (g : Goal) (m : Made) (d : Decision) → IsMadeWithin f g m → IsDecisionOf m d → TellsOf m d → Means g (decided.outcome_of d)
decision_means f g m (Unknown c) h k t = λ n w. cause_placed n f g m c w h k
decision_means f g (made.Goal x) (Proved t) h k m = subst (λ (y : Goal). Holds y) h.0 m
decision_means f g (made.Goal x) (Falsified s) h k m = subst (λ (y : Goal). Fails y s.items) h.0 m
decision_means f g made.Depth (Proved t) h k m = absurd (cc)
decision_means f g made.Depth (Falsified s) h k m = absurd (cc)
decision_means f g made.Nodes (Proved t) h k m = absurd (cc)
decision_means f g made.Nodes (Falsified s) h k m = absurd (cc)

certified_holds : CertifiedGoalsHold → (f : Form) (g : Goal) (m : Made) (t : Tree) → IsTypedGoal g → IsMadeWithin f g m → Certifies m t → Holds g
certified_holds law f g (made.Goal x) t s h c = law g t s (subst (λ y. IsCertificate y t) h.0 c)
certified_holds law f g made.Depth t s h c = absurd c
certified_holds law f g made.Nodes t s h c = absurd c

miss_means : CertifiedGoalsHold → (f : Form) (g : Goal) (certs : List GoalCert) (x : NamedGoal) (m : Option Miss) → IsTypedGoal g → IsMadeWithin f g x.made → IsMissOf certs x m → Means g (checked.outcome_of m)
miss_means law f g certs x None s h k = certified_holds law f g x.made k.tree s h k.certifies
miss_means law f g certs x (Some m) s h k = tt

pub means : CertifiedGoalsHold → (way : Way) (f : Form) (g : Goal) (x : NamedGoal) (a : Finding way) → IsTypedGoal g → IsMadeWithin f g x.made → Finds way x a → Means g (outcome_by way a)
means law Decide f g x d s h k = decision_means f g x.made d h k.0 k.1
means law (Check certs) f g x m s h k = miss_means law f g certs.now x m s h k
