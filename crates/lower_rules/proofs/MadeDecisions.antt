-- The result for a goal can be decided, and the decision is one within limits.
use Rattle.std.proofs.Common.{◌≡◌, refl, sym, subst, arith, List, [], ◌∷◌}
use Rattle.std.specs.Prelude.{Result, Ok, Err, IfOk}
use Rattle.heylo_formula.specs.Formula.{Form}
use Rattle.heylo_formula.specs.Goals.{Goal, goal_of}
use Rattle.heylo_formula.specs.TypedGoals.{IsGoal}
use Rattle.heylo_formula.specs.declared.goals.Goal as G
use Rattle.heylo_formula.specs.declared.goals.Made.{Made}
use Rattle.heylo_formula.specs.declared.goals.Made.TheVariants as made
use Rattle.goal_answers.specs.declared.causes.Cause.TheVariants as cause
use Rattle.goal_answers.specs.declared.decisions.Decision.{Decision}
use Rattle.goal_answers.specs.declared.decisions.Decision.TheVariants.{Unknown}
use Rattle.heyvl_acts.specs.Rules.{Each}
use Rattle.ranking_rule.specs.Laws.{IsFew}
use Rattle.vp_generator.specs.PrenexedGoals.{IsMadeWithin}
use Rattle.region_split.specs.Decisions.{IsDecision}
use Rattle.region_split.specs.Meanings.{Tells}
use Rattle.vp_generator.specs.Limits.{IsSmall}
use Rattle.lower_rules.specs.LimitedDecisions.{IsDecidedWithin}
use Rattle.lower_goals.specs.LimitedGoals.{IsMadeFor}
use Rattle.lower_rules.specs.internal.Decidable.{CanDecide, IsDecidable}

-- ---- Goals with one limited form

few_decidable : (g : Goal) → IsGoal g → IsFew g → IsDecidable g
few_decidable g i f = record { typed = i.typed; over = i.over; stated = f.stated; found = f.found; variables = f.variables }

pub can_decide : (f : Form) (g : Goal) (m : Made) → IsGoal g → (IsSmall f → IsFew g) → IsMadeWithin f g m → CanDecide m
can_decide f g (made.Goal x) i few h = subst IsDecidable (sym h.0) (few_decidable g i (few h.1))
can_decide f g made.Depth i few h = tt
can_decide f g made.Nodes i few h = tt

pub made_for : (f : Form) (g : Goal) (m : Made) → IsMadeWithin f g m → IsMadeFor g (f ∷ []) m
made_for f g (made.Goal x) h = IsMadeFor.whole x h.0 (h.1, tt)
made_for f g made.Depth h = IsMadeFor.too_deep f (0, omega arith, refl) h
made_for f g made.Nodes h = IsMadeFor.too_many f (0, omega arith, refl) h

-- ---- The results

pub made_goal : (m : Made) (x : G.Goal) → m ≡ made.Goal x → CanDecide m → IsDecidable (goal_of x)
made_goal m x e h = subst CanDecide e h

record IsWhole (g : Goal) (forms : List Form) (x : G.Goal) : Type 0 where
  pub is : goal_of x ≡ g
  pub small : Each IsSmall forms

same_goal : (x y : G.Goal) → made.Goal x ≡ made.Goal y → x ≡ y
same_goal x y e = cc

no_depth : (x : G.Goal) → made.Depth ≡ made.Goal x → ⊥
no_depth x e = cc

no_nodes : (x : G.Goal) → made.Nodes ≡ made.Goal x → ⊥
no_nodes x e = cc

nodes_no_depth : made.Nodes ≡ made.Depth → ⊥
nodes_no_depth e = cc

whole_made : (g : Goal) (forms : List Form) (m : Made) (x : G.Goal) → m ≡ made.Goal x → IsMadeFor g forms m → IsWhole g forms x
whole_made g forms m x e (IsMadeFor.whole y is small) = record { is = subst (λ (z : G.Goal). goal_of z ≡ g) (same_goal y x e) is; small = small }
whole_made g forms m x e (IsMadeFor.too_deep f listed h) = absurd (no_depth x e)
whole_made g forms m x e (IsMadeFor.too_many f listed h) = absurd (no_nodes x e)

pub goal_decided : (g : Goal) (forms : List Form) (m : Made) (x : G.Goal) (d : Decision) → m ≡ made.Goal x → IsMadeFor g forms m → IsDecision (goal_of x) d → IsDecidedWithin g forms d
goal_decided g forms m x d e h k = let w = whole_made g forms m x e h in IsDecidedWithin.decided d w.small (subst (λ (y : Goal). IsDecision y d) w.is k)

pub goal_tells : (g : Goal) (forms : List Form) (m : Made) (x : G.Goal) (d : Decision) → m ≡ made.Goal x → IsMadeFor g forms m → Tells (goal_of x) d → Tells g d
goal_tells g forms m x d e h k = let w = whole_made g forms m x e h in subst (λ (y : Goal). Tells y d) w.is k

pub depth_decided : (g : Goal) (forms : List Form) (m : Made) → m ≡ made.Depth → IsMadeFor g forms m → IsDecidedWithin g forms (Unknown cause.Depth)
depth_decided g forms m e (IsMadeFor.whole y is small) = absurd (no_depth y (sym e))
depth_decided g forms m e (IsMadeFor.too_deep f listed h) = IsDecidedWithin.too_deep f listed h
depth_decided g forms m e (IsMadeFor.too_many f listed h) = absurd (nodes_no_depth e)

pub nodes_decided : (g : Goal) (forms : List Form) (m : Made) → m ≡ made.Nodes → IsMadeFor g forms m → IsDecidedWithin g forms (Unknown cause.Nodes)
nodes_decided g forms m e (IsMadeFor.whole y is small) = absurd (no_nodes y (sym e))
nodes_decided g forms m e (IsMadeFor.too_deep f listed h) = absurd (nodes_no_depth (sym e))
nodes_decided g forms m e (IsMadeFor.too_many f listed h) = IsDecidedWithin.too_many f listed h

-- ---- Two properties of an answer

pub both_ok : {A E : Type 0} (P Q R : A → Type 0) (r : Result A E) → ((x : A) → P x → Q x → R x) → IfOk r P → IfOk r Q → IfOk r R
both_ok P Q R (Ok x) f h k = f x h k
both_ok P Q R (Err e) f h k = tt
