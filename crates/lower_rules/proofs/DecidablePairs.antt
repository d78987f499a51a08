-- The results for the goals of an omega pair can be decided.
use Rattle.std.proofs.Common.{sym, subst}
use Rattle.heylo_formula.specs.declared.goals.Made.{Made}
use Rattle.heyvl_acts.specs.Rules.{Each}
use Rattle.vp_generator.specs.Laws.{GeneratedFormIsFormula}
use Rattle.vp_generator.specs.Limits.{IsSmall}
use Rattle.vp_generator.specs.Over.{GeneratedFormIsOver}
use Rattle.vp_generator.specs.PrenexedGoals.{PrenexedGoalsAreGoals}
use Rattle.vp_generator.specs.PrenexLaws.{PrenexedFormHasNoBinder, PrenexedFormIsFormula}
use Rattle.lower_goals.specs.OmegaGoals.{limited, step_goal}
use Rattle.lower_goals.specs.OmegaPairs.{formula_of}
use Rattle.lower_goals.specs.LimitedGoals.{IsMadeFor}
use Rattle.lower_goals.specs.declared.answers.Step.{Step}
use Rattle.lower_goals.specs.declared.pairs.Pair.{Pair}
use Rattle.lower_rules.specs.internal.Decidable.{CanDecide, IsDecidable}
use Rattle.lower_goals.specs.LentOmegaPairs.{IsMadeStep, IsReady, behind, body, first, head, second}
use Rattle.lower_rules.proofs.MeantGoals.{goal_decidable}
use Rattle.lower_goals.proofs.exported.ReadyPairs.{the_loop}

module _ (x : Pair) (r : IsReady x) where
  pub goal_can_be_decided : GeneratedFormIsFormula → GeneratedFormIsOver → PrenexedFormIsFormula → PrenexedFormHasNoBinder → PrenexedGoalsAreGoals → (step : Step) → Each IsSmall (limited (first x) (body x) (behind x) (formula_of (first x) (head x) (second x)) step) → IsDecidable (step_goal (first x) (head x) (body x) (behind x) (second x) step)
  goal_can_be_decided formula over typed plain law step small = goal_decidable r.file (first x) r.rules (the_loop x r) (second x) r.other_rules r.pair formula over typed plain law r.within r.other_within step small

  pub made_decidable : GeneratedFormIsFormula → GeneratedFormIsOver → PrenexedFormIsFormula → PrenexedFormHasNoBinder → PrenexedGoalsAreGoals → (step : Step) (m : Made) → IsMadeStep x step m → CanDecide m
  made_decidable formula over typed plain law step m (IsMadeFor.whole g is small) = subst IsDecidable (sym is) (goal_can_be_decided formula over typed plain law step small)
  made_decidable formula over typed plain law step m (IsMadeFor.too_deep f listed h) = tt
  made_decidable formula over typed plain law step m (IsMadeFor.too_many f listed h) = tt
