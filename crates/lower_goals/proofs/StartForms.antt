-- The acts before the loop of a remainder pair, taken upward, are well typed before its ranking,
-- and binders are named after variables.
use Rattle.std.proofs.Common.{ℕ, sym, subst, List, length}
use Rattle.heyvl_num.specs.Rational.{Rational}
use Rattle.heylo_formula.specs.BinderNames.{binders}
use Rattle.heylo_formula.specs.Formula.{Form}
use Rattle.heylo_formula.proofs.exported.BinderNames.{unnamed}
use Rattle.heyvl_acts.specs.Acts.{Acts, TypedProcedure, types_of, variables}
use Rattle.heyvl_acts.specs.Rules.{AreNamed}
use Rattle.heyvl_acts.specs.Upward.{upward}
use Rattle.heyvl_acts.specs.WellTypedActs.{ActsFit}
use Rattle.ranking_rule.specs.RankingGoals.{generated}
use Rattle.vp_generator.specs.Fit.{AreFit}
use Rattle.vp_generator.specs.Scopes.{GeneratedFormIsNamed}
use Rattle.lower_goals.proofs.StartParts.{IsStart}
use Rattle.ranking_rule.proofs.exported.UpwardActs.{upward_below, upward_fit}

module _ (ps : List TypedProcedure) (p q : TypedProcedure) (front : Acts) (r : Rational × Form) (start : IsStart ps p q front r) where
  abbrev own : ℕ
  own = length (variables p)

  acts_fit : ActsFit (types_of p) (upward front)
  acts_fit = upward_fit ps p front start.turns

  pub start_fit : AreFit (upward front) r.1
  start_fit = record { types = types_of p; fit = acts_fit; formula = start.fits.1.0 }

  none_named : AreNamed own (binders r.1)
  none_named = subst (λ bs. AreNamed own bs) (sym (unnamed r.1 start.fits.1.1)) tt

  pub start_named : GeneratedFormIsNamed → AreNamed own (binders (generated front r))
  start_named law = law own (types_of p) (upward front) r.1 acts_fit (upward_below ps p front start.turns) none_named
