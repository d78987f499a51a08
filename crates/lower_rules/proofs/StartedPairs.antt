-- The decision for the borrowed parts of a remainder pair.
use Rattle.std.proofs.Common.{◌<◌, ◌^◌, ℕ, sym, subst, List, [], ◌∷◌, length}
use Rattle.std.specs.Prelude.{Result, IfOk}
use Rattle.std.specs.declared.alloc.AllocError.{AllocError}
use Rattle.heyvl_num.specs.Rational.{Rational}
use Rattle.heylo_formula.specs.Formula.{Form}
use Rattle.heylo_formula.specs.PlainTrees.{form_of}
use Rattle.heylo_formula.specs.declared.goals.Made.{Made}
use Rattle.goal_answers.specs.declared.decisions.Decision.{Decision}
use Rattle.goal_answers.specs.declared.decisions.Decision.TheVariants as decision
use Rattle.heyvl_acts.specs.Acts.{Acts, TypedProcedure, procedure_at}
use Rattle.heyvl_acts.specs.FormSizes.{FormsWithin}
use Rattle.heyvl_acts.specs.PlainActs.{acts_of, procedures_of}
use Rattle.heyvl_acts.specs.Rules.{Each, MeetsAllRules, MeetsRules}
use Rattle.heyvl_acts.specs.declared.typed_trees.Typed.{Typed}
use Rattle.heyvl_acts.proofs.exported.Each.{each_at}
use Rattle.loop_encodings.proofs.exported.FromRules.{is_there}
use Rattle.ranking_rule.specs.RankingGoals.{generated}
use Rattle.region_split.specs.Meanings.{Tells}
use Rattle.vp_generator.specs.Laws.{GeneratedFormIsFormula, GeneratedFormMeansActs}
use Rattle.vp_generator.specs.Over.{GeneratedFormIsOver}
use Rattle.vp_generator.specs.PrenexedGoals.{IsMadeWithin, PrenexedGoalsAreGoals, PrenexedGoalsFailByChoices, PrenexedGoalsSpeakOfChoices}
use Rattle.lower_goals.specs.StartGoals.{start_goal}
use Rattle.lower_rules.specs.LimitedDecisions.{IsDecidedWithin}
use Rattle.lower_goals.specs.declared.remainder_pairs.RankedParts.{RankedParts}
use Rattle.lower_goals.specs.LentRemainderPairs.{IsPairAs}
use Rattle.lower_rules.specs.internal.Decidable.{CanDecide}
use Rattle.lower_rules.specs.internal.StartDecisions.{IsStarted, TellsOfStart}
use Rattle.lower_rules.proofs.MadeDecisions.{both_ok, can_decide}
use Rattle.lower_rules.proofs.StartLaws.{start_fails, start_holds, start_is_few, start_is_goal}
use Rattle.lower_goals.proofs.exported.StartParts.{IsStart, is_start, start_as}

module _ (typed : Typed) (p q : ℕ) (parts : RankedParts) (all : MeetsAllRules typed) (first : p < length typed.procs.items) (second : q < length typed.procs.items) (is : IsPairAs (procedure_at (procedures_of typed) p) (procedure_at (procedures_of typed) q) parts) where
  abbrev ps : List TypedProcedure
  ps = procedures_of typed

  abbrev one : TypedProcedure
  one = procedure_at ps p

  abbrev other : TypedProcedure
  other = procedure_at ps q

  abbrev front : Acts
  front = acts_of parts.front.now

  abbrev rank : Rational × Form
  rank = (parts.step, form_of parts.ranking.now)

  abbrev found : Form
  found = generated front rank

  first_there : p < length ps
  first_there = is_there typed p first

  second_there : q < length ps
  second_there = is_there typed q second

  rules : MeetsRules ps one
  rules = each_at (MeetsRules ps) ps p all.each first_there

  bound_rules : MeetsRules ps other
  bound_rules = each_at (MeetsRules ps) ps q all.each second_there

  start : IsStart ps one other front rank
  start = start_as ps one other is.pair.loop.front front is.pair.rank rank is.front is.rank (is_start ps one other rules is.pair)

  pub made_can : GeneratedFormIsFormula → GeneratedFormIsOver → PrenexedGoalsAreGoals → Each (FormsWithin (2 ^ 27)) ps → (m : Made) → IsMadeWithin found (start_goal one front rank other.pre) m → CanDecide m
  made_can formula over are small m h = can_decide found (start_goal one front rank other.pre) m (start_is_goal ps one other front rank start bound_rules formula over are) (λ s. start_is_few ps one other front rank start rules (each_at (FormsWithin (2 ^ 27)) ps q small second_there) s) h

  tells : GeneratedFormMeansActs → GeneratedFormIsOver → PrenexedGoalsSpeakOfChoices → PrenexedGoalsFailByChoices → (d : Decision) → Tells (start_goal one front rank other.pre) d → TellsOfStart one front rank other.pre d
  tells means over speak failing (decision.Proved tree) h = start_holds ps one other front rank start bound_rules means over speak h
  tells means over speak failing (decision.Falsified s) h = (start_fails ps one other front rank start bound_rules means over failing s.items h, h)
  tells means over speak failing (decision.Unknown cause) h = tt

  pub is_started : GeneratedFormMeansActs → GeneratedFormIsOver → PrenexedGoalsSpeakOfChoices → PrenexedGoalsFailByChoices → (r : Result Decision AllocError) → IfOk r (λ d. IsDecidedWithin (start_goal one front rank other.pre) (found ∷ []) d) → IfOk r (λ d. Tells (start_goal one front rank other.pre) d) → IfOk r (λ d. IsStarted one other front rank d)
  is_started means over speak failing r h k = both_ok (λ d. IsDecidedWithin (start_goal one front rank other.pre) (found ∷ []) d) (λ d. Tells (start_goal one front rank other.pre) d) (λ d. IsStarted one other front rank d) r (λ d i j. record { decided = i; tells = tells means over speak failing d j }) h k

pub started_as : (p q : TypedProcedure) (parts : RankedParts) (is : IsPairAs p q parts) (d : Decision) → IsStarted p q (acts_of parts.front.now) (parts.step, form_of parts.ranking.now) d → IsStarted p q is.pair.loop.front is.pair.rank d
started_as p q parts is d h = subst (λ acts. IsStarted p q acts is.pair.rank d) (sym is.front) (subst (λ r. IsStarted p q (acts_of parts.front.now) r d) (sym is.rank) h)
