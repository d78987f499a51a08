-- The results of the generator for the parts of a pair, as the goals of a step need them.
use Rattle.std.proofs.Common.{◌≡◌, ◌∙◌, ◌<◌, ◌+◌, ◌^◌, map, refl, sym, ap, ap₂, subst, arith, List, [], ◌∷◌, length}
use Rattle.std.specs.List.{Contains}
use Rattle.heylo_formula.specs.BinderNames.{binders}
use Rattle.heylo_formula.specs.Formula.{Form}
use Rattle.heylo_formula.specs.Goals.{goal_of}
use Rattle.heylo_formula.specs.PlainTrees.{form_of}
use Rattle.heylo_formula.specs.declared.goals.Goal as G
use Rattle.heylo_formula.specs.declared.goals.Made.{Made}
use Rattle.heylo_formula.specs.declared.goals.Made.TheVariants as made
use Rattle.heyvl_acts.specs.Acts.{Acts, Variable, variables}
use Rattle.heyvl_acts.specs.PlainActs.{variable_of}
use Rattle.heyvl_acts.specs.Rules.{AreNamed, Each}
use Rattle.heyvl_acts.specs.declared.typed_trees.VarInfo.{VarInfo}
use Rattle.vp_generator.specs.Answers.{IsStop}
use Rattle.vp_generator.specs.Fit.{AreFit}
use Rattle.vp_generator.specs.GeneratedForms.{vp}
use Rattle.vp_generator.specs.Limits.{IsSmall}
use Rattle.vp_generator.specs.Scopes.{GeneratedFormIsNamed}
use Rattle.vp_generator.specs.PrenexLaws.{PrenexedFormHasNoBinder, PrenexedFormIsFormula}
use Rattle.vp_generator.specs.declared.stops.VpStop.{VpStop}
use Rattle.lower_goals.specs.OmegaGoals.{after_body, after_loop, goal_variables, greater, limited, smaller, step_goal}
use Rattle.lower_goals.specs.OmegaPairs.{formula_of}
use Rattle.lower_goals.specs.LimitedGoals.{IsMadeFor}
use Rattle.made_goals.specs.UpperGoals.{upper_goal}
use Rattle.lower_goals.specs.declared.answers.Step.{Step}
use Rattle.lower_goals.specs.declared.answers.Step.TheVariants.{One, Base, Turn}
use Rattle.lower_goals.specs.declared.pairs.Pair.{Pair}
use Rattle.lower_goals.specs.internal.Pairs.{IsLimitBy, IsTurnOf}
use Rattle.lower_goals.specs.LentOmegaPairs.{IsMadeStep, IsReady, behind, body, first, head, second}
use Rattle.made_goals.proofs.exported.MadeGoals.{fit_as}
use Rattle.lower_goals.proofs.ReadyPairs.{goal_few, goal_named, limited_step, loop_ready, none_ready, turn_ready}

first_of : (f : Form) (rest : List Form) → Contains (f ∷ rest) f
first_of f rest = (0, omega arith, refl)

second_of : (e f : Form) → Contains (e ∷ f ∷ []) f
second_of e f = (1, omega arith, refl)

same_vp : (acts acts' : Acts) (f f' : Form) → acts ≡ acts' → f ≡ f' → vp acts f ≡ vp acts' f'
same_vp acts acts' f f' a e = ap₂ (λ x y. vp x y) a e

module _ (x : Pair) (r : IsReady x) where
  module _ (acts : Acts) (f : Form) (none : acts ≡ Acts.done) (is : f ≡ form_of x.formula) where
    is_formula : f ≡ formula_of (first x) (head x) (second x)
    is_formula = is ∙ r.formula

    pub none_fit : PrenexedFormIsFormula → AreFit acts f
    none_fit law = fit_as acts Acts.done f (formula_of (first x) (head x) (second x)) none is_formula (none_ready x r law)

    one_is : vp acts f ≡ formula_of (first x) (head x) (second x)
    one_is = same_vp acts Acts.done f (formula_of (first x) (head x) (second x)) none is_formula

    pub small_one : IsSmall (vp acts f) → Each IsSmall (limited (first x) (body x) (behind x) (formula_of (first x) (head x) (second x)) One)
    small_one h = (subst IsSmall one_is h, tt)

    pub limited_one : (why : VpStop) (m : Made) → IsStop (vp acts f) why → IsLimitBy why m → IsMadeStep x One m
    limited_one why m h e = limited_step x r One why m (formula_of (first x) (head x) (second x)) (first_of (formula_of (first x) (head x) (second x)) []) (subst (λ g. IsStop g why) one_is h) e

  module _ (f : Form) (is : f ≡ form_of x.formula) where
    turn_formula : f ≡ formula_of (first x) (head x) (second x)
    turn_formula = is ∙ r.formula

    module _ (acts : Acts) (here : acts ≡ body x) where
      pub turn_fit : PrenexedFormIsFormula → AreFit acts f
      turn_fit law = fit_as acts (body x) f (formula_of (first x) (head x) (second x)) here turn_formula (turn_ready x r law)

      turn_is : vp acts f ≡ after_body (body x) (formula_of (first x) (head x) (second x))
      turn_is = same_vp acts (body x) f (formula_of (first x) (head x) (second x)) here turn_formula

      pub turn_of : (g : Form) → g ≡ vp acts f → IsSmall (vp acts f) → IsTurnOf x g
      turn_of g e h = record { form = e ∙ turn_is; small = subst IsSmall (sym e) h }

      pub limited_turn : (why : VpStop) (m : Made) → IsStop (vp acts f) why → IsLimitBy why m → IsMadeStep x Turn m
      limited_turn why m h e = limited_step x r Turn why m (after_body (body x) (formula_of (first x) (head x) (second x))) (first_of (after_body (body x) (formula_of (first x) (head x) (second x))) (after_loop (first x) (behind x) ∷ [])) (subst (λ g. IsStop g why) turn_is h) e

  module _ (f : Form) (is : f ≡ (first x).post) where
    pub loop_fit : AreFit (behind x) f
    loop_fit = fit_as (behind x) (behind x) f (first x).post refl is (loop_ready x r)

    pub loop_is : vp (behind x) f ≡ after_loop (first x) (behind x)
    loop_is = same_vp (behind x) (behind x) f (first x).post refl is

    pub small_base : IsSmall (vp (behind x) f) → Each IsSmall (limited (first x) (body x) (behind x) (formula_of (first x) (head x) (second x)) Base)
    small_base h = (subst IsSmall loop_is h, tt)

    pub limited_base : (why : VpStop) (m : Made) → IsStop (vp (behind x) f) why → IsLimitBy why m → IsMadeStep x Base m
    limited_base why m h e = limited_step x r Base why m (after_loop (first x) (behind x)) (first_of (after_loop (first x) (behind x)) []) (subst (λ g. IsStop g why) loop_is h) e

    pub small_turn : (turn : Form) → IsTurnOf x turn → IsSmall (vp (behind x) f) → Each IsSmall (limited (first x) (body x) (behind x) (formula_of (first x) (head x) (second x)) Turn)
    small_turn turn t h = (subst IsSmall t.form t.small, (subst IsSmall loop_is h, tt))

    pub limited_behind : (why : VpStop) (m : Made) → IsStop (vp (behind x) f) why → IsLimitBy why m → IsMadeStep x Turn m
    limited_behind why m h e = limited_step x r Turn why m (after_loop (first x) (behind x)) (second_of (after_body (body x) (formula_of (first x) (head x) (second x))) (after_loop (first x) (behind x))) (subst (λ g. IsStop g why) loop_is h) e

-- ---- The goal of a step

module _ (x : Pair) (r : IsReady x) (step : Step) (vs : List VarInfo) (stated : Form) (vars : map variable_of vs ≡ goal_variables (first x) (head x) (second x)) (is : stated ≡ greater (first x) (head x) (body x) (behind x) (formula_of (first x) (head x) (second x)) step) where
  pub step_few : Each IsSmall (limited (first x) (body x) (behind x) (formula_of (first x) (head x) (second x)) step) → length vs + length (binders stated) < 2 ^ 31
  step_few small = subst (λ f. length vs + length (binders f) < 2 ^ 31) (sym is) (goal_few x r vs step vars small)

  pub step_named : GeneratedFormIsNamed → PrenexedFormHasNoBinder → AreNamed (length vs) (binders stated)
  step_named law plain = subst (λ f. AreNamed (length vs) (binders f)) (sym is) (goal_named x r vs step vars law plain)

  module _ (found : Form) (found_is : found ≡ smaller (length (variables (first x))) (formula_of (first x) (head x) (second x)) step) (g : G.Goal) (g_is : goal_of g ≡ upper_goal (map variable_of vs) stated found) where
    goal_is : goal_of g ≡ step_goal (first x) (head x) (body x) (behind x) (second x) step
    goal_is =
        g_is
        ∙ (ap (λ (us : List Variable). upper_goal us stated found) vars
        ∙ (ap (λ f. upper_goal (goal_variables (first x) (head x) (second x)) f found) is
        ∙ ap (λ f. upper_goal (goal_variables (first x) (head x) (second x)) (greater (first x) (head x) (body x) (behind x) (formula_of (first x) (head x) (second x)) step) f) found_is))

    pub step_made : Each IsSmall (limited (first x) (body x) (behind x) (formula_of (first x) (head x) (second x)) step) → IsMadeStep x step (made.Goal g)
    step_made small = IsMadeFor.whole g goal_is small
