-- The limits of generated forms: acts whose form exceeds a limit, smaller acts whose form exceeds
-- none, and the requirements of the laws at a fair coin.
use Rattle.std.proofs.Common.{◌≡◌, ◌∙◌, ap, ◌+◌, ◌^◌, ℕ, suc, zero, refl, true, false, List, [], ◌∷◌, arith}
use Rattle.std.specs.Prelude.{Err, Some}
use Rattle.std.proofs.Math.Nat.{pow-suc}
use Rattle.heyvl_num.specs.Rational.{ratio, zeroʳ, oneʳ, halfʳ, leqʳ, ◌≤ʳ◌, ◌+ʳ◌}
use Rattle.heyvl_num.specs.Value.{zeroᵛ, oneᵛ, leqᵛ}
use Rattle.heyvl_num.specs.WeightedSums.{total_weight}
use Rattle.heyvl_num.proofs.exported.Rationals.{+ʳ-zero}
use Rattle.heyvl_num.proofs.exported.Signs.{halves}
use Rattle.heyvl_num.proofs.exported.WeightedSums.{total_weight-cons, total_weight-empty}
use Rattle.heyvl_places.specs.declared.spans.Span.{Span}
use Rattle.heylo_formula.specs.Binders.{has_binder}
use Rattle.heylo_formula.specs.BinderNames.{binders}
use Rattle.heylo_formula.specs.Extrema.{is_directed}
use Rattle.heylo_formula.specs.Formula.{Form, Cond, Term}
use Rattle.heylo_formula.specs.Sizes.{nodes, depth}
use Rattle.heylo_formula.specs.Choices.{Choices}
use Rattle.heylo_formula.specs.Goals.{Goal, HoldsIn}
use Rattle.heylo_formula.specs.State.{Env, IsTyped, environment}
use Rattle.heylo_formula.specs.Typing.{Types, IsFormula, types_in}
use Rattle.heylo_formula.specs.declared.goals.Made.TheVariants as made
use Rattle.heylo_formula.specs.declared.values.Val.TheVariants.{Truth}
use Rattle.heylo_formula.specs.Variables.{IsOver}
use Rattle.heylo_formula.specs.declared.types.Ty.{Ty}
use Rattle.heylo_graph.specs.Nodes.{trees_after}
use Rattle.heylo_graph.specs.declared.nodes.Node.{Node}
use Rattle.heyvl_acts.specs.Acts.{Act, Acts, TypedProcedure, nobody, types_of}
use Rattle.heyvl_acts.specs.Places.{in_order}
use Rattle.heyvl_acts.specs.Rules.{Each, AreNamed, MeetsRules, NothingBindsBehind}
use Rattle.heyvl_acts.specs.WellTypedActs.{ActsFit, IsHeld}
use Rattle.vp_generator.specs.Answers.{IsStop}
use Rattle.vp_generator.specs.DirectedActs.{ChoosesToward}
use Rattle.vp_generator.specs.Fit.{AreFit}
use Rattle.vp_generator.specs.GeneratedForms.{vp}
use Rattle.vp_generator.specs.GraphAnswers.{Follows, IsAnswerIn, IsStopAt}
use Rattle.vp_generator.specs.Over.{ActsAreOver}
use Rattle.vp_generator.specs.PrenexLaws.{IsFrom, TypedFrom, TypesFrom}
use Rattle.vp_generator.specs.PrenexedForms.{chosen}
use Rattle.vp_generator.specs.PrenexedGoals.{IsMadeWithin, prenexed_goal}
use Rattle.vp_generator.specs.Scopes.{AnysAreBelow}
use Rattle.vp_generator.specs.declared.stops.VpStop.TheVariants.{Depth, Nodes}

abbrev nowhere : Span
nowhere = record { from = 0; to = 0 }

abbrev zero_form : Form
zero_form = Form.number zeroᵛ

abbrev all_flags : Types
all_flags x = Ty.Bool

zero_is_formula : IsFormula all_flags zero_form
unfolding zeroᵛ zeroʳ ratio leqʳ
zero_is_formula = refl

-- ---- Depth

-- A chain of n rewards of 0.
rewards : ℕ → Acts
rewards zero = Acts.done
rewards (suc n) = Acts.next (Act.reward zero_form nowhere) (rewards n)

rewards_fit : (n : ℕ) → ActsFit all_flags (rewards n)
unfolding rewards
rewards_fit zero = tt
rewards_fit (suc n) = ((zero_is_formula, refl), rewards_fit n)

rewards_depth : (n : ℕ) → depth (vp (rewards n) zero_form) ≡ n + 1
unfolding rewards
rewards_depth zero = refl
rewards_depth (suc n) = omega (arith, rewards_depth n)

-- The form of 1,000 rewards is 1,001 deep, which is too deep.
thousand_rewards_are_too_deep : AreFit (rewards 1000) zero_form × IsStop (vp (rewards 1000) zero_form) Depth
thousand_rewards_are_too_deep = (record { types = all_flags; fit = rewards_fit 1000; formula = zero_is_formula }, omega (arith, rewards_depth 1000))

-- The form of 999 rewards has the depth 1,000, which is not too deep.
fewer_rewards_are_not_too_deep : IsStop (vp (rewards 999) zero_form) Depth → ⊥
fewer_rewards_are_not_too_deep h = absurd (omega (arith, rewards_depth 999, h))

-- ---- Nodes

-- A chain of n choices between nothing and nothing.
choices : ℕ → Acts
choices zero = Acts.done
choices (suc n) = Acts.next (Act.pick true Acts.done Acts.done nowhere) (choices n)

choices_fit : (n : ℕ) → ActsFit all_flags (choices n)
unfolding choices
choices_fit zero = tt
choices_fit (suc n) = ((tt, tt), choices_fit n)

choices_nodes : (n : ℕ) → nodes (vp (choices n) zero_form) + 1 ≡ 2 ^ suc n
unfolding choices
choices_nodes zero = refl
choices_nodes (suc n) = omega (arith, choices_nodes n, pow-suc 2 (suc n))

-- The form of 17 choices has 262,143 nodes, which are more than 200,000.
seventeen_choices_are_too_large : AreFit (choices 17) zero_form × IsStop (vp (choices 17) zero_form) Nodes
seventeen_choices_are_too_large = (record { types = all_flags; fit = choices_fit 17; formula = zero_is_formula }, omega (arith, choices_nodes 17))

-- The form of 16 choices has 131,071 nodes, which are at most 200,000.
fewer_choices_are_not_too_large : IsStop (vp (choices 16) zero_form) Nodes → ⊥
fewer_choices_are_not_too_large h = absurd (omega (arith, choices_nodes 16, h))

-- ---- Requirements and results of a call in a graph

-- The sum of a variable with itself, of 3 nodes, at the number 1.
abbrev pair : List Node
pair = Node.Var 0 ∷ Node.Sum 0 0 ∷ []

abbrev twice : Form
twice = Form.sum (Form.variable 0) (Form.variable 0)

abbrev one_choice : Acts
one_choice = Acts.next (Act.pick true Acts.done Acts.done nowhere) Acts.done

-- A choice may precede the sum at the number 1, as a call in the graph requires.
choice_follows : Follows one_choice pair 1
unfolding trees_after
choice_follows = record { form = twice; stands = record { tree = refl }; fit = record { types = λ x. Ty.UInt; fit = ((tt, tt), tt); formula = refl } }

-- Its form has 7 nodes, which are more than 6.
choice_is_too_large : IsAnswerIn 6 pair (vp one_choice twice) (Err Nodes) pair
choice_is_too_large = (refl, omega arith)

-- They are not more than 7.
choice_is_not_too_large : IsStopAt 7 (vp one_choice twice) Nodes → ⊥
choice_is_not_too_large h = absurd (omega arith)

-- The form of 1,000 rewards is too deep in a graph too.
rewards_are_too_deep_in_a_graph : IsStopAt 6 (vp (rewards 1000) zero_form) Depth
rewards_are_too_deep_in_a_graph = omega (arith, rewards_depth 1000)

-- The form of a choice is not.
choice_is_not_too_deep : IsStopAt 6 (vp one_choice twice) Depth → ⊥
choice_is_not_too_deep h = absurd (omega arith)

-- ---- The limits of a goal's computed form

-- A goal whose computed form has the depth 1,001 is too deep.
goal_is_too_deep : (g : Goal) → IsMadeWithin (vp (rewards 1000) zero_form) g made.Depth
goal_is_too_deep g = omega (arith, rewards_depth 1000)

-- A goal whose computed form is a sum of two variables is not.
goal_is_not_too_deep : (g : Goal) → IsMadeWithin twice g made.Depth → ⊥
goal_is_not_too_deep g h = absurd (omega arith)

-- A goal whose computed form has 262,143 nodes exceeds the limit.
goal_is_too_large : (g : Goal) → IsMadeWithin (vp (choices 17) zero_form) g made.Nodes
goal_is_too_large g = omega (arith, choices_nodes 17)

-- A goal whose computed form is a sum of two variables is not.
goal_is_not_too_large : (g : Goal) → IsMadeWithin twice g made.Nodes → ⊥
goal_is_not_too_large g h = absurd (omega arith)

-- ---- The requirements of the laws of generated forms: a fair coin, and then any Boolean

abbrev guess : Acts
guess = Acts.next (Act.draw 0 ((halfʳ, Term.truth (Cond.constant true)) ∷ (halfʳ, Term.truth (Cond.constant false)) ∷ []) nowhere) (Acts.next (Act.any 1 true Ty.Bool nowhere) Acts.done)

abbrev same_values : Form
same_values = Form.iverson (Cond.same (Cond.flag 0) (Cond.flag 1))

half_from_zero : zeroʳ ≤ʳ halfʳ
unfolding halfʳ zeroʳ ratio leqʳ
half_from_zero = record { holds = refl }

-- The acts are well typed and the post is a formula, as `GeneratedFormMeansActs` and
-- `GeneratedFormIsFormula` require.
guess_fits : ActsFit all_flags guess × IsFormula all_flags same_values
guess_fits = ((((half_from_zero, (refl, refl)), ((half_from_zero, (refl, refl)), tt)), (refl, tt)), refl)

-- They read and bind only the first two variables, as `GeneratedFormIsOver` and
-- `GeneratedFormIsNamed` require.
guess_is_over : ActsAreOver 2 guess × (IsOver 2 same_values × (AnysAreBelow 2 guess × AreNamed 2 (binders same_values)))
guess_is_over = ((((λ y e. absurd (cc)), ((λ y e. absurd (cc)), tt)), (tt, tt)), ((λ y e. grind arith), ((tt, (omega arith, tt)), tt)))

-- They choose upward, as `GeneratedFormIsDirected` requires.
guess_is_directed : Each (ChoosesToward true) (in_order guess) × (NothingBindsBehind true (has_binder same_values) (in_order guess) × (is_directed true same_values ≡ true))
guess_is_directed = ((tt, (refl, tt)), (((λ e. absurd (cc)), ((λ e. absurd (cc)), tt)), refl))

abbrev guessing : TypedProcedure
guessing = record nobody { outputs = record { name = 1 ∷ []; ty = Ty.Bool } ∷ record { name = 2 ∷ []; ty = Ty.Bool } ∷ []; pre = Form.number oneᵛ; post = same_values; body = Some guess }

one_held : IsHeld (types_in []) (Form.number oneᵛ)
unfolding oneᵛ oneʳ zeroʳ ratio leqʳ
one_held = (refl, refl)

halves_weigh_one : (t u : Term) → total_weight ((halfʳ, t) ∷ (halfʳ, u) ∷ []) ≡ oneʳ
halves_weigh_one t u = total_weight-cons halfʳ t _ ∙ (ap (λ w. halfʳ +ʳ w) (total_weight-cons halfʳ u [] ∙ (ap (λ w. halfʳ +ʳ w) (total_weight-empty Term) ∙ +ʳ-zero halfʳ)) ∙ halves)

-- A procedure with this body satisfies the static rules, as `FormOfProcedureIsDirected` requires.
guessing_meets_the_rules : MeetsRules (guessing ∷ []) guessing × ActsFit (types_of guessing) guess
guessing_meets_the_rules = (
  record {
    few_parameters = omega arith;
    few_variables = omega arith;
    few_statements = omega arith;
    weak_is_proc = λ e. absurd (cc);
    pre = one_held;
    pre_over = λ y e. absurd (cc);
    post = refl;
    post_over = λ y e. grind arith;
    post_directed = refl;
    targets = (record { no_input = omega arith; below = omega arith }, (record { no_input = omega arith; below = omega arith }, tt));
    typed = (((half_from_zero, (refl, refl)), ((half_from_zero, (refl, refl)), tt)), (refl, tt));
    weights = (halves_weigh_one _ _, (tt, tt));
    directions = (tt, (refl, tt));
    binders = ((λ e. absurd (cc)), ((λ e. absurd (cc)), tt));
    scopes = (((λ y e. absurd (cc)), ((λ y e. absurd (cc)), tt)), (tt, tt));
    loops = (tt, (tt, tt));
    numbered = refl;
  },
  (((half_from_zero, (refl, refl)), ((half_from_zero, (refl, refl)), tt)), (refl, tt)),
)

-- ---- The requirements of the laws of prenexed forms: the largest value of a Boolean, over one
-- variable

abbrev largest : Form
largest = Form.bind true 0 0 Ty.Bool (Form.iverson (Cond.flag 0))

abbrev all_true : Env
all_true x = Truth true

-- The second variable has the chosen value and its type, as `ChoicesAreValues`, `ValuesAreChoices`
-- and `PrenexedFormIsFormula` require.
largest_is_chosen : IsFrom 1 (chosen largest (Choices.choose (Truth true) Choices.stop Choices.stop)) all_true × (TypedFrom 1 (binders largest) all_true × (TypesFrom 1 (binders largest) all_flags × IsFormula all_flags largest))
largest_is_chosen = ((refl, tt), ((refl, tt), ((refl, tt), refl)))

-- 0 and the largest value are formulas over one variable, as `PrenexedGoalsSpeakOfChoices` and
-- `PrenexedGoalsAreGoals` require.
zero_and_largest_make_a_goal : IsOver 1 zero_form × (IsOver 1 largest × (IsFormula (types_in (Ty.Bool ∷ [])) zero_form × (IsFormula (types_in (Ty.Bool ∷ [])) largest × (has_binder zero_form ≡ false))))
unfolding zeroᵛ zeroʳ ratio leqʳ
zero_and_largest_make_a_goal = ((λ y e. absurd (cc)), ((λ y e. grind arith), (refl, (refl, refl))))

-- In a state of two true values 0 is not at least the largest value, as
-- `PrenexedGoalsFailByChoices` requires.
zero_is_below_largest : IsTyped (Ty.Bool ∷ Ty.Bool ∷ []) (Truth true ∷ Truth true ∷ []) × (HoldsIn (prenexed_goal true (Ty.Bool ∷ []) ((1 ∷ []) ∷ (2 ∷ []) ∷ []) zero_form largest) (environment (Truth true ∷ Truth true ∷ [])) → ⊥)
unfolding zeroᵛ oneᵛ zeroʳ oneʳ ratio leqᵛ leqʳ
zero_is_below_largest = ((refl, (refl, refl)), λ h. let e = h.holds in cc)
