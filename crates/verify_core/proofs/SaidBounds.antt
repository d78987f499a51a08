-- The goals without binders have the meaning of the goals of a bound.
use Rattle.std.proofs.Common.{◌≡◌, ◌↔◌, ◌<◌, ℕ, Bool, refl, sym, subst, List, length}
use Rattle.std.specs.Prelude.{Option, Some, None}
use Rattle.heyvl_num.specs.Value.{oneᵛ}
use Rattle.heyvl_num.proofs.exported.Values.{zero-≤ᵛ-one}
use Rattle.heylo_formula.specs.Choices.{Choices}
use Rattle.heylo_formula.specs.Formula.{Form}
use Rattle.heylo_formula.specs.Goals.{Compares, Holds}
use Rattle.heylo_formula.specs.Meaning.{value}
use Rattle.heylo_formula.specs.State.{environment}
use Rattle.heylo_formula.specs.Typing.{types_in}
use Rattle.heylo_formula.specs.declared.values.Val.{Val}
use Rattle.heyvl_acts.specs.Acts.{TypedProcedure, acts_in, procedure_at, type_list, variables}
use Rattle.heyvl_acts.specs.Forward.{forward}
use Rattle.heyvl_acts.specs.Places.{in_order}
use Rattle.heyvl_acts.specs.Rules.{Each, MeetsRules}
use Rattle.heyvl_acts.specs.WellTypedActs.{ActsFit}
use Rattle.loop_encodings.specs.BoundGoals.{BoundGoal, GoalHolds, IsAtMostOne, IsBounded, invariant_in}
use Rattle.loop_encodings.specs.Encoding.{all_variables, encoding}
use Rattle.loop_encodings.specs.EncodingLaws.{EncodingIsOver}
use Rattle.vp_generator.specs.Laws.{GeneratedFormIsFormula, GeneratedFormMeansActs}
use Rattle.vp_generator.specs.Over.{GeneratedFormIsOver}
use Rattle.vp_generator.specs.PrenexedGoals.{HoldsByChoices, PrenexedGoalsSpeakOfChoices}
use Rattle.made_goals.specs.MadeGoals.{all_names}
use Rattle.verify_core.specs.GoalLaws.{MadeGoalsSayBounds}
use Rattle.verify_core.specs.Questions.{Question, form_or_zero, goal, question}
use Rattle.verify_core.proofs.AskedGoals.{IsProper, proper}
use Rattle.loop_encodings.proofs.exported.EncodedTypes.{encoding_fits}
use Rattle.loop_encodings.proofs.exported.FromRules.{each_at}

both_ways : {A B C : Type 0} → A ↔ B → A ↔ C → B ↔ C
both_ways f g = ((λ b. g.0 (f.1 b)), (λ c. f.0 (g.1 c)))

module _ (speak : PrenexedGoalsSpeakOfChoices) (means : GeneratedFormMeansActs) (formula : GeneratedFormIsFormula) (over : GeneratedFormIsOver) (encoded : EncodingIsOver) where
  by_choices : (q : Question) → IsProper q → HoldsByChoices q.upper (type_list q.variables) q.stated q.found ↔ Holds (goal q)
  by_choices q h = speak q.upper (type_list q.variables) (all_names q.variables q.found) q.stated q.found h.stated_over h.found_over

  module _ (ps : List TypedProcedure) (rules : Each (MeetsRules ps) ps) (p : ℕ) (there : p < length ps) where
    fits : ActsFit (types_in (type_list (all_variables ps (procedure_at ps p)))) (encoding ps (procedure_at ps p))
    fits = encoding_fits ps (procedure_at ps p) (λ r l. each_at (MeetsRules ps) ps r rules l) (each_at (MeetsRules ps) ps p rules there)

    pub meaning : (s : List Val) (c : Choices) → value (question ps (procedure_at ps p) BoundGoal.main).found (environment s) c ≡ forward (encoding ps (procedure_at ps p)) (value (procedure_at ps p).post) (environment s) c
    meaning s c = means (types_in (type_list (all_variables ps (procedure_at ps p)))) (encoding ps (procedure_at ps p)) (procedure_at ps p).post (environment s) c fits

    main_says : HoldsByChoices (procedure_at ps p).co (type_list (all_variables ps (procedure_at ps p))) (procedure_at ps p).pre (question ps (procedure_at ps p) BoundGoal.main).found ↔ IsBounded ps (procedure_at ps p)
    main_says = (
      (λ h s c t. subst (λ v. Compares (procedure_at ps p).co (value (procedure_at ps p).pre (environment s) Choices.stop) v) (meaning s c) (h s c t)),
      (λ h s c t. subst (λ v. Compares (procedure_at ps p).co (value (procedure_at ps p).pre (environment s) Choices.stop) v) (sym (meaning s c)) (h s c t)),
    )

    bound_says : (f : Form) → HoldsByChoices Bool.true (type_list (variables (procedure_at ps p))) (Form.number oneᵛ) f ↔ IsAtMostOne (type_list (variables (procedure_at ps p))) f
    bound_says f = ((λ h s c t. h s c t), (λ h s c t. h s c t))

    invariant_says : (n : ℕ) (o : Option Form) → invariant_in n (in_order (acts_in (procedure_at ps p).body)) ≡ o → IsAtMostOne (type_list (variables (procedure_at ps p))) (form_or_zero o) ↔ GoalHolds ps (procedure_at ps p) (BoundGoal.invariant n)
    invariant_says n None e = rw e ((λ h s c t. tt), (λ h s c t. zero-≤ᵛ-one))
    invariant_says n (Some f) e = rw e ((λ h. h), (λ h. h))

    pub said : (asked : BoundGoal) → Holds (goal (question ps (procedure_at ps p) asked)) ↔ GoalHolds ps (procedure_at ps p) asked
    said BoundGoal.main = both_ways (by_choices _ (proper formula over encoded ps rules p there BoundGoal.main)) main_says
    said BoundGoal.pre = both_ways (by_choices _ (proper formula over encoded ps rules p there BoundGoal.pre)) (bound_says (procedure_at ps p).pre)
    said BoundGoal.post = both_ways (by_choices _ (proper formula over encoded ps rules p there BoundGoal.post)) (bound_says (procedure_at ps p).post)
    said (BoundGoal.invariant n) = let f = form_or_zero (invariant_in n (in_order (acts_in (procedure_at ps p).body))) in let i = invariant_says n _ refl in let b = bound_says f in both_ways (by_choices _ (proper formula over encoded ps rules p there (BoundGoal.invariant n))) ((λ h. i.0 (b.0 h)), (λ h. b.1 (i.1 h)))

  pub made_goals_say : MadeGoalsSayBounds
  made_goals_say ps p asked rules there = said ps rules p there asked
