use Rattle.std.proofs.Common.{ap, subst, sym, ◌∙◌, List, map}
use Rattle.std.proofs.lemmas.Result.{IfOk-weaker}
use Rattle.heylo_formula.specs.PlainTrees.{form_of}
use Rattle.heylo_formula.specs.Typing.{IsFormula, types_in}
use Rattle.heyvl_acts.specs.Acts.{TypedProcedure, procedure_at, type_list}
use Rattle.heyvl_acts.specs.PlainActs.{acts_of, procedures_of, variable_of}
use Rattle.heyvl_acts.specs.WellTypedActs.{ActsFit}
use Rattle.heyvl_acts.specs.declared.typed_trees.VarInfo.{VarInfo}
use Rattle.loop_encodings.specs.BoundGoals.{BoundGoal}
use Rattle.made_goals.specs.MadeGoals.{goal_over}
use Rattle.vp_generator.specs.GeneratedForms.{vp}
use Rattle.vp_generator.specs.PrenexedGoals.{IsMadeWithin}
use Rattle.verify_core.specs.Questions.{IsMadeOf, question}
use Rattle.verify_core.proofs.MainGoals.{here, main_few, main_made, main_named}
use Rattle.verify_core.proofs.procedure_goals.main_goal.Goals as goal

pub generated_goal-requires-clause-few : goal.generated_goal-requires-clause-few
generated_goal-requires-clause-few c = main_few c.args.typed.now c.args.p c.index-procedure.result.now c.requires.rules c.requires.there c.index-procedure.ensures c.deref.result.now (ap (λ (l : List VarInfo). map variable_of l) c.deref.ensures.value ∙ c.in_ok-encoded.ensures.vars)

pub generated_goal-requires-clause-fit : goal.generated_goal-requires-clause-fit
generated_goal-requires-clause-fit c =
    let vs = map variable_of c.in_ok-encoded.encoded.vars.items in
    record {
      types = types_in (type_list vs);
      fit = subst (λ a. ActsFit (types_in (type_list vs)) (acts_of a)) (sym c.deref-2.ensures.value) c.in_ok-encoded.ensures.typed;
      formula = subst (λ f. IsFormula (types_in (type_list vs)) f) (ap (λ (y : TypedProcedure). y.post) (here c.args.typed.now c.args.p c.index-procedure.result.now c.requires.rules c.requires.there c.index-procedure.ensures)) c.in_ok-encoded.ensures.post;
    }

pub generated_goal-requires-clause-named : goal.generated_goal-requires-clause-named
generated_goal-requires-clause-named c = main_named c.args.typed.now c.args.p c.index-procedure.result.now c.requires.rules c.requires.there c.index-procedure.ensures c.deref.result.now (ap (λ (l : List VarInfo). map variable_of l) c.deref.ensures.value ∙ c.in_ok-encoded.ensures.vars) c.deref-2.result.now (ap acts_of c.deref-2.ensures.value ∙ c.in_ok-encoded.ensures.acts) c.generated_form_means_acts.ensures.named c.encodings_are_over_their_variables.ensures.binds c.requires.rules.named

pub returns : goal.returns
returns c = IfOk-weaker _ (λ made. IsMadeWithin (vp (acts_of c.deref-2.result.now) (form_of c.index-procedure.result.now.post)) (goal_over c.index-procedure.result.now.co (map variable_of c.deref.result.now) (form_of c.index-procedure.result.now.pre) (vp (acts_of c.deref-2.result.now) (form_of c.index-procedure.result.now.post))) made) (λ made. IsMadeOf (question (procedures_of c.args.typed.now) (procedure_at (procedures_of c.args.typed.now) c.args.p) BoundGoal.main) made) (λ made h. main_made c.args.typed.now c.args.p c.index-procedure.result.now c.requires.rules c.requires.there c.index-procedure.ensures c.deref.result.now (ap (λ (l : List VarInfo). map variable_of l) c.deref.ensures.value ∙ c.in_ok-encoded.ensures.vars) c.deref-2.result.now (ap acts_of c.deref-2.ensures.value ∙ c.in_ok-encoded.ensures.acts) made h) c.generated_goal.ensures
