use Rattle.std.proofs.Common.{ap, ◌∙◌, map, true}
use Rattle.std.proofs.lemmas.Result.{IfOk-weaker}
use Rattle.heylo_formula.proofs.exported.Mirrors.{number_form}
use Rattle.heylo_formula.specs.Formula.{Form}
use Rattle.heylo_formula.specs.PlainTrees.{form_of}
use Rattle.heyvl_acts.specs.PlainActs.{procedure_of, variable_of}
use Rattle.made_goals.specs.MadeGoals.{goal_over}
use Rattle.vp_generator.specs.PrenexedGoals.{IsMadeWithin}
use Rattle.verify_core.specs.Questions.{IsMadeOf, one_bound}
use Rattle.verify_core.proofs.MainGoals.{bound_made}
use Rattle.verify_core.proofs.procedure_goals.bound_goal.Goals as goal

pub returns : goal.returns
returns c = IfOk-weaker _ (λ made. IsMadeWithin (form_of c.args.form) (goal_over true (map variable_of c.deref.result.now) (form_of _) (form_of c.args.form)) made) (λ made. IsMadeOf (one_bound (procedure_of c.args.procedure.now) (form_of c.args.form)) made) (λ made h. bound_made c.args.procedure.now c.deref.result.now (form_of c.args.form) _ made c.deref.ensures.value (number_form _ ∙ ap Form.number c.one.ensures) h) c.goal_over.ensures
