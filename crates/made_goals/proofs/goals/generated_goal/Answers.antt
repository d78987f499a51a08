use Rattle.std.proofs.Common.{refl, map}
use Rattle.heylo_formula.specs.PlainTrees.{form_of}
use Rattle.heyvl_acts.specs.PlainActs.{acts_of, variable_of}
use Rattle.vp_generator.specs.GeneratedForms.{vp}
use Rattle.made_goals.proofs.MadeForms.{fit_as, made_as, named_as, too_deep, too_large, vp_is}
use Rattle.made_goals.proofs.goals.generated_goal.Goals as goal

pub vp-requires : goal.vp-requires
vp-requires c = fit_as _ (acts_of c.args.acts.now) _ (form_of c.args.post.now) refl c.in_ok-copy.ensures c.requires.fit

pub goal_over-requires-clause-named : goal.goal_over-requires-clause-named
goal_over-requires-clause-named c = named_as _ _ (form_of c.in-Ok.found) (vp (acts_of c.args.acts.now) (form_of c.args.post.now)) refl (vp_is (acts_of c.args.acts.now) _ (form_of c.args.post.now) (form_of c.in-Ok.found) c.in-Ok.ensures.0 c.in_ok-copy.ensures) c.requires.named

pub returns-in-Ok : goal.returns-in-Ok
returns-in-Ok c = made_as c.args.upper (map variable_of c.args.vars.now) (form_of c.args.stated.now) (form_of c.in-Ok.found) (vp (acts_of c.args.acts.now) (form_of c.args.post.now)) c.goal_over.result (vp_is (acts_of c.args.acts.now) _ (form_of c.args.post.now) (form_of c.in-Ok.found) c.in-Ok.ensures.0 c.in_ok-copy.ensures) c.goal_over.ensures

pub returns-in-Err-Depth : goal.returns-in-Err-Depth
returns-in-Err-Depth c = too_deep (acts_of c.args.acts.now) (form_of c.in_ok-copy.field-0) (form_of c.args.post.now) (rw c.in-Err-Depth.field-0-is at c.in-Err-Depth.ensures) c.in_ok-copy.ensures

pub returns-in-Err-Nodes : goal.returns-in-Err-Nodes
returns-in-Err-Nodes c = too_large (acts_of c.args.acts.now) (form_of c.in_ok-copy.field-0) (form_of c.args.post.now) (rw c.in-Err-Nodes.field-0-is at c.in-Err-Nodes.ensures) c.in_ok-copy.ensures
