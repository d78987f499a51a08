use Rattle.std.proofs.Common.{arith, refl}
use Rattle.heylo_formula.specs.PlainTrees.{form_of}
use Rattle.made_goals.proofs.MadeForms.{made_of_copies, named_as, same_many}
use Rattle.made_goals.proofs.goals.goal_over.Goals as goal

pub goal_of_forms-requires-clause-few : goal.goal_of_forms-requires-clause-few
goal_of_forms-requires-clause-few c = let m = same_many c.in_ok-own.own.items c.args.vars.now c.in_ok-own.ensures in let f = c.requires.few in omega (arith, m, f)

pub goal_of_forms-requires-clause-named : goal.goal_of_forms-requires-clause-named
goal_of_forms-requires-clause-named c = named_as _ _ (form_of c.args.found) (form_of c.args.found) (same_many c.in_ok-own.own.items c.args.vars.now c.in_ok-own.ensures) refl c.requires.named

pub returns : goal.returns
returns c = made_of_copies c.args.upper c.in_ok-own.own.items c.args.vars.now (form_of c.in_ok-copy.field-0) (form_of c.args.stated.now) (form_of c.args.found) c.goal_of_forms.result c.in_ok-own.ensures c.in_ok-copy.ensures (named_as _ _ (form_of c.args.found) (form_of c.args.found) (same_many c.in_ok-own.own.items c.args.vars.now c.in_ok-own.ensures) refl c.requires.named) c.goal_of_forms.ensures
