use Rattle.std.proofs.Common.{ap, ◌∙◌}
use Rattle.heylo_formula.specs.PlainTrees.{form_of}
use Rattle.vp_generator.specs.PrenexedGoals.{names_of_variables, types_of_variables}
use Rattle.made_goals.proofs.MadeUpperGoals.{made_upper}
use Rattle.made_goals.proofs.upper_goals.upper_goal.Goals as goal

pub returns : goal.returns
returns c = made_upper c.args.vars.items c.in_ok-without.without.vars.items (form_of c.args.stated) (form_of c.in_ok-without.without.form) (form_of c.args.found) c.in_ok-types.types.items c.in_ok-names.names.items c.len-own.result c.requires.named c.in_ok-without.ensures.tree c.in_ok-without.ensures.vars (c.in_ok-types.ensures ∙ ap types_of_variables c.deref.ensures.value) (c.in_ok-names.ensures ∙ ap names_of_variables c.deref-2.ensures.value) (c.len-own.ensures ∙ c.args.vars.ok.0)
