use Rattle.std.proofs.Common.{ap, ◌∙◌, arith}
use Rattle.heylo_formula.specs.PlainTrees.{form_of}
use Rattle.vp_generator.specs.PrenexedGoals.{types_of_variables, names_of_variables}
use Rattle.vp_generator.proofs.BinderCounts.{binders_few}
use Rattle.vp_generator.proofs.MadeGoals.{made_goal}
use Rattle.vp_generator.proofs.goals.goal_of_forms.Goals as goal

pub prenex-requires-clause-few : goal.prenex-requires-clause-few
prenex-requires-clause-few c =
    let b = binders_few (form_of c.args.found) in let n = c.nodes.ensures in
    let l = c.if-nodes-gt-MOST_NODES.false in let r = c.requires.few in
    omega (arith, b, n, l, r)

pub returns : goal.returns
returns c =
    let n = c.nodes.ensures in let l = c.if-nodes-gt-MOST_NODES.false in
    let d = c.depth.ensures in let m = c.if-depth-gt-DEEPEST.false in (
      made_goal c.args.upper (form_of c.args.stated) (form_of c.args.found) (form_of c.in_ok-without.without.form) c.args.vars.items c.in_ok-without.without.vars.items c.in_ok-types.types.items c.in_ok-names.names.items c.len-own.result c.in_ok-without.ensures.tree c.in_ok-without.ensures.vars (c.in_ok-types.ensures ∙ ap types_of_variables c.deref.ensures.value) (c.in_ok-names.ensures ∙ ap names_of_variables c.deref-2.ensures.value) (c.len-own.ensures ∙ c.args.vars.ok.0),
      record { few = omega (arith, n, l); shallow = omega (arith, d, m) },
    )
