use Rattle.std.proofs.Common.{ap, subst, sym, ◌∙◌}
use Rattle.std.specs.Prelude.{IfSome}
use Rattle.heylo_formula.specs.Variables.{occurs}
use Rattle.heylo_formula.specs.PlainTrees.{form_of}
use Rattle.heylo_graph.specs.Nodes.{Stands}
use Rattle.heylo_graph.specs.Trees.{Tree}
use Rattle.heylo_graph.proofs.Trees.{same_form, tree_within}
use Rattle.heylo_graph.proofs.FreshSearch.{told_of_formula}
use Rattle.heylo_graph.proofs.graphs.Graph.in_body.Goals as goal

pub returns-in-Some : goal.returns-in-Some
returns-in-Some c = λ f s.
    let t = subst (λ o. IfSome o (λ g. Stands c.args.self.now c.args.body (Tree.formula (form_of g)))) c.in-Some.is c.requires.tree in
    c.occurs.ensures ∙ ap (occurs c.args.number) (same_form c.args.self.now c.args.body (form_of c.in-Some.form) f t s)

pub occurs-requires-in-None : goal.occurs-requires-in-None
occurs-requires-in-None c = tree_within c.args.self.now c.args.body (Tree.formula c.requires.form.form) c.requires.form.stands.tree

pub returns-in-None : goal.returns-in-None
returns-in-None c = told_of_formula c.args.self.now c.args.body c.args.number c.occurs-in-None.result c.occurs-in-None.ensures
