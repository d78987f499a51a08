use Rattle.heylo_formula.specs.PlainTrees.{term_of}
use Rattle.heylo_graph.specs.Trees.{Tree}
use Rattle.heylo_graph.proofs.Trees.{tree_within}
use Rattle.heylo_graph.proofs.Readings.{form_stands}
use Rattle.heylo_graph.proofs.graphs.Graph.tree.Goals as goal

pub read-requires : goal.read-requires
read-requires c = tree_within c.args.self.now c.args.id (Tree.formula c.requires.form) c.requires.stands.tree

pub returns : goal.returns
returns c = form_stands c.args.self.now c.args.id (term_of c.in_ok-term.term) _ c.requires c.in_ok-term.ensures c.as_form.ensures
