use Rattle.heylo_graph.specs.Trees.{Tree}
use Rattle.heylo_graph.proofs.Trees.{tree_within}
use Rattle.heylo_graph.proofs.graphs.Graph.small_tree.Goals as goal

pub nodes-requires : goal.nodes-requires
nodes-requires c = tree_within c.args.self.now c.args.id (Tree.formula c.requires.form) c.requires.stands.tree
