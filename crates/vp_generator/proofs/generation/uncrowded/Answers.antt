use Rattle.heylo_graph.specs.Trees.{Tree}
use Rattle.heylo_graph.proofs.exported.LongerLists.{tree_within}
use Rattle.vp_generator.proofs.generation.uncrowded.Goals as goal

pub nodes-requires : goal.nodes-requires
nodes-requires c = tree_within c.args.graph c.args.form (Tree.formula c.requires.form) c.requires.stands.tree
