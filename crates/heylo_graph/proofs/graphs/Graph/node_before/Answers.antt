use Rattle.heylo_graph.proofs.PartTrees.{parts_before}
use Rattle.heylo_graph.proofs.graphs.Graph.node_before.Goals as goal

pub returns-clause-first : goal.returns-clause-first
returns-clause-first c = (parts_before c.args.self.now c.args.id c.node.result.now c.node.ensures.graph c.node.ensures.node).0

pub returns-clause-second : goal.returns-clause-second
returns-clause-second c = (parts_before c.args.self.now c.args.id c.node.result.now c.node.ensures.graph c.node.ensures.node).1

pub returns-clause-third : goal.returns-clause-third
returns-clause-third c = (parts_before c.args.self.now c.args.id c.node.result.now c.node.ensures.graph c.node.ensures.node).2
