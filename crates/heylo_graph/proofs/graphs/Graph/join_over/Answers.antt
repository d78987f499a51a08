use Rattle.std.proofs.Common.{sym, subst}
use Rattle.heylo_graph.specs.Nodes.{IsFitting}
use Rattle.heylo_graph.specs.Parts.{with_parts}
use Rattle.heylo_graph.proofs.NodeMoves.{ok_over}
use Rattle.heylo_graph.proofs.graphs.Graph.join_over.Goals as goal

pub join-requires : goal.join-requires
join-requires c = subst (IsFitting c.args.self.now) (sym c.with_parts-next.ensures) (c.requires.fits c.node.result.now c.node.ensures.node)

pub returns-clause-tree : goal.returns-clause-tree
returns-clause-tree c = ok_over c.args.self.now c.join.new.self c.args.id c.node.result.now c.with_parts-next.result (λ n. with_parts n c.args.a c.args.b c.args.c) c.join.result c.node.ensures.node c.with_parts-next.ensures c.join.ensures.tree
