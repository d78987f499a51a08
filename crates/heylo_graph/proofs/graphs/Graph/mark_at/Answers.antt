use Rattle.std.proofs.Common.{sym, ◌∙◌, subst, ap}
use Rattle.heylo_graph.specs.Nodes.{tree_at}
use Rattle.heylo_graph.specs.Parts.{first, second, third}
use Rattle.heylo_graph.specs.internal.Tables.{IsBefore}
use Rattle.heylo_graph.proofs.Trees.{stands_assembled}
use Rattle.heylo_graph.proofs.PartTrees.{parts_before}
use Rattle.heylo_graph.proofs.graphs.Graph.mark_at.Goals as goal

pub mark_by-requires-clause-first : goal.mark_by-requires-clause-first
mark_by-requires-clause-first c = subst (IsBefore (first c.node.result.now)) (c.new.ensures ∙ sym c.requires.size) (parts_before c.args.self.now c.new.result c.node.result.now c.node.ensures.graph c.node.ensures.node).0

pub mark_by-requires-clause-second : goal.mark_by-requires-clause-second
mark_by-requires-clause-second c = subst (IsBefore (second c.node.result.now)) (c.new.ensures ∙ sym c.requires.size) (parts_before c.args.self.now c.new.result c.node.result.now c.node.ensures.graph c.node.ensures.node).1

pub mark_by-requires-clause-third : goal.mark_by-requires-clause-third
mark_by-requires-clause-third c = subst (IsBefore (third c.node.result.now)) (c.new.ensures ∙ sym c.requires.size) (parts_before c.args.self.now c.new.result c.node.result.now c.node.ensures.graph c.node.ensures.node).2

pub returns : goal.returns
returns c = λ t k. c.mark_by.ensures c.args.self.now t c.requires.marked (stands_assembled c.args.self.now c.new.result c.node.result.now t c.node.ensures.node (ap (tree_at c.args.self.now) c.new.ensures ∙ k))
