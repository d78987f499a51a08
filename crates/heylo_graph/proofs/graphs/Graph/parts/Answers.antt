use Rattle.std.proofs.Common.{sym, subst}
use Rattle.heylo_graph.specs.internal.Tables.{IsBefore}
use Rattle.heylo_graph.proofs.PartTrees.{parts_before}
use Rattle.heylo_graph.proofs.graphs.Graph.parts.Goals as goal

pub returns-clause-parts : goal.returns-clause-parts
returns-clause-parts c = record { node = c.node-node.result.now; there = c.node-node.ensures.node; one = c.first.ensures; two = c.second.ensures; three = c.third.ensures }

pub returns-clause-before : goal.returns-clause-before
returns-clause-before c =
    let p = parts_before c.args.self.now c.args.id c.node-node.result.now c.node-node.ensures.graph c.node-node.ensures.node in
    (subst (λ q. IsBefore q c.args.id) (sym c.first.ensures) p.0, subst (λ q. IsBefore q c.args.id) (sym c.second.ensures) p.1, subst (λ q. IsBefore q c.args.id) (sym c.third.ensures) p.2)
