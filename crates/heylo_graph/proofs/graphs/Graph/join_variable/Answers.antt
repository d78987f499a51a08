use Rattle.std.proofs.Common.{sym, ap, subst, ◌∙◌}
use Rattle.heylo_graph.specs.Trees.{renamed_tree}
use Rattle.heylo_graph.specs.Nodes.{IsFitting, assembled, tree_at}
use Rattle.heylo_graph.proofs.NodeMoves.{begins_itself, ok_moves, tree_here}
use Rattle.heylo_graph.proofs.RenamedNodes.{renamed_own, variable_fits}
use Rattle.heylo_graph.proofs.graphs.Graph.join_variable.Goals as goal

pub join-requires : goal.join-requires
join-requires c = let v = c.requires.variable c.node.result.now c.node.ensures.node in subst (IsFitting c.args.self.now) (sym c.with_variable-next.ensures) (variable_fits c.args.self.now c.node.result.now v.0 c.args.to v.1)

pub returns-clause-tree : goal.returns-clause-tree
returns-clause-tree c = λ from f.
    let v = c.requires.variable c.node.result.now c.node.ensures.node in
    let ns = c.args.self.now in
    let n = c.node.result.now in
    ok_moves (renamed_tree from c.args.to) ns c.join.new.self c.args.id n c.with_variable-next.result c.join.result c.node.ensures.node c.join.ensures.begins
    (record { changed = λ t a. ap (assembled (tree_at ns)) c.with_variable-next.ensures ∙ renamed_own from c.args.to ns n v.0 t v.1 (f t (tree_here ns ns c.args.id n t c.node.ensures.graph c.node.ensures.node (begins_itself ns) a)) a })
    c.join.ensures.tree
