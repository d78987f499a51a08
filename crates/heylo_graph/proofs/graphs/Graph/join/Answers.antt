use Rattle.std.proofs.Common.{Some, slice_get, ap, subst, sym, ◌∙◌}
use Rattle.heylo_graph.specs.Nodes.{assembled, tree_at, Stands}
use Rattle.heylo_graph.proofs.Trees.{graph_inserted, begins_inserted, joined_as, stands_joined}
use Rattle.heylo_graph.proofs.SameNodes.{node_is}
use Rattle.heylo_graph.proofs.SameTrees.{adds_none, found_at}
use Rattle.heylo_graph.proofs.StoredSizes.{stored_after}
use Rattle.heylo_graph.proofs.graphs.Graph.join.Goals as goal

pub invariant_of-self-2 : goal.invariant_of-self-2
invariant_of-self-2 c =
    stored_after c.self.inside.nodes.keys c.insert_full-result.new.self.keys c.args.node c.requires.tree c.self.inside.sizes.items c.push.new.self.items c.truncate.new.self.items c.size_over-size.result c.len-len.result _
    c.self.invariant (ap (λ l. assembled (tree_at l) c.args.node) c.self.view_is ∙ c.requires.stands) (c.size_over-size.ensures c.requires.tree c.requires.stands) c.in_ok-index.ensures.keys c.len-len.ensures.len c.in_ok-push.ensures.items c.truncate.ensures.items

pub returns-clause-last : goal.returns-clause-last
returns-clause-last c = joined_as c.self.inside.nodes.keys c.insert_full-result.new.self.keys _ c.args.node _ c.self.view_is c.in_ok-index.ensures.keys

pub returns-clause-joined : goal.returns-clause-joined
returns-clause-joined c =
    let s = c.in_ok-index.ensures.stored in
    ap (slice_get c.insert_full-result.new.self.keys) c.new.ensures ∙ s.1 ∙ ap Some (sym (node_is c.args.node s.0 s.2))

pub returns-clause-tree : goal.returns-clause-tree
returns-clause-tree c = λ t e.
    let s = c.in_ok-index.ensures.stored in
    let a = ap (λ l. assembled (tree_at l) c.args.node) c.self.view_is ∙ e in
    stands_joined c.self.inside.nodes.keys c.insert_full-result.new.self.keys c.new.result c.args.node t
    (graph_inserted c.self.inside.nodes.keys c.insert_full-result.new.self.keys c.args.node t _ c.self.invariant.graph a c.in_ok-index.ensures.keys)
    (begins_inserted c.self.inside.nodes.keys c.insert_full-result.new.self.keys c.args.node _ c.in_ok-index.ensures.keys)
    (ap (slice_get c.insert_full-result.new.self.keys) c.new.ensures ∙ s.1 ∙ ap Some (sym (node_is c.args.node s.0 s.2)))
    a

pub returns-clause-present : goal.returns-clause-present
returns-clause-present c = λ t s e.
    let old = c.self.inside.nodes.keys in
    adds_none old c.insert_full-result.new.self.keys c.args.node s.number t c.self.invariant.graph c.len-count.ensures.unique (subst (λ l. Stands l s.number t) (sym c.self.view_is) s.stands) (ap (λ l. assembled (tree_at l) c.args.node) c.self.view_is ∙ e) c.in_ok-index.ensures.keys ∙ c.self.view_is

pub returns-clause-number : goal.returns-clause-number
returns-clause-number c = λ i t h e.
    let old = c.self.inside.nodes.keys in
    let s = c.in_ok-index.ensures.stored in
    found_at old c.insert_full-result.new.self.keys c.args.node i c.new.result t c.self.invariant.graph c.len-count.ensures.unique (subst (λ l. Stands l i t) (sym c.self.view_is) h) (ap (λ l. assembled (tree_at l) c.args.node) c.self.view_is ∙ e) c.in_ok-index.ensures.keys
    (ap (slice_get c.insert_full-result.new.self.keys) c.new.ensures ∙ s.1 ∙ ap Some (sym (node_is c.args.node s.0 s.2)))
