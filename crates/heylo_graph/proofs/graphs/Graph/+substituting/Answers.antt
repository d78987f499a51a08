use Rattle.std.proofs.Common.{rules, arith, ◌≡◌, Some, length, subst, sym}
use Rattle.heylo_formula.specs.PlainTrees.{term_of}
use Rattle.heylo_graph.specs.Trees.{subst_tree, tree_of_term}
use Rattle.heylo_graph.specs.Parts.{with_parts, with_binder}
use Rattle.heylo_graph.proofs.NodeMoves.{stays, free_here, all_moved, made_fits, made_moves, ready_longer, ready_noted, noted_here, node_later, begins_itself, begins_on, before_within, on_ok}
use Rattle.heylo_graph.proofs.SubstitutedNodes.{subst_kept, subst_changed, own_moves}
use Rattle.heylo_graph.proofs.Captures.{body_facts, captured_changed, renamed_facts, inner_stands}
use Rattle.heylo_graph.proofs.SmallParts.{SmallPart, first_small, second_small, third_small}
use Rattle.heylo_graph.proofs.Trees.{stands_longer}
use Rattle.heylo_graph.proofs.graphs.Graph.+substituting.Goals as goal

pub substituted-returns-then-not-free-index-clause-moves : goal.substituted-returns-then-not-free-index-clause-moves
substituted-returns-then-not-free-index-clause-moves t c = stays (subst_tree c.args.var (term_of c.args.with.now)) c.args.var c.args.self.now c.args.free.now c.args.notes.now.items c.args.id (subst_kept c.args.var (term_of c.args.with.now)) c.requires.ready c.requires.within (search rules)

pub substituted-returns-in-Some-clause-moves : goal.substituted-returns-in-Some-clause-moves
substituted-returns-in-Some-clause-moves t c =
    let q : c.index-3.result.now ≡ Some c.in-Some.done = search rules in
    let w = c.requires.within in
    let l = c.requires.ready.size in
    c.requires.ready.moved.each c.args.id c.in-Some.done (noted_here c.args.notes.now.items c.index-2.result c.args.id c.index-3.result.now c.in-Some.done (omega (arith, w, l)) c.index-2.ensures c.index-3.ensures q)

pub substituted-returns-clause-ready : goal.substituted-returns-clause-ready
substituted-returns-clause-ready t c = ready_noted (subst_tree c.args.var (term_of c.args.with.now)) c.args.var c.substituted_node.new.self c.args.free.now c.substituted_node.new.notes.items _ c.args.id c.in_ok-moved.moved (search rules) c.in_ok-moved.ensures.ready c.in_ok-moved.ensures.moves

pub substituted_parts-join_over-requires-clause-fits : goal.substituted_parts-join_over-requires-clause-fits
substituted_parts-join_over-requires-clause-fits t c = λ n h.
    let p = c.parts-first.ensures.parts in
    let m = all_moved (subst_tree c.args.var (term_of c.args.with.now)) c.args.self.now c.substituted_part.new.self c.substituted_part-2.new.self c.substituted_part-3.new.self c.args.id p.node c.parts-first.result.0 c.parts-first.result.1 c.parts-first.result.2 c.in_ok-a.a c.in_ok-b.b c.in_ok-c.c p.there c.in_ok-a.ensures.begins c.in_ok-b.ensures.begins c.in_ok-c.ensures.begins (p.one, p.two, p.three) c.parts-first.ensures.before c.in_ok-a.ensures.moves c.in_ok-b.ensures.moves c.in_ok-c.ensures.moves in
    let s = subst_changed c.args.var (term_of c.args.with.now) c.args.self.now c.substituted_part-3.new.self c.args.id p.node c.in_ok-a.a c.in_ok-b.b c.in_ok-c.c c.parts-first.ensures.graph p.there m (c.requires.inner p.node p.there) (c.requires.calm p.node p.there) (λ t k. free_here (subst_tree c.args.var (term_of c.args.with.now)) c.args.var c.args.self.now c.args.free.now c.args.notes.now.items c.args.id c.requires.ready c.requires.within c.requires.free t k) in
    made_fits (subst_tree c.args.var (term_of c.args.with.now)) (λ k. with_parts k c.in_ok-a.a c.in_ok-b.b c.in_ok-c.c) c.args.self.now c.substituted_part-3.new.self c.args.id p.node n c.parts-first.ensures.graph p.there m.begins s h

pub substituted_parts-returns-clause-ready : goal.substituted_parts-returns-clause-ready
substituted_parts-returns-clause-ready t c = on_ok c.join_over.result (ready_longer (subst_tree c.args.var (term_of c.args.with.now)) c.args.var c.substituted_part-3.new.self c.join_over.new.self c.args.free.now c.substituted_part-3.new.notes.items c.join_over.ensures.begins c.in_ok-c.ensures.ready)

pub substituted_parts-returns-clause-moves : goal.substituted_parts-returns-clause-moves
substituted_parts-returns-clause-moves t c =
    let p = c.parts-first.ensures.parts in
    let m = all_moved (subst_tree c.args.var (term_of c.args.with.now)) c.args.self.now c.substituted_part.new.self c.substituted_part-2.new.self c.substituted_part-3.new.self c.args.id p.node c.parts-first.result.0 c.parts-first.result.1 c.parts-first.result.2 c.in_ok-a.a c.in_ok-b.b c.in_ok-c.c p.there c.in_ok-a.ensures.begins c.in_ok-b.ensures.begins c.in_ok-c.ensures.begins (p.one, p.two, p.three) c.parts-first.ensures.before c.in_ok-a.ensures.moves c.in_ok-b.ensures.moves c.in_ok-c.ensures.moves in
    let s = subst_changed c.args.var (term_of c.args.with.now) c.args.self.now c.substituted_part-3.new.self c.args.id p.node c.in_ok-a.a c.in_ok-b.b c.in_ok-c.c c.parts-first.ensures.graph p.there m (c.requires.inner p.node p.there) (c.requires.calm p.node p.there) (λ t k. free_here (subst_tree c.args.var (term_of c.args.with.now)) c.args.var c.args.self.now c.args.free.now c.args.notes.now.items c.args.id c.requires.ready c.requires.within c.requires.free t k) in
    made_moves (subst_tree c.args.var (term_of c.args.with.now)) (λ k. with_parts k c.in_ok-a.a c.in_ok-b.b c.in_ok-c.c) c.substituted_part-3.new.self c.join_over.new.self c.args.id p.node c.join_over.result m.there s c.join_over.ensures.begins c.join_over.ensures.tree

pub captured_node-join_binder-requires-clause-fits : goal.captured_node-join_binder-requires-clause-fits
captured_node-join_binder-requires-clause-fits t c = λ n h.
    let s = term_of c.args.with.now in
    let m = c.node-node.result.now in
    let facts = body_facts s c.args.self.now c.args.id m c.args.bound c.args.body c.node-node.ensures.graph c.node-node.ensures.node (c.requires.binder m c.node-node.ensures.node) c.requires.small in
    made_fits (subst_tree c.args.var s) (λ k. with_binder k c.in_ok-number.number c.in_ok-number.inner) c.args.self.now c.captured.new.self c.args.id m n c.node-node.ensures.graph c.node-node.ensures.node c.captured.ensures.begins
    (captured_changed c.args.var s c.args.self.now c.captured.new.self c.args.id m c.args.bound c.args.body c.in_ok-number.number c.in_ok-number.inner c.node-node.ensures.graph c.node-node.ensures.node c.captured.ensures.begins facts.within (c.requires.binder m c.node-node.ensures.node) c.requires.occurs c.requires.free c.in_ok-number.ensures.number c.in_ok-number.ensures.inner)
    h

pub captured_node-returns-clause-moves : goal.captured_node-returns-clause-moves
captured_node-returns-clause-moves t c =
    let s = term_of c.args.with.now in
    let m = c.node-node.result.now in
    let facts = body_facts s c.args.self.now c.args.id m c.args.bound c.args.body c.node-node.ensures.graph c.node-node.ensures.node (c.requires.binder m c.node-node.ensures.node) c.requires.small in
    made_moves (subst_tree c.args.var s) (λ k. with_binder k c.in_ok-number.number c.in_ok-number.inner) c.captured.new.self c.join_binder.new.self c.args.id m c.join_binder.result (node_later c.args.self.now c.captured.new.self c.args.id m c.captured.ensures.begins c.node-node.ensures.node)
    (captured_changed c.args.var s c.args.self.now c.captured.new.self c.args.id m c.args.bound c.args.body c.in_ok-number.number c.in_ok-number.inner c.node-node.ensures.graph c.node-node.ensures.node c.captured.ensures.begins facts.within (c.requires.binder m c.node-node.ensures.node) c.requires.occurs c.requires.free c.in_ok-number.ensures.number c.in_ok-number.ensures.inner)
    c.join_binder.ensures.begins c.join_binder.ensures.tree

pub captured-returns-clause-inner : goal.captured-returns-clause-inner
captured-returns-clause-inner t c = λ f h. inner_stands c.args.var (term_of c.args.with.now) c.args.bound c.in_ok-number.number c.args.self.now c.rename.new.self c.substituted_anew.new.self c.args.body c.in_ok-renamed.renamed c.in_ok-inner.inner f c.rename.ensures.begins c.substituted_anew.ensures.begins c.in_ok-renamed.ensures.moves c.in_ok-inner.ensures.moves (c.in_ok-number.ensures f h) h

pub captured-fresh_number-requires-clause-form : goal.captured-fresh_number-requires-clause-form
captured-fresh_number-requires-clause-form t c = (body_facts (term_of c.args.with.now) c.args.self.now c.args.id c.node-node.result.now c.args.bound c.args.body c.node-node.ensures.graph c.node-node.ensures.node (c.requires.binder c.node-node.result.now c.node-node.ensures.node) c.requires.small).form

pub captured-fresh_number-requires-clause-small : goal.captured-fresh_number-requires-clause-small
captured-fresh_number-requires-clause-small t c = (body_facts (term_of c.args.with.now) c.args.self.now c.args.id c.node-node.result.now c.args.bound c.args.body c.node-node.ensures.graph c.node-node.ensures.node (c.requires.binder c.node-node.result.now c.node-node.ensures.node) c.requires.small).small

pub captured-rename-requires : goal.captured-rename-requires
captured-rename-requires t c = (body_facts (term_of c.args.with.now) c.args.self.now c.args.id c.node-node.result.now c.args.bound c.args.body c.node-node.ensures.graph c.node-node.ensures.node (c.requires.binder c.node-node.result.now c.node-node.ensures.node) c.requires.small).within

pub captured-substituted_anew-requires : goal.captured-substituted_anew-requires
captured-substituted_anew-requires t c =
    let s = term_of c.args.with.now in
    let b = body_facts s c.args.self.now c.args.id c.node-node.result.now c.args.bound c.args.body c.node-node.ensures.graph c.node-node.ensures.node (c.requires.binder c.node-node.result.now c.node-node.ensures.node) c.requires.small in
    let r = renamed_facts s c.args.bound c.in_ok-number.number c.args.self.now c.rename.new.self c.args.id c.args.body c.in_ok-renamed.renamed b c.rename.ensures.begins c.in_ok-renamed.ensures.moves in
    let l = r.less in
    let d = c.decreases in
    (omega (arith, l, d), (r.within, (stands_longer c.args.self.now c.rename.new.self c.args.put (tree_of_term s) c.rename.ensures.begins c.requires.term, r.small)))

pub substituted_node-returns-in-Some-clause-ready : goal.substituted_node-returns-in-Some-clause-ready
substituted_node-returns-in-Some-clause-ready t c = on_ok c.captured_node.result (ready_longer (subst_tree c.args.var (term_of c.args.with.now)) c.args.var c.args.self.now c.captured_node.new.self c.args.free.now c.args.notes.now.items c.captured_node.ensures.begins c.requires.ready)

pub substituted_parts-substituted_part-requires : goal.substituted_parts-substituted_part-requires
substituted_parts-substituted_part-requires t c =
    let s = term_of c.args.with.now in
    let ns = c.args.self.now in
    let p = c.parts-first.ensures.parts in
    let k = subst (SmallPart s ns ns c.args.id) (sym p.one) (first_small s ns ns c.args.id p.node c.parts-first.ensures.graph p.there (begins_itself ns) c.requires.small) in
    let l = k.less in
    let d = c.decreases in
    (omega (arith, l, d), (before_within c.parts-first.result.0 c.args.id (length c.args.free.now) c.parts-first.ensures.before.0 c.requires.within, (c.requires.term, (k.small, c.requires.ready))))

pub substituted_parts-substituted_part-requires-2 : goal.substituted_parts-substituted_part-requires-2
substituted_parts-substituted_part-requires-2 t c =
    let s = term_of c.args.with.now in
    let ns = c.args.self.now in
    let new = c.substituted_part.new.self in
    let b = c.in_ok-a.ensures.begins in
    let p = c.parts-first.ensures.parts in
    let k = subst (SmallPart s ns new c.args.id) (sym p.two) (second_small s ns new c.args.id p.node c.parts-first.ensures.graph p.there b c.requires.small) in
    let l = k.less in
    let d = c.decreases in
    (omega (arith, l, d), (before_within c.parts-first.result.1 c.args.id (length c.args.free.now) c.parts-first.ensures.before.1 c.requires.within, (stands_longer ns new c.args.put (tree_of_term s) b c.requires.term, (k.small, c.in_ok-a.ensures.ready))))

pub substituted_parts-substituted_part-requires-3 : goal.substituted_parts-substituted_part-requires-3
substituted_parts-substituted_part-requires-3 t c =
    let s = term_of c.args.with.now in
    let ns = c.args.self.now in
    let new = c.substituted_part-2.new.self in
    let b = begins_on ns c.substituted_part.new.self new c.in_ok-a.ensures.begins c.in_ok-b.ensures.begins in
    let p = c.parts-first.ensures.parts in
    let k = subst (SmallPart s ns new c.args.id) (sym p.three) (third_small s ns new c.args.id p.node c.parts-first.ensures.graph p.there b c.requires.small) in
    let l = k.less in
    let d = c.decreases in
    (omega (arith, l, d), (before_within c.parts-first.result.2 c.args.id (length c.args.free.now) c.parts-first.ensures.before.2 c.requires.within, (stands_longer ns new c.args.put (tree_of_term s) b c.requires.term, (k.small, c.in_ok-b.ensures.ready))))

pub calm_node-returns-in-Some-clause-ready : goal.calm_node-returns-in-Some-clause-ready
calm_node-returns-in-Some-clause-ready t c = on_ok c.put_for.result (ready_longer (subst_tree c.args.var (term_of c.args.with.now)) c.args.var c.args.self.now c.put_for.new.self c.args.free.now c.args.notes.now.items c.put_for.ensures.begins c.requires.ready)

pub calm_node-returns-in-Some-clause-moves : goal.calm_node-returns-in-Some-clause-moves
calm_node-returns-in-Some-clause-moves t c =
    let n = c.leaf.ensures.node in
    let v = c.in-Some.ensures.some n.0 n.1 in
    own_moves c.args.var (term_of c.args.with.now) c.args.self.now c.put_for.new.self c.args.id n.0 c.in-Some.flag v.1 c.put_for.result c.leaf.ensures.graph n.1 v.2 v.0 c.put_for.ensures.begins (λ t k. free_here (subst_tree c.args.var (term_of c.args.with.now)) c.args.var c.args.self.now c.args.free.now c.args.notes.now.items c.args.id c.requires.ready c.requires.within c.requires.free t k) c.put_for.ensures.tree
