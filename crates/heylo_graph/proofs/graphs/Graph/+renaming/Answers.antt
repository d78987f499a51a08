use Rattle.std.proofs.Common.{rules, arith, ◌≡◌, Some}
use Rattle.heylo_graph.specs.Trees.{renamed_tree}
use Rattle.heylo_graph.specs.Parts.{with_parts}
use Rattle.heylo_graph.proofs.NodeMoves.{stays, free_here, all_moved, made_fits, made_moves, ready_longer, ready_noted, noted_here, on_ok}
use Rattle.heylo_graph.proofs.RenamedNodes.{renamed_kept, renamed_changed}
use Rattle.heylo_graph.proofs.graphs.Graph.+renaming.Goals as goal

pub renamed-returns-then-not-free-index-clause-moves : goal.renamed-returns-then-not-free-index-clause-moves
renamed-returns-then-not-free-index-clause-moves t c = stays (renamed_tree c.args.from c.args.to) c.args.from c.args.self.now c.args.free.now c.args.notes.now.items c.args.id (renamed_kept c.args.from c.args.to) c.requires.ready c.requires.within (search rules)

pub renamed-returns-in-Some-clause-moves : goal.renamed-returns-in-Some-clause-moves
renamed-returns-in-Some-clause-moves t c =
    let q : c.index-3.result.now ≡ Some c.in-Some.done = search rules in
    let w = c.requires.within in
    let l = c.requires.ready.size in
    c.requires.ready.moved.each c.args.id c.in-Some.done (noted_here c.args.notes.now.items c.index-2.result c.args.id c.index-3.result.now c.in-Some.done (omega (arith, w, l)) c.index-2.ensures c.index-3.ensures q)

pub renamed-returns-clause-ready : goal.renamed-returns-clause-ready
renamed-returns-clause-ready t c = ready_noted (renamed_tree c.args.from c.args.to) c.args.from c.renamed_node.new.self c.args.free.now c.renamed_node.new.notes.items _ c.args.id c.in_ok-moved.moved (search rules) c.in_ok-moved.ensures.ready c.in_ok-moved.ensures.moves

pub renamed_parts-join_over-requires-clause-fits : goal.renamed_parts-join_over-requires-clause-fits
renamed_parts-join_over-requires-clause-fits t c = λ n h.
    let p = c.parts-first.ensures.parts in
    let m = all_moved (renamed_tree c.args.from c.args.to) c.args.self.now c.renamed_part.new.self c.renamed_part-2.new.self c.renamed_part-3.new.self c.args.id p.node c.parts-first.result.0 c.parts-first.result.1 c.parts-first.result.2 c.in_ok-a.a c.in_ok-b.b c.in_ok-c.c p.there c.in_ok-a.ensures.begins c.in_ok-b.ensures.begins c.in_ok-c.ensures.begins (p.one, p.two, p.three) c.parts-first.ensures.before c.in_ok-a.ensures.moves c.in_ok-b.ensures.moves c.in_ok-c.ensures.moves in
    let s = renamed_changed c.args.from c.args.to c.args.self.now c.renamed_part-3.new.self c.args.id p.node c.in_ok-a.a c.in_ok-b.b c.in_ok-c.c c.parts-first.ensures.graph p.there m (c.requires.inner p.node p.there) (λ t k. free_here (renamed_tree c.args.from c.args.to) c.args.from c.args.self.now c.args.free.now c.args.notes.now.items c.args.id c.requires.ready c.requires.within c.requires.free t k) in
    made_fits (renamed_tree c.args.from c.args.to) (λ k. with_parts k c.in_ok-a.a c.in_ok-b.b c.in_ok-c.c) c.args.self.now c.renamed_part-3.new.self c.args.id p.node n c.parts-first.ensures.graph p.there m.begins s h

pub renamed_parts-returns-clause-ready : goal.renamed_parts-returns-clause-ready
renamed_parts-returns-clause-ready t c = on_ok c.join_over.result (ready_longer (renamed_tree c.args.from c.args.to) c.args.from c.renamed_part-3.new.self c.join_over.new.self c.args.free.now c.renamed_part-3.new.notes.items c.join_over.ensures.begins c.in_ok-c.ensures.ready)

pub renamed_parts-returns-clause-moves : goal.renamed_parts-returns-clause-moves
renamed_parts-returns-clause-moves t c =
    let p = c.parts-first.ensures.parts in
    let m = all_moved (renamed_tree c.args.from c.args.to) c.args.self.now c.renamed_part.new.self c.renamed_part-2.new.self c.renamed_part-3.new.self c.args.id p.node c.parts-first.result.0 c.parts-first.result.1 c.parts-first.result.2 c.in_ok-a.a c.in_ok-b.b c.in_ok-c.c p.there c.in_ok-a.ensures.begins c.in_ok-b.ensures.begins c.in_ok-c.ensures.begins (p.one, p.two, p.three) c.parts-first.ensures.before c.in_ok-a.ensures.moves c.in_ok-b.ensures.moves c.in_ok-c.ensures.moves in
    let s = renamed_changed c.args.from c.args.to c.args.self.now c.renamed_part-3.new.self c.args.id p.node c.in_ok-a.a c.in_ok-b.b c.in_ok-c.c c.parts-first.ensures.graph p.there m (c.requires.inner p.node p.there) (λ t k. free_here (renamed_tree c.args.from c.args.to) c.args.from c.args.self.now c.args.free.now c.args.notes.now.items c.args.id c.requires.ready c.requires.within c.requires.free t k) in
    made_moves (renamed_tree c.args.from c.args.to) (λ k. with_parts k c.in_ok-a.a c.in_ok-b.b c.in_ok-c.c) c.renamed_part-3.new.self c.join_over.new.self c.args.id p.node c.join_over.result m.there s c.join_over.ensures.begins c.join_over.ensures.tree

pub renamed_node-returns-then-is_some-clause-ready : goal.renamed_node-returns-then-is_some-clause-ready
renamed_node-returns-then-is_some-clause-ready t c = on_ok c.join_variable.result (ready_longer (renamed_tree c.args.from c.args.to) c.args.from c.args.self.now c.join_variable.new.self c.args.free.now c.args.notes.now.items c.join_variable.ensures.begins c.requires.ready)

pub renamed_node-returns-then-is_some-clause-moves : goal.renamed_node-returns-then-is_some-clause-moves
renamed_node-returns-then-is_some-clause-moves t c = c.join_variable.ensures.tree c.args.from (λ t k. free_here (renamed_tree c.args.from c.args.to) c.args.from c.args.self.now c.args.free.now c.args.notes.now.items c.args.id c.requires.ready c.requires.within c.requires.free t k)
