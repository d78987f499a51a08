use Rattle.std.proofs.Common.{rules, arith, ◌≡◌, ◌<◌, false, get_or, length, Some, sym, ap, subst, ◌∙◌}
use Rattle.heylo_formula.specs.PlainTrees.{term_of}
use Rattle.heylo_graph.specs.Trees.{Tree, subst_tree}
use Rattle.heylo_graph.specs.internal.Tables.{IsReady}
use Rattle.heylo_graph.proofs.Trees.{tree_within}
use Rattle.heylo_graph.proofs.NodeMoves.{same_before, ready_begun, ready_longer}
use Rattle.heylo_graph.proofs.SubstitutedNodes.{subst_kept}
use Rattle.heylo_graph.proofs.graphs.Graph.substituted_in.Goals as goal

pub marks-requires : goal.marks-requires
marks-requires c = tree_within c.args.self.now c.args.id (Tree.formula c.requires.form.form) c.requires.form.stands.tree

pub returns-then-not-index-clause-moves : goal.returns-then-not-index-clause-moves
returns-then-not-index-clause-moves c =
    let f : get_or c.in_ok-free.free.items c.args.id false ≡ false = search rules in
    let l : c.args.id < length c.in_ok-free.free.items = let e = c.in_ok-free.ensures.len in omega (arith, e) in
    record { moves = λ t k. k ∙ ap Some (sym (subst_kept c.args.var (term_of c.args.with.now) t (sym (c.in_ok-free.ensures.marked.each c.args.id t l k) ∙ f))) }

pub substituted-requires-clause-small : goal.substituted-requires-clause-small
substituted-requires-clause-small c = λ t k. c.requires.small t (same_before c.args.self.now c.put_term.new.self c.args.id t c.put_term.ensures.begins (tree_within c.args.self.now c.args.id (Tree.formula c.requires.form.form) c.requires.form.stands.tree) k)

pub substituted-requires-clause-ready : goal.substituted-requires-clause-ready
substituted-requires-clause-ready c =
    let s = subst_tree c.args.var (term_of c.args.with.now) in
    let l = tree_within c.args.self.now c.args.id (Tree.formula c.requires.form.form) c.requires.form.stands.tree in
    let e : length c.in_ok-notes.notes.items ≡ length c.in_ok-free.free.items = c.in_ok-notes.ensures.size ∙ c.len.ensures ∙ c.in_ok-free.free.ok.0 in
    let b = ready_begun s c.args.var c.args.self.now c.args.id c.in_ok-free.free.items c.in_ok-notes.notes.items l c.in_ok-free.ensures.len c.in_ok-free.ensures.marked e c.in_ok-notes.ensures.none in
    subst (λ table. IsReady s c.args.var c.put_term.new.self table c.in_ok-notes.notes.items) (sym c.deref.ensures.value) (ready_longer s c.args.var c.args.self.now c.put_term.new.self c.in_ok-free.free.items c.in_ok-notes.notes.items c.put_term.ensures.begins b)
