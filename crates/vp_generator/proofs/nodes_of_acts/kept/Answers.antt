use Rattle.std.proofs.Common.{rules, ◌≡◌, true, false, sym, ◌∙◌}
use Rattle.heylo_formula.specs.PlainTrees.{term_of}
use Rattle.heylo_graph.specs.Trees.{Tree}
use Rattle.heylo_graph.proofs.exported.LongerLists.{tree_within}
use Rattle.vp_generator.proofs.GraphForms.{asked_of, within_of, too_large, not_changed}
use Rattle.vp_generator.proofs.nodes_of_acts.kept.Goals as goal

pub free-requires : goal.free-requires
free-requires c = tree_within c.args.graph.now c.args.form (Tree.formula c.requires.ready.form) c.requires.ready.stands.tree

pub returns-then-branch : goal.returns-then-branch
returns-then-branch c = λ k s.
    let f : c.in_ok-free.field-0 ≡ true = search rules in
    too_large c.args.most c.args.var (term_of c.args.with.now) k (asked_of c.args.most _ c.args.graph.now c.args.form k c.requires.ready s) c.requires.large (sym (c.in_ok-free.ensures (Tree.formula k) s) ∙ f)

pub returns-else-branch : goal.returns-else-branch
returns-else-branch c = λ k s.
    let f : c.in_ok-free.field-0 ≡ false = search rules in
    not_changed c.args.most c.args.graph.now c.args.form c.args.var (term_of c.args.with.now) k s (within_of c.args.most _ c.args.graph.now c.args.form k c.requires.ready s) (sym (c.in_ok-free.ensures (Tree.formula k) s) ∙ f)
