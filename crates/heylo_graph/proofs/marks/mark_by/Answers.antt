use Rattle.std.proofs.Common.{◌||◌, ap₂, sym, subst, ◌∙◌}
use Rattle.heylo_graph.specs.Nodes.{tree_at}
use Rattle.heylo_graph.specs.internal.Tables.{PartIsMarked}
use Rattle.heylo_graph.proofs.MarkTables.{mark_of_other, part_marked}
use Rattle.heylo_graph.proofs.PartTrees.{first_tree, second_tree, third_tree, taken_apart}
use Rattle.heylo_graph.proofs.marks.mark_by.Goals as goal

pub returns-in-None-bound_by : goal.returns-in-None-bound_by
returns-in-None-bound_by c = λ ns t f h.
    let x = c.args.var in
    let s = c.args.binders in
    let n = c.args.node.now in
    let k = taken_apart (tree_at ns) n t h in
    let p = part_marked s x ns _ (first_tree t) c.part_mark-a.result k.one (subst (λ q. PartIsMarked s x ns q c.part_mark-a.result) c.first-in-None-bound_by.ensures (c.part_mark-a.ensures s x ns f)) in
    let q = part_marked s x ns _ (second_tree t) c.part_mark-b.result k.two (subst (λ q. PartIsMarked s x ns q c.part_mark-b.result) c.second.ensures (c.part_mark-b.ensures s x ns f)) in
    let r = part_marked s x ns _ (third_tree t) c.part_mark-c.result k.three (subst (λ q. PartIsMarked s x ns q c.part_mark-c.result) c.third.ensures (c.part_mark-c.ensures s x ns f)) in
    c.one_of.ensures ∙ ap₂ (λ y z. y || z) p (ap₂ (λ y z. y || z) q r) ∙ mark_of_other s x (tree_at ns) n t (sym c.variable_of.ensures ∙ c.in-None.is) (sym c.bound_by.ensures ∙ c.in-None-bound_by.is) h
