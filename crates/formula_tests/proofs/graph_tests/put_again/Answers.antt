use Rattle.std.proofs.Common.{◌<◌, length, IfSome, sym, subst}
use Rattle.heylo_formula.specs.PlainTrees.{form_of}
use Rattle.heylo_graph.specs.Trees.{Tree}
use Rattle.heylo_graph.proofs.exported.LongerLists.{tree_within}
use Rattle.formula_tests.proofs.graph_tests.put_again.Goals.{then-eq+then-eq-2, else-eq}
use Rattle.formula_tests.proofs.graph_tests.put_again.Goals as goal

pub returns : goal.returns
returns c =
    let within : c.in_ok-third.third < length c.put-3.new.self = tree_within c.put-3.new.self c.in_ok-third.third (Tree.formula (form_of c.args.form.now)) c.in_ok-third.ensures.tree.tree in
    elim c.if-eq.branch [
      | then-eq+then-eq-2 w ↦ subst (λ o. IfSome o (λ i. i < length c.put-3.new.self)) (sym w.result-is) within
      | else-eq w ↦ subst (λ o. IfSome o (λ i. i < length c.put-3.new.self)) (sym w.result-is) tt
    ]
