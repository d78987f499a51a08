use Rattle.std.proofs.Common.{map, refl, subst, sym}
use Rattle.std.specs.Rc.{rc_value}
use Rattle.std.proofs.lemmas.Result.{IfOk-weaker}
use Rattle.heylo_formula.specs.Goals.{goal_of}
use Rattle.linear_form.specs.internal.GoalParts.{AreParts}
use Rattle.heylo_graph.specs.Trees.{Tree}
use Rattle.heylo_graph.proofs.exported.LongerLists.{stands_longer}
use Rattle.linear_form.proofs.FoldedForms.{part_folded}
use Rattle.linear_form.proofs.GoalPartLists.{goal_is}
use Rattle.linear_form.proofs.PlainPartsAre.{two_work}
use Rattle.linear_form.proofs.ready_parts.goal_part.Goals as goal

pub returns : goal.returns
returns c =
    let g = goal_of c.args.goal.now in
    let s = c.in_ok-stated.ensures.folded in
    let f = c.in_ok-found.ensures.folded in
    let stands = stands_longer _ _ _ (Tree.formula s.form) c.in_ok-found.ensures.begins s.stands in
    let first = part_folded g.stated s.form _ s.folds (c.in_ok-first.ensures c.put_folded-2.new.graph c.in_ok-stated.stated _ (subst (λ xs. AreParts c.put_folded-2.new.graph (map rc_value xs)) (sym c.deref.ensures.value) c.in_ok-parts.ensures) refl stands.tree) in
    let second = part_folded g.found f.form _ f.folds (c.in_ok-second.ensures c.put_folded-2.new.graph c.in_ok-found.found _ (subst (λ xs. AreParts c.put_folded-2.new.graph (map rc_value xs)) (sym c.deref-2.ensures.value) c.in_ok-parts.ensures) refl f.stands.tree) in
    IfOk-weaker c.unsure.result _ _ (λ p e. goal_is g p.value c.in_ok-first.first.value c.in_ok-second.second.value _ e (two_work _ c.in_ok-first.first c.in_ok-second.second) first second) c.unsure.ensures
