use Rattle.std.proofs.Common.{ap, arith, length, map, sym, subst, [], ◌∷◌, ◌+◌, ◌∙◌}
use Rattle.std.specs.Prelude.{take}
use Rattle.std.specs.Rc.{rc_value}
use Rattle.linear_form.specs.internal.GoalParts.{AreParts, IsReadyAs}
use Rattle.linear_form.specs.internal.PlainParts.{work_of}
use Rattle.std.proofs.lemmas.List.{length-append, take_all}
use Rattle.linear_form.proofs.GoalPartLists.{no_parts, over, parts_grow}
use Rattle.linear_form.proofs.ready_parts.parts_of.Goals as goal

pub loop-i-init : goal.loop-i-init
loop-i-init c = record { made = no_parts (map rc_value c.in_ok-parts.parts.items); long = ap length c.in_ok-parts.ensures.items }

pub ready_part-requires : goal.ready_part-requires
ready_part-requires c =
    let o = over c.args.graph.now c.loop-i.i c.new.result c.node.result.now c.node.ensures.graph c.new.ensures c.node.ensures.node (omega arith) in
    (c.in_ok-work.ensures (take c.loop-i.i c.args.graph.now) o.tree (subst (λ xs. AreParts (take c.loop-i.i c.args.graph.now) (map rc_value xs)) (sym c.deref.ensures.value) c.loop-i.invariant.made) o.node).ready

pub loop-i-preserved : goal.loop-i-preserved
loop-i-preserved c =
    let o = over c.args.graph.now c.loop-i.i c.new.result c.node.result.now c.node.ensures.graph c.new.ensures c.node.ensures.node (omega arith) in
    let w = c.in_ok-work.ensures (take c.loop-i.i c.args.graph.now) o.tree (subst (λ xs. AreParts (take c.loop-i.i c.args.graph.now) (map rc_value xs)) (sym c.deref.ensures.value) c.loop-i.invariant.made) o.node in
    record {
      made = parts_grow c.args.graph.now c.loop-i.i c.node.result.now c.loop-i.parts.items c.push.new.self.items c.in_ok-new.field-0 c.in_ok-work.work c.loop-i.invariant.long c.in_ok-push.ensures.items o w (subst (IsReadyAs (work_of c.in_ok-work.work)) (sym c.in_ok-new.ensures.ok) c.in_ok-part.ensures) c.loop-i.invariant.made;
      long = ap length c.in_ok-push.ensures.items ∙ length-append c.loop-i.parts.items (c.in_ok-new.field-0 ∷ []) ∙ ap (λ n. n + 1) c.loop-i.invariant.long;
    }

pub returns : goal.returns
returns c = subst (λ ns. AreParts ns (map rc_value c.loop-i.parts.items)) (take_all c.loop-i.i c.args.graph.now (omega arith)) c.loop-i.invariant.made
