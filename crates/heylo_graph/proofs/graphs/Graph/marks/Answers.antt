use Rattle.heylo_graph.proofs.MarkTables.{marked_further, counted_marks}
use Rattle.heylo_graph.proofs.graphs.Graph.marks.Goals as goal

pub loop-i-preserved : goal.loop-i-preserved
loop-i-preserved c = record {
  count = counted_marks c.loop-i.table.items c.push.new.self.items c.mark_at-mark.result c.loop-i.i c.loop-i.invariant.count c.in_ok-push.ensures.items;
  marked = marked_further c.args.binders c.args.var c.args.self.now c.loop-i.table.items c.push.new.self.items c.mark_at-mark.result c.loop-i.i c.loop-i.invariant.count c.in_ok-push.ensures.items c.loop-i.invariant.marked c.mark_at-mark.ensures;
}
