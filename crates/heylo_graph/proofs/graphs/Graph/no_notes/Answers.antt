use Rattle.std.proofs.Common.{rules}
use Rattle.heylo_graph.proofs.NodeMoves.{none_noted, ok_as}
use Rattle.heylo_graph.proofs.graphs.Graph.no_notes.Goals as goal

pub returns-clause-none : goal.returns-clause-none
returns-clause-none c = ok_as c.vec.result (λ n h. none_noted n.items c.args.count (h (λ y e. search rules))) c.vec.ensures.items_if_clones_equal
