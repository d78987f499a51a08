use Rattle.std.proofs.Common.{◌+◌, ◌*◌}
use Rattle.heylo_graph.proofs.SmallParts.{size_at, part_measure}
use Rattle.heylo_graph.proofs.graphs.Graph.+substituting.Given as goal

abbrev pub decreases-substituted_anew : goal.decreases-substituted_anew
decreases-substituted_anew l = 4 + 6 * size_at l.self.now l.id

abbrev pub decreases-substituted : goal.decreases-substituted
decreases-substituted l = 3 + 6 * size_at l.self.now l.id

abbrev pub decreases-substituted_node : goal.decreases-substituted_node
decreases-substituted_node l = 2 + 6 * size_at l.self.now l.id

abbrev pub decreases-calm_node : goal.decreases-calm_node
decreases-calm_node l = 1 + 6 * size_at l.self.now l.id

abbrev pub decreases-captured_node : goal.decreases-captured_node
decreases-captured_node l = 1 + 6 * size_at l.self.now l.id

abbrev pub decreases-captured : goal.decreases-captured
decreases-captured l = 6 * size_at l.self.now l.id

abbrev pub decreases-substituted_parts : goal.decreases-substituted_parts
decreases-substituted_parts l = 6 * size_at l.self.now l.id

abbrev pub decreases-substituted_part : goal.decreases-substituted_part
decreases-substituted_part l = part_measure l.self.now l.part
