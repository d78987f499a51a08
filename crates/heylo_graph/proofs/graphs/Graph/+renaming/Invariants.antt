use Rattle.std.proofs.Common.{◌+◌, ◌*◌, ℕ, Option, Some, None}
use Rattle.heylo_graph.proofs.graphs.Graph.+renaming.Given as goal

abbrev part_measure : Option ℕ → ℕ
part_measure None = 0
part_measure (Some p) = 4 + 4 * p

abbrev pub decreases-renamed : goal.decreases-renamed
decreases-renamed l = 3 + 4 * l.id

abbrev pub decreases-renamed_node : goal.decreases-renamed_node
decreases-renamed_node l = 2 + 4 * l.id

abbrev pub decreases-renamed_parts : goal.decreases-renamed_parts
decreases-renamed_parts l = 1 + 4 * l.id

abbrev pub decreases-renamed_part : goal.decreases-renamed_part
decreases-renamed_part l = part_measure l.part
