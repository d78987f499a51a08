use Rattle.std.proofs.Common.{◌+◌, ◌*◌, max}
use Rattle.heylo_graph.proofs.graphs.Graph.+reading.Given as goal

abbrev pub decreases-read : goal.decreases-read
decreases-read l = 3 * l.id

abbrev pub decreases-form_boxed : goal.decreases-form_boxed
decreases-form_boxed l = 1 + 3 * l.id

abbrev pub decreases-cond_boxed : goal.decreases-cond_boxed
decreases-cond_boxed l = 1 + 3 * l.id

abbrev pub decreases-both_forms : goal.decreases-both_forms
decreases-both_forms l = 2 + 3 * max l.left l.right

abbrev pub decreases-both_conds : goal.decreases-both_conds
decreases-both_conds l = 2 + 3 * max l.left l.right
