use Rattle.std.proofs.Common.{◌+◌, ◌*◌}
use Rattle.heylo_formula.specs.PlainTrees.{form_of, cond_of}
use Rattle.heylo_formula.specs.Sizes.{nodes, nodes_in}
use Rattle.heylo_graph.proofs.graphs.Graph.+putting.Given as goal

abbrev pub decreases-put_form : goal.decreases-put_form
decreases-put_form l = 1 + 4 * nodes (form_of l.form.now)

abbrev pub decreases-put_part : goal.decreases-put_part
decreases-put_part l = 1 + 4 * nodes_in (cond_of l.cond.now)

abbrev pub decreases-formula_node : goal.decreases-formula_node
decreases-formula_node l = 4 * nodes (form_of l.form.now)

abbrev pub decreases-condition_node : goal.decreases-condition_node
decreases-condition_node l = 4 * nodes_in (cond_of l.cond.now)

abbrev pub decreases-put_both : goal.decreases-put_both
decreases-put_both l = 2 + 4 * (nodes (form_of l.a.now) + nodes (form_of l.b.now))

abbrev pub decreases-put_conds : goal.decreases-put_conds
decreases-put_conds l = 2 + 4 * (nodes_in (cond_of l.g.now) + nodes_in (cond_of l.h.now))

abbrev pub decreases-put_select : goal.decreases-put_select
decreases-put_select l = 3 + 4 * (nodes_in (cond_of l.g.now) + (nodes (form_of l.a.now) + nodes (form_of l.b.now)))

abbrev pub decreases-put_ite : goal.decreases-put_ite
decreases-put_ite l = 3 + 4 * (nodes_in (cond_of l.g.now) + (nodes_in (cond_of l.h.now) + nodes_in (cond_of l.k.now)))
