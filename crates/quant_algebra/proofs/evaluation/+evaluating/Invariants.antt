use Rattle.std.proofs.Common.{◌+◌, ◌*◌}
use Rattle.heylo_formula.specs.PlainTrees.{form_of, cond_of}
use Rattle.heylo_formula.specs.Sizes.{nodes, nodes_in}
use Rattle.quant_algebra.proofs.evaluation.+evaluating.Given as goal

abbrev pub decreases-value : goal.decreases-value
decreases-value l = 2 * nodes (form_of l.form.now)

abbrev pub decreases-two_parts : goal.decreases-two_parts
decreases-two_parts l = 1 + 2 * (nodes (form_of l.a.now) + nodes (form_of l.b.now))

abbrev pub decreases-one_part : goal.decreases-one_part
decreases-one_part l = 1 + 2 * nodes (form_of l.a.now)

abbrev pub decreases-truth : goal.decreases-truth
decreases-truth l = 2 * nodes_in (cond_of l.cond.now)

abbrev pub decreases-compared : goal.decreases-compared
decreases-compared l = 1 + 2 * (nodes (form_of l.a.now) + nodes (form_of l.b.now))
