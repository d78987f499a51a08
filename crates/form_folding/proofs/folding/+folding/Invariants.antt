use Rattle.std.proofs.Common.{◌+◌, ◌*◌}
use Rattle.heylo_formula.specs.PlainTrees.{form_of, cond_of}
use Rattle.heylo_formula.specs.Sizes.{nodes, nodes_in}
use Rattle.form_folding.proofs.folding.+folding.Given as goal

abbrev pub decreases-put_folded : goal.decreases-put_folded
decreases-put_folded l = 2 + 4 * nodes (form_of l.form.now)

abbrev pub decreases-fold : goal.decreases-fold
decreases-fold l = 1 + 4 * nodes (form_of l.form.now)

abbrev pub decreases-folded_sum : goal.decreases-folded_sum
decreases-folded_sum l = 2 + 4 * (nodes (form_of l.a.now) + nodes (form_of l.b.now))

abbrev pub decreases-put_both : goal.decreases-put_both
decreases-put_both l = 3 + 4 * (nodes (form_of l.a.now) + nodes (form_of l.b.now))

abbrev pub decreases-put_test : goal.decreases-put_test
decreases-put_test l = 4 * nodes_in (cond_of l.cond.now)
