use Rattle.std.proofs.Common.{◌+◌, ◌*◌}
use Rattle.heylo_formula.specs.PlainTrees.{form_of, cond_of}
use Rattle.heylo_formula.specs.Sizes.{nodes, nodes_in}
use Rattle.vp_generator.proofs.numbering.+unbinding.Given as goal

abbrev pub decreases-form_unbound : goal.decreases-form_unbound
decreases-form_unbound l = 4 * nodes (form_of l.form.now)

abbrev pub decreases-cond_unbound : goal.decreases-cond_unbound
decreases-cond_unbound l = 4 * nodes_in (cond_of l.cond.now)

abbrev pub decreases-one : goal.decreases-one
decreases-one l = 1 + 4 * nodes (form_of l.a.now)

abbrev pub decreases-one_in : goal.decreases-one_in
decreases-one_in l = 1 + 4 * nodes_in (cond_of l.g.now)

abbrev pub decreases-both : goal.decreases-both
decreases-both l = 2 + 4 * (nodes (form_of l.a.now) + nodes (form_of l.b.now))

abbrev pub decreases-both_in : goal.decreases-both_in
decreases-both_in l = 2 + 4 * (nodes_in (cond_of l.g.now) + nodes_in (cond_of l.h.now))

abbrev pub decreases-choice : goal.decreases-choice
decreases-choice l = 3 + 4 * (nodes_in (cond_of l.g.now) + (nodes (form_of l.a.now) + nodes (form_of l.b.now)))

abbrev pub decreases-choice_in : goal.decreases-choice_in
decreases-choice_in l = 3 + 4 * (nodes_in (cond_of l.g.now) + (nodes_in (cond_of l.h.now) + nodes_in (cond_of l.k.now)))

abbrev pub decreases-body : goal.decreases-body
decreases-body l = 1 + 4 * nodes (form_of l.a.now)
