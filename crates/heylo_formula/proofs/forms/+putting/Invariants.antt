use Rattle.std.proofs.Common.{◌+◌, ◌*◌}
use Rattle.heylo_formula.specs.PlainTrees.{form_of, cond_of}
use Rattle.heylo_formula.specs.Sizes.{nodes, nodes_in}
use Rattle.heylo_formula.proofs.forms.+putting.Given as goal

abbrev pub decreases-Form::with_term : goal.decreases-Form::with_term
decreases-Form::with_term l = 3 * nodes (form_of l.self.now)

abbrev pub decreases-Form::with_term_boxed : goal.decreases-Form::with_term_boxed
decreases-Form::with_term_boxed l = 1 + 3 * nodes (form_of l.self.now)

abbrev pub decreases-Form::with_term_both : goal.decreases-Form::with_term_both
decreases-Form::with_term_both l = 2 + 3 * (nodes (form_of l.left.now) + nodes (form_of l.right.now))

abbrev pub decreases-Cond::with_term : goal.decreases-Cond::with_term
decreases-Cond::with_term l = 3 * nodes_in (cond_of l.self.now)

abbrev pub decreases-Cond::with_term_boxed : goal.decreases-Cond::with_term_boxed
decreases-Cond::with_term_boxed l = 1 + 3 * nodes_in (cond_of l.self.now)

abbrev pub decreases-Cond::with_term_both : goal.decreases-Cond::with_term_both
decreases-Cond::with_term_both l = 2 + 3 * (nodes_in (cond_of l.left.now) + nodes_in (cond_of l.right.now))
