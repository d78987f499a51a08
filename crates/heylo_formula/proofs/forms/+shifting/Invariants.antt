use Rattle.std.proofs.Common.{◌+◌, ◌*◌}
use Rattle.heylo_formula.specs.PlainTrees.{form_of, cond_of}
use Rattle.heylo_formula.specs.Sizes.{nodes, nodes_in}
use Rattle.heylo_formula.proofs.forms.+shifting.Given as goal

abbrev pub decreases-Form::shifted : goal.decreases-Form::shifted
decreases-Form::shifted l = 3 * nodes (form_of l.self.now)

abbrev pub decreases-Form::shifted_boxed : goal.decreases-Form::shifted_boxed
decreases-Form::shifted_boxed l = 1 + 3 * nodes (form_of l.self.now)

abbrev pub decreases-Form::shifted_both : goal.decreases-Form::shifted_both
decreases-Form::shifted_both l = 2 + 3 * (nodes (form_of l.left.now) + nodes (form_of l.right.now))

abbrev pub decreases-Cond::shifted : goal.decreases-Cond::shifted
decreases-Cond::shifted l = 3 * nodes_in (cond_of l.self.now)

abbrev pub decreases-Cond::shifted_boxed : goal.decreases-Cond::shifted_boxed
decreases-Cond::shifted_boxed l = 1 + 3 * nodes_in (cond_of l.self.now)

abbrev pub decreases-Cond::shifted_both : goal.decreases-Cond::shifted_both
decreases-Cond::shifted_both l = 2 + 3 * (nodes_in (cond_of l.left.now) + nodes_in (cond_of l.right.now))
