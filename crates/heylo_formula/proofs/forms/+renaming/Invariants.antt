use Rattle.std.proofs.Common.{◌+◌, ◌*◌}
use Rattle.heylo_formula.specs.PlainTrees.{form_of, cond_of}
use Rattle.heylo_formula.specs.Sizes.{nodes, nodes_in}
use Rattle.heylo_formula.proofs.forms.+renaming.Given as goal

abbrev pub decreases-Form::rename : goal.decreases-Form::rename
decreases-Form::rename l = 3 * nodes (form_of l.self.now)

abbrev pub decreases-Form::rename_boxed : goal.decreases-Form::rename_boxed
decreases-Form::rename_boxed l = 1 + 3 * nodes (form_of l.self.now)

abbrev pub decreases-Form::rename_both : goal.decreases-Form::rename_both
decreases-Form::rename_both l = 2 + 3 * (nodes (form_of l.left.now) + nodes (form_of l.right.now))

abbrev pub decreases-Cond::rename : goal.decreases-Cond::rename
decreases-Cond::rename l = 3 * nodes_in (cond_of l.self.now)

abbrev pub decreases-Cond::rename_boxed : goal.decreases-Cond::rename_boxed
decreases-Cond::rename_boxed l = 1 + 3 * nodes_in (cond_of l.self.now)

abbrev pub decreases-Cond::rename_both : goal.decreases-Cond::rename_both
decreases-Cond::rename_both l = 2 + 3 * (nodes_in (cond_of l.left.now) + nodes_in (cond_of l.right.now))
