use Rattle.std.proofs.Common.{◌+◌, ◌-◌}
use Rattle.heylo_formula.specs.PlainTrees.{form_of, term_of}
use Rattle.heylo_formula.specs.Sizes.{nodes, nodes_in_term}
use Rattle.heylo_formula.proofs.FreshNumbers.{Searching}
use Rattle.heylo_formula.proofs.substitution.fresh_number.Given as goal

abbrev pub invariant-loop-number : goal.invariant-loop-number
invariant-loop-number l = Searching (form_of l.body) (term_of l.with) l.number

abbrev pub decreases-loop-number : goal.decreases-loop-number
decreases-loop-number l = 1048576 + (nodes (form_of l.body) + nodes_in_term (term_of l.with)) - l.number
