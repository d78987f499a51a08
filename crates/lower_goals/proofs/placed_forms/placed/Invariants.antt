use Rattle.heylo_formula.specs.PlainTrees.{form_of}
use Rattle.lower_goals.proofs.Positions.{IsMoved}
use Rattle.lower_goals.proofs.placed_forms.placed.Given as goal

-- The variables at the positions so far are placed.
abbrev pub invariant-loop-position : goal.invariant-loop-position
invariant-loop-position l = IsMoved 1000 l.places l.position (form_of l.form) (form_of l.made)
