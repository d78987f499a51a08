use Rattle.heyvl_syntax.specs.Statements.{choices}
use Rattle.typed_right_sides.proofs.choices.any_over_zero.Given as goal
use Rattle.static_rules.specs.Literals.{is_over_zero}
use Rattle.static_rules.specs.RightSides.{weights}
use Rattle.std.proofs.Common.{drop, ◌≡◌}
use Rattle.std.specs.List.{list_any}

abbrev pub invariant-loop-likely : goal.invariant-loop-likely
invariant-loop-likely l = list_any is_over_zero (weights (choices l.all)) ≡ list_any is_over_zero (weights (choices (drop l.likely-index l.all)))
