use Rattle.heyvl_syntax.specs.Statements.{choices}
use Rattle.typed_right_sides.proofs.choices.any_unusable.Given as goal
use Rattle.static_rules.specs.Literals.{is_usable}
use Rattle.static_rules.specs.RightSides.{weights}
use Rattle.std.proofs.Common.{drop, not, ◌≡◌}
use Rattle.std.specs.List.{list_any}

abbrev pub invariant-loop-likely : goal.invariant-loop-likely
invariant-loop-likely l = list_any (λ w. not (is_usable w)) (weights (choices l.all)) ≡ list_any (λ w. not (is_usable w)) (weights (choices (drop l.likely-index l.all)))
