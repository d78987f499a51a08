use Rattle.typed_right_sides.proofs.right_sides.any_mismatches.Given as goal
use Rattle.typed_right_sides.specs.Views.{value_type}
use Rattle.typed_right_sides.specs.internal.RightSideRules.{any_mismatches}
use Rattle.std.proofs.Common.{drop, map, option_map, ◌≡◌}

abbrev pub invariant-loop-value : goal.invariant-loop-value
invariant-loop-value l = any_mismatches (map (option_map value_type) l.values) l.inputs ≡ any_mismatches (map (option_map value_type) (drop l.value-index l.values)) l.rest
