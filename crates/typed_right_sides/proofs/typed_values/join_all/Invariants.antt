use Rattle.typed_right_sides.proofs.typed_values.join_all.Given as goal
use Rattle.typed_right_sides.specs.internal.RightSideParts.{join_more}
use Rattle.typed_right_sides.specs.Views.{value_type}
use Rattle.std.proofs.Common.{drop, map, option_map, ◌≡◌}

abbrev pub invariant-loop-other : goal.invariant-loop-other
invariant-loop-other l = join_more (option_map value_type l.joined) (map (option_map value_type) (drop l.other-index l.others)) ≡ join_more (option_map value_type l.initial.joined) (map (option_map value_type) l.others)
