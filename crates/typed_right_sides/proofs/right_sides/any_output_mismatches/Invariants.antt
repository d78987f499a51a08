use Rattle.typed_right_sides.proofs.right_sides.any_output_mismatches.Given as goal
use Rattle.static_rules.specs.RightSides.{any_output_mismatches}
use Rattle.std.proofs.Common.{drop, ◌≡◌}

abbrev pub invariant-loop-output : goal.invariant-loop-output
invariant-loop-output l = any_output_mismatches l.outputs l.targets ≡ any_output_mismatches (drop l.output-index l.outputs) l.rest
