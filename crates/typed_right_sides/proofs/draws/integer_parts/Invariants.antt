use Rattle.heyvl_acts.specs.PlainActs.{parts_of}
use Rattle.typed_right_sides.proofs.draws.integer_parts.Given as goal
use Rattle.static_rules.specs.StatementActs.{integer_parts}
use Rattle.std.proofs.Common.{pos, ◌++◌, ◌-◌, ◌≡◌}
use Rattle.std.specs.Prelude.{◌+ℤ◌}

-- The parts so far and the remaining ones are all.
abbrev pub invariant-loop-step : goal.invariant-loop-step
invariant-loop-step l = parts_of l.parts.items ++ integer_parts l.weight (l.low +ℤ pos l.step) (l.count - l.step) ≡ integer_parts l.weight l.low l.count
