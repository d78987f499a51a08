use Rattle.heyvl_acts.specs.PlainActs.{parts_of}
use Rattle.heyvl_syntax.specs.Statements.{choices}
use Rattle.typed_right_sides.proofs.choices.read_choices.Given as goal
use Rattle.static_rules.specs.RightSides.{choices_findings}
use Rattle.static_rules.specs.StatementActs.{choose_parts}
use Rattle.typed_right_sides.specs.internal.RightSideParts.{types_of_choices}
use Rattle.typed_right_sides.specs.Views.{value_type}
use Rattle.std.proofs.Common.{drop, map, option_map, take, ◌≡◌}

-- The parts so far have no findings, and these are their terms and types.
abbrev pub invariant-loop-likely : goal.invariant-loop-likely
invariant-loop-likely l = record {
  found : choices_findings l.next l.scope (choices l.all) ≡ choices_findings l.next l.scope (choices (drop l.likely-index l.all));
  parts : parts_of l.parts.items ≡ choose_parts l.next l.scope (choices (take l.likely-index l.all));
  types : map (option_map value_type) l.types.items ≡ types_of_choices l.next l.scope (choices (take l.likely-index l.all));
}
