use Rattle.heyvl_acts.specs.PlainActs.{terms_of}
use Rattle.heyvl_syntax.specs.Expressions.{expressions}
use Rattle.typed_right_sides.proofs.typed_values.read_values.Given as goal
use Rattle.static_rules.specs.RightSides.{all_findings}
use Rattle.typed_right_sides.specs.internal.RightSideParts.{types_of}
use Rattle.typed_right_sides.specs.Views.{value_type}
use Rattle.std.proofs.Common.{drop, map, option_map, take, ◌≡◌}
use Rattle.typed_expressions.specs.Values.{terms}

-- The expressions so far have no findings, and these are their values.
abbrev pub invariant-loop-e : goal.invariant-loop-e
invariant-loop-e l = record {
  found : all_findings l.next l.scope (expressions l.all) ≡ all_findings l.next l.scope (expressions (drop l.e-index l.all));
  terms : terms_of l.terms.items ≡ terms l.next l.scope (expressions (take l.e-index l.all));
  types : map (option_map value_type) l.types.items ≡ types_of l.next l.scope (expressions (take l.e-index l.all));
}
