use Rattle.heyvl_syntax.specs.declared.types.TypeName.{TypeName}
use Rattle.typed_right_sides.proofs.right_sides.any_mismatches.Goals as goal
use Rattle.typed_right_sides.specs.Views.{value_type}
use Rattle.typed_right_sides.specs.internal.RightSideParts.{Types}
use Rattle.typed_right_sides.specs.internal.RightSideRules.{any_mismatches}
use Rattle.std.proofs.Common.{List, [], drop, false, length, map, option_map, refl, sym, ◌∙◌, ◌≡◌, ◌∷◌}

none_left : (vs : Types) (ts : List TypeName) → length ts ≡ 0 → any_mismatches vs ts ≡ false
none_left [] ts e = refl
none_left (v ∷ vs) [] e = refl
none_left (v ∷ vs) (t ∷ ts) e = absurd (cc)

pub returns-in_default : goal.returns-in_default
returns-in_default c = sym (c.loop-value.invariant ∙ none_left (map (option_map value_type) (drop c.loop-value.value-index c.args.values.now)) c.loop-value.rest.now c.in_default.ensures.cases)
