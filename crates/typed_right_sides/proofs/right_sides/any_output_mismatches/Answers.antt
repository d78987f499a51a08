use Rattle.heyvl_syntax.specs.declared.types.TypeName.{TypeName}
use Rattle.typed_right_sides.proofs.right_sides.any_output_mismatches.Goals as goal
use Rattle.static_rules.specs.RightSides.{any_output_mismatches}
use Rattle.std.proofs.Common.{List, Option, [], drop, false, length, refl, sym, ◌∙◌, ◌≡◌, ◌∷◌}

none_left : (os : List TypeName) (ts : List (Option TypeName)) → length ts ≡ 0 → any_output_mismatches os ts ≡ false
none_left [] ts e = refl
none_left (o ∷ os) [] e = refl
none_left (o ∷ os) (t ∷ ts) e = absurd (cc)

pub returns-in_default : goal.returns-in_default
returns-in_default c = sym (c.loop-output.invariant ∙ none_left (drop c.loop-output.output-index c.args.outputs.now) c.loop-output.rest.now c.in_default.ensures.cases)
