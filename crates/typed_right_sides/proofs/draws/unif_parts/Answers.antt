use Rattle.typed_right_sides.proofs.IntegerParts.{range_parts}
use Rattle.typed_right_sides.proofs.draws.unif_parts.Goals as goal
use Rattle.std.proofs.Common.{FitsSigned, add-one, ap, ap₂, of_z, rules, suc, to_z, ◌∙◌, ◌≡◌}
use Rattle.std.proofs.lemmas.Int.{to_z-of_z}
use Rattle.std.specs.Int.{w128}
use Rattle.std.specs.Prelude.{unsigned_abs, ◌-ℤ◌}

pub returns : goal.returns
returns c =
    let a : to_z w128 (of_z w128 c.args.low) ≡ c.args.low = to_z-of_z w128 c.args.low c.ranges.low in
    let b : to_z w128 (of_z w128 c.args.high) ≡ c.args.high = to_z-of_z w128 c.args.high c.ranges.high in
    let f : FitsSigned w128 (to_z w128 (of_z w128 c.args.high) -ℤ to_z w128 (of_z w128 c.args.low)) = search rules in
    let d : to_z w128 (of_z w128 (to_z w128 (of_z w128 c.args.high) -ℤ to_z w128 (of_z w128 c.args.low))) ≡ c.args.high -ℤ c.args.low = to_z-of_z w128 _ f ∙ ap₂ ◌-ℤ◌ b a in
    range_parts c.integer_parts.result c.equal_weight.result c.args.low _ c.args.high _ a (add-one _ ∙ ap (λ z. suc (unsigned_abs z)) d) c.equal_weight.ensures c.integer_parts.ensures
