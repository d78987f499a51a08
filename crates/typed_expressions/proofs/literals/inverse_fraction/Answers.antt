use Rattle.heyvl_num.specs.Exact.{exact_quotient}
use Rattle.std.proofs.Common.{ap₂, ◌∙◌}
use Rattle.std.proofs.lemmas.Int.{to_z-of_z}
use Rattle.std.specs.Int.{w128}
use Rattle.typed_expressions.proofs.exported.LiteralFractions.{inverse_is, passed_power}
use Rattle.typed_expressions.proofs.literals.inverse_fraction.Goals as goal

pub returns : goal.returns
returns c =
    let a = to_z-of_z w128 c.args.digits c.ranges.digits in
    let b = passed_power c.power_of_ten.result c.args.places c.power_of_ten.ensures c.requires.short in
    c.new.ensures ∙ ap₂ exact_quotient b a ∙ inverse_is c.args.digits c.args.places c.ranges.digits c.requires.positive c.requires.short
