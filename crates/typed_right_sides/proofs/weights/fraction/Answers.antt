use Rattle.heyvl_num.specs.Exact.{exact_quotient}
use Rattle.heyvl_num.specs.Rational.{ratio}
use Rattle.typed_right_sides.proofs.weights.fraction.Goals as goal
use Rattle.std.proofs.Common.{ap₂, rules, sym, ◌∙◌, ◌≡◌}
use Rattle.std.proofs.lemmas.Int.{to_z-of_z}
use Rattle.std.specs.Int.{w128}
use Rattle.std.specs.Prelude.{Some, unsigned_abs}
use Rattle.typed_expressions.proofs.exported.LiteralFractions.{positive_quotient, some_is}

pub unwrap-requires : goal.unwrap-requires
unwrap-requires c =
    let e : c.new.result ≡ Some (ratio c.args.num (unsigned_abs c.args.den)) = c.new.ensures ∙ ap₂ exact_quotient (to_z-of_z w128 c.args.num c.ranges.num) (to_z-of_z w128 c.args.den c.ranges.den) ∙ positive_quotient c.args.num c.args.den c.ranges.num c.ranges.den c.requires.natural c.requires.positive in
    rw e (search rules)

pub returns : goal.returns
returns c = some_is c.unwrap.result (ratio c.args.num (unsigned_abs c.args.den)) (sym c.unwrap.ensures ∙ c.new.ensures ∙ ap₂ exact_quotient (to_z-of_z w128 c.args.num c.ranges.num) (to_z-of_z w128 c.args.den c.ranges.den) ∙ positive_quotient c.args.num c.args.den c.ranges.num c.ranges.den c.requires.natural c.requires.positive)
