use Rattle.heyvl_num.specs.Exact.{exact_quotient}
use Rattle.heyvl_num.specs.Rational.{ratio}
use Rattle.typed_right_sides.proofs.WeightFractions.{whole_quotient}
use Rattle.typed_right_sides.proofs.draws.whole.Goals as goal
use Rattle.std.proofs.Common.{ap, pos, rules, sym, ◌∙◌, ◌≡◌}
use Rattle.std.proofs.lemmas.Int.{to_z-of_z}
use Rattle.std.specs.Int.{w128}
use Rattle.std.specs.Prelude.{Some}
use Rattle.typed_expressions.proofs.exported.LiteralFractions.{some_is}

pub unwrap-requires : goal.unwrap-requires
unwrap-requires c =
    let e : c.new.result ≡ Some (ratio c.args.number 1) = c.new.ensures ∙ ap (λ z. exact_quotient z (pos 1)) (to_z-of_z w128 c.args.number c.ranges.number) ∙ whole_quotient c.args.number c.requires in
    rw e (search rules)

pub returns : goal.returns
returns c = some_is c.unwrap.result (ratio c.args.number 1) (sym c.unwrap.ensures ∙ c.new.ensures ∙ ap (λ z. exact_quotient z (pos 1)) (to_z-of_z w128 c.args.number c.ranges.number) ∙ whole_quotient c.args.number c.requires)
