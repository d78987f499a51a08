use Rattle.heyvl_num.specs.Exact.{exact_difference}
use Rattle.heyvl_num.specs.Rational.{oneʳ, ◌-ʳ◌}
use Rattle.typed_right_sides.proofs.WeightFractions.{complement_is}
use Rattle.typed_right_sides.proofs.draws.complement.Goals as goal
use Rattle.std.proofs.Common.{ap, rules, sym, ◌∙◌, ◌≡◌}
use Rattle.std.specs.Prelude.{Some}
use Rattle.typed_expressions.proofs.exported.LiteralFractions.{some_is}

pub unwrap-requires : goal.unwrap-requires
unwrap-requires c =
    let e : c.sub.result ≡ Some (oneʳ -ʳ c.args.probability) = c.sub.ensures ∙ ap (λ q. exact_difference q c.args.probability) c.whole.ensures ∙ complement_is c.args.probability c.requires in
    rw e (search rules)

pub returns : goal.returns
returns c = some_is c.unwrap.result (oneʳ -ʳ c.args.probability) (sym c.unwrap.ensures ∙ c.sub.ensures ∙ ap (λ q. exact_difference q c.args.probability) c.whole.ensures ∙ complement_is c.args.probability c.requires)
