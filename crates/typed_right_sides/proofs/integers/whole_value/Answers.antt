use Rattle.typed_right_sides.proofs.integers.whole_value.Goals as goal
use Rattle.std.proofs.Common.{FitsSigned, rules}
use Rattle.std.proofs.lemmas.Int.{to_z-of_z}
use Rattle.std.specs.Int.{w128}
use Rattle.typed_expressions.proofs.exported.LiteralFractions.{written_natural}

pub returns-then-den-eq1-clause-natural : goal.returns-then-den-eq1-clause-natural
returns-then-den-eq1-clause-natural c =
    let f : FitsSigned w128 c.num.result = search rules in
    rw (to_z-of_z w128 c.num.result f, c.num.ensures) (written_natural c.args.literal c.in_ok-value.value c.in_ok-value.ensures)
