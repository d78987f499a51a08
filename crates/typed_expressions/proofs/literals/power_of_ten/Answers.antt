use Rattle.std.proofs.Common.{arith, pos, ◌^◌}
use Rattle.std.proofs.lemmas.Int.{fits_signed_from_abs}
use Rattle.std.specs.Int.{w128}
use Rattle.typed_expressions.proofs.exported.LiteralFractions.{power_small}
use Rattle.typed_expressions.proofs.literals.power_of_ten.Goals as goal

pub pow-requires : goal.pow-requires
pow-requires c = fits_signed_from_abs w128 (pos (10 ^ c.from.result)) (power_small c.from.result (omega (arith, c.from.ensures, c.requires)))
