use Rattle.std.proofs.Common.{◌≡◌, ◌<◌, ◌^◌, arith, subst}
use Rattle.std.specs.Prelude.{Some, pos}
use Rattle.std.specs.Int.{w128}
use Rattle.std.proofs.lemmas.Int.{to_z_pos}
use Rattle.heyvl_num.specs.Exact.{exact_quotient}
use Rattle.generation_tests.proofs.BooleanForms.{part_nonnegative}
use Rattle.generation_tests.proofs.steps.part_of_one.Goals as goal

pub returns-in-Some : goal.returns-in-Some
returns-in-Some c =
    let f = c.ranges.den.fits in
    let small : c.args.den < 2 ^ 127 = omega (arith, f) in
    part_nonnegative c.args.den c.in-Some.weight c.requires (subst (λ z. Some c.in-Some.weight ≡ exact_quotient (pos 1) z) (to_z_pos w128 c.args.den small) c.in-Some.ensures)
