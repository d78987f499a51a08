use Rattle.std.proofs.Common.{◌<◌, length, arith}
use Rattle.linear_guess.specs.Searches.{IsKnown}
use Rattle.linear_guess.proofs.KnownRows.{changed_more}
use Rattle.linear_guess.proofs.known_points.truncate_each.Goals as goal

pub loop-i-preserved : goal.loop-i-preserved
loop-i-preserved c before after h e =
    let within : c.loop-i.i < length c.loop-i.points = omega (arith, c.loop-i.auto.points, c.loop-i-test.true) in
    let parts = c.loop-i.invariant before after h e in
    changed_more (IsKnown before) (IsKnown after) c.loop-i.points c.loop-i.i c.truncate.new.self within (c.truncate.ensures before after (parts.1 c.loop-i.i c.index-points-i.result (omega arith) within) e) parts.0 parts.1
