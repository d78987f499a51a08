use Rattle.std.proofs.Common.{arith, ◌<◌}
use Rattle.linear_guess.proofs.SpotRows.{none_met}
use Rattle.linear_guess.proofs.KnownRows.{known_first}
use Rattle.linear_guess.proofs.search.Search.with_point.Goals as goal

pub returns-in_err-put-clause-remembered : goal.returns-in_err-put-clause-remembered
returns-in_err-put-clause-remembered c = let p : 0 < c.args.spot.below = omega (arith, c.if-spot-eq0.false) in c.put.ensures _ c.requires.remembered (known_first c.args.spot c.args.rows.now c.met_from-met.result c.args.kept c.least.result p c.met_from-met.ensures.within c.least.ensures (c.met_from-met.ensures.met (none_met c.args.spot.below c.args.spot.tops.items c.args.rows.now)))

pub returns-clause-remembered : goal.returns-clause-remembered
returns-clause-remembered c = let p : 0 < c.args.spot.below = omega (arith, c.if-spot-eq0.false) in c.put.ensures _ c.requires.remembered (known_first c.args.spot c.args.rows.now c.met_from-met.result c.args.kept c.least.result p c.met_from-met.ensures.within c.least.ensures (c.met_from-met.ensures.met (none_met c.args.spot.below c.args.spot.tops.items c.args.rows.now)))
