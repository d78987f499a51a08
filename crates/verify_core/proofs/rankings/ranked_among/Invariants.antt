use Rattle.std.proofs.Common.{◌≡◌, ◌++◌, drop, map}
use Rattle.act_walks.specs.Lent.{lent}
use Rattle.verify_core.specs.Rankings.{ranked_in}
use Rattle.verify_core.proofs.rankings.ranked_among.Given as goal

abbrev pub invariant-loop-act : goal.invariant-loop-act
invariant-loop-act l = l.all.items ++ ranked_in (map lent (drop l.act-index l.acts)) ≡ ranked_in (map lent l.acts)
