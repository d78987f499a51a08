use Rattle.std.proofs.Common.{◌≡◌, ◌++◌, drop, map}
use Rattle.act_walks.specs.Lent.{lent}
use Rattle.proc_contracts.specs.internal.Callees.{callees}
use Rattle.proc_contracts.proofs.calls.calls_among.Given as goal

-- The calls found so far and those of the remaining acts are all.
abbrev pub invariant-loop-act : goal.invariant-loop-act
invariant-loop-act l = l.called.items ++ callees (map lent (drop l.act-index l.all)) ≡ callees (map lent l.all)
