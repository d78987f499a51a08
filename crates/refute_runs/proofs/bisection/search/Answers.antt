use Rattle.std.proofs.Common.{subst}
use Rattle.std.proofs.lemmas.Result.{IfOk-weaker}
use Rattle.heyvl_acts.specs.PlainActs.{procedures_of}
use Rattle.heyvl_num.specs.ExtendedNumbers.{value_of}
use Rattle.refute_runs.specs.SumsAfter.{unrolled_from}
use Rattle.refute_runs.specs.internal.Probes.{IsSeen}
use Rattle.refute_runs.proofs.ProbeResults.{comes}
use Rattle.refute_runs.proofs.bisection.search.Goals as goal
use Rattle.run_machine.specs.Names.{stored}

pub returns-in-Until : goal.returns-in-Until
returns-in-Until c =
    let us = unrolled_from (procedures_of c.args.typed.now) c.args.p (stored c.args.start.now) c.args.script.now in
    let seen = subst (IsSeen us (value_of c.args.pre.now) c.args.n) c.in-Until.is c.in_ok-sum.ensures in
    IfOk-weaker c.below.result _ _ (λ r h. comes us (value_of c.args.pre.now) c.in-Until.steps c.args.n r h seen.few) c.below.ensures
