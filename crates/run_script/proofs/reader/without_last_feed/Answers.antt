use Rattle.run_script.proofs.Feeds.{last_feed, no_last_feed}
use Rattle.run_script.proofs.reader.without_last_feed.Goals as goal
use Rattle.std.proofs.Common.{arith, false, sym, ◌==◌, ◌≡◌}
use Rattle.std.proofs.lemmas.Bool.Decides.{nat_tests}

pub returns-then-last-eq10-clause-value : goal.returns-then-last-eq10-clause-value
returns-then-last-eq10-clause-value c = sym (last_feed c.args.bytes.now c.in-Some.front.now c.in-Some.last.now c.in-Some.ensures.cases.0 c.if-last-eq10.true)

pub returns-else-last-eq10-clause-value : goal.returns-else-last-eq10-clause-value
returns-else-last-eq10-clause-value c =
    let other : (c.in-Some.last.now == 10) ≡ false = grind (arith, nat_tests) in
    sym (no_last_feed c.args.bytes.now c.in-Some.front.now c.in-Some.last.now c.in-Some.ensures.cases.0 other)
