use Rattle.cert_text.proofs.WrittenLines.{multiplier_written}
use Rattle.cert_text.proofs.writer.write_multipliers.Goals as goal

pub loop-index-preserved : goal.loop-index-preserved
loop-index-preserved c =
    multiplier_written c.args.multipliers.now c.loop-index.index-index (0, 0) _ _ _ _ _ _ c.loop-index-test.true c.loop-index.invariant
    c.in_ok-push.ensures.items c.in_ok-write_number.ensures c.in_ok-push-2.ensures.items c.in_ok-write_number-2.ensures
