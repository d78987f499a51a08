use Rattle.cert_text.proofs.WrittenLines.{goals_written}
use Rattle.cert_text.proofs.writer.write_goals.Goals as goal

pub loop-cert-preserved : goal.loop-cert-preserved
loop-cert-preserved c =
    goals_written c.args.certs.now c.loop-cert.cert-index c.cert-item.result _ _ _ _ c.cert-item.is c.loop-cert-test.true c.loop-cert.invariant c.in_ok-write_goal.ensures c.in_ok-write_tree.ensures
