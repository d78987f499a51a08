use Rattle.std.proofs.Common.{sym, ◌∙◌}
use Rattle.cert_text.proofs.WrittenLines.{none_so_far, version_two}
use Rattle.cert_text.proofs.writer.version_of.Goals as goal

pub returns-then-has_whole : goal.returns-then-has_whole
returns-then-has_whole c = version_two c.args.certs.now c.loop-cert.cert-index c.cert-item.result c.cert-item.is c.loop-cert-test.true (sym c.has_whole.ensures ∙ c.if-has_whole.true)

pub loop-cert-preserved : goal.loop-cert-preserved
loop-cert-preserved c = none_so_far c.args.certs.now c.loop-cert.cert-index c.cert-item.result c.cert-item.is c.loop-cert-test.true c.loop-cert.invariant (sym c.has_whole.ensures ∙ c.if-has_whole.false)
