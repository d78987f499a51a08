use Rattle.std.proofs.Common.{◌≡◌, false, take}
use Rattle.cert_text.specs.Certificates.{certificates_of}
use Rattle.cert_text.specs.Texts.{have_whole}
use Rattle.cert_text.proofs.writer.version_of.Given as goal

abbrev pub invariant-loop-cert : goal.invariant-loop-cert
invariant-loop-cert l = have_whole (certificates_of (take l.cert-index l.certs)) ≡ false
