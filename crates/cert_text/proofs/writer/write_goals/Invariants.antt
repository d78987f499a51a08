use Rattle.std.proofs.Common.{◌≡◌, ◌++◌, take}
use Rattle.cert_text.specs.Certificates.{certificates_of}
use Rattle.cert_text.specs.Texts.{goals_lines}
use Rattle.cert_text.proofs.WrittenLines.{lines_text}
use Rattle.cert_text.proofs.writer.write_goals.Given as goal

abbrev pub invariant-loop-cert : goal.invariant-loop-cert
invariant-loop-cert l = l.text.items ≡ l.fn.text.items ++ lines_text (goals_lines (certificates_of (take l.cert-index l.certs)))
