use Rattle.std.proofs.Common.{◌++◌, ap, ◌∙◌, List, ℕ, [], ◌∷◌}
use Rattle.cert_text.specs.Certificates.{certificates_of}
use Rattle.cert_text.specs.Lines.{title}
use Rattle.cert_text.specs.Texts.{goals_lines}
use Rattle.cert_text.proofs.WrittenLines.{all_written, lines_text}
use Rattle.cert_text.proofs.writer.write_cert.Goals as goal

pub returns : goal.returns
returns c =
    let one = c.in_ok-write_title.ensures ∙ ap (λ (bs : List ℕ). bs ++ lines_text (title c.version_of.result ∷ [])) c.new-text.ensures.items in
    let all = all_written c.version_of.result (goals_lines (certificates_of c.args.certs.now)) _ _ _ one c.in_ok-write_goals.ensures c.in_ok-extend_from_slice.ensures.items in
    rw (← c.version_of.ensures) all
