use Rattle.std.proofs.Common.{◌≡◌, ◌∙◌, ap}
use Rattle.cert_text.specs.declared.goal_names.GoalName.{GoalName}
use Rattle.verify_core.specs.internal.CertificateAnswers.{name_of}
use Rattle.verify_core.proofs.CertOrder.{at_its_place}
use Rattle.verify_core.proofs.certificate_search.tree_for.Goals as goal

pub returns-else-is_of-clause-none : goal.returns-else-is_of-clause-none
returns-else-is_of-clause-none c = λ e t has.
    let n : GoalName = record { proc = c.args.proc; id = c.args.id } in
    let at = at_its_place c.args.certs.now n c.place_of.result t c.requires.order c.place_of.ensures has in
    let named : name_of c.in_ok-cert.cert.now ≡ n = ap name_of c.in_ok-cert.ensures.lookup.1 ∙ at.1 c.in_ok-cert.cert.now in
    c.is_of.ensures.no c.if-is_of.false (ap (λ m. m.proc) named) (ap (λ m. m.id) named)
