use Rattle.std.proofs.lemmas.Result.{IfOk-weaker}
use Rattle.verify_core.specs.internal.SettledGoals.{IsChecked, IsSettled}
use Rattle.verify_core.proofs.SettledGoals.{checked_settled}
use Rattle.verify_core.proofs.settled_goals.settle.Goals as goal

pub returns-in-Check : goal.returns-in-Check
returns-in-Check c =
    let given = c.in-Check.given in
    let one = c.args.goal.now in
    let certs = c.args.certs.now.items in
    IfOk-weaker c.by_certificates.result (λ o. IsChecked given.now one o) (λ o. IsSettled c.args.way one o certs certs) (λ o h. checked_settled c.args.way given one o certs c.in-Check.is h) c.by_certificates.ensures
