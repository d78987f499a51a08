use Rattle.std.proofs.Common.{[], ◌≡◌}
use Rattle.heyvl_acts.specs.PlainActs.{procedures_of}
use Rattle.std.proofs.lemmas.Result.{IfOk-weaker}
use Rattle.verify_core.specs.CheckedAnswers.{IsCheckedFile}
use Rattle.verify_core.specs.declared.settled_goals.Way.TheVariants.{Check}
use Rattle.verify_core.specs.internal.Own.{IsWhole}
use Rattle.verify_core.proofs.WholeFiles.{is_checked, none_made}
use Rattle.verify_core.proofs.verifier.check_all.Goals as goal

pub returns-clause-checked : goal.returns-clause-checked
returns-clause-checked c =
    let ps = procedures_of c.args.typed.now in
    IfOk-weaker c.whole_by.result (λ w. IsWhole (Check c.args.certs) ps w.answers.items w.made.items w.certs.items) (λ w. IsCheckedFile ps c.args.certs.now w.answers.items) (λ w h. is_checked ps w.answers.items c.args.certs w.made.items w.certs.items h) c.whole_by.ensures.whole

pub returns-clause-made : goal.returns-clause-made
returns-clause-made c =
    let ps = procedures_of c.args.typed.now in
    IfOk-weaker c.whole_by.result (λ w. IsWhole (Check c.args.certs) ps w.answers.items w.made.items w.certs.items) (λ w. w.made.items ≡ []) (λ w h. none_made ps w.answers.items c.args.certs w.made.items w.certs.items h) c.whole_by.ensures.whole

pub returns-clause-certs : goal.returns-clause-certs
returns-clause-certs c =
    let ps = procedures_of c.args.typed.now in
    IfOk-weaker c.whole_by.result (λ w. IsWhole (Check c.args.certs) ps w.answers.items w.made.items w.certs.items) (λ w. w.certs.items ≡ []) (λ w h. h.certs_of) c.whole_by.ensures.whole
