use Rattle.heyvl_acts.specs.PlainActs.{procedures_of}
use Rattle.std.proofs.lemmas.Result.{IfOk-weaker}
use Rattle.verify_core.specs.AnsweredProcedures.{AreAnswered}
use Rattle.verify_core.specs.declared.settled_goals.Way.TheVariants.{Decide}
use Rattle.verify_core.specs.internal.Own.{IsWhole}
use Rattle.verify_core.proofs.WholeFiles.{is_answered}
use Rattle.verify_core.proofs.verifier.verify.Goals as goal

pub returns-clause-answered : goal.returns-clause-answered
returns-clause-answered c =
    let ps = procedures_of c.args.typed.now in
    IfOk-weaker c.whole_by.result (λ w. IsWhole Decide ps w.answers.items w.made.items w.certs.items) (λ w. AreAnswered ps w.answers.items w.made.items w.certs.items) (λ w h. is_answered ps w.answers.items w.made.items w.certs.items h) c.whole_by.ensures.whole
