use Rattle.std.proofs.Common.{ap}
use Rattle.heyvl_acts.specs.PlainActs.{procedures_of}
use Rattle.verify_core.specs.internal.Marks.{is_verified}
use Rattle.verify_core.proofs.ProcedureKinds.{closes, stays}
use Rattle.verify_core.proofs.reached_answers.verdict_from.Goals as goal

pub returns-in-Verified : goal.returns-in-Verified
returns-in-Verified c = λ table o m. c.reaching_verdict.ensures table (closes (procedures_of c.args.typed.now) table c.args.p c.args.own o (ap is_verified c.in-Verified.is)) m

pub returns-in_default : goal.returns-in_default
returns-in_default c = λ table o m. stays (procedures_of c.args.typed.now) table c.args.p c.args.own o c.in_default.not-Verified
