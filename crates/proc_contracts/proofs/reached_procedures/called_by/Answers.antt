use Rattle.std.proofs.Common.{◌≡◌}
use Rattle.std.proofs.lemmas.Result.{IfOk-weaker}
use Rattle.heyvl_acts.specs.Acts.{acts_in}
use Rattle.heyvl_acts.specs.Places.{in_order}
use Rattle.heyvl_acts.specs.PlainActs.{procedure_of, procedures_of}
use Rattle.proc_contracts.specs.internal.Callees.{callees}
use Rattle.proc_contracts.specs.internal.CallWalk.{AreCalled}
use Rattle.proc_contracts.proofs.CalledProcedures.{are_called}
use Rattle.proc_contracts.proofs.reached_procedures.called_by.Goals as goal

pub returns : goal.returns
returns c = IfOk-weaker _ (λ called. called.items ≡ callees (in_order (acts_in (procedure_of c.index.result.now).body))) (λ called. AreCalled (procedures_of c.args.typed.now) c.args.p called.items) (λ called h. are_called c.args.typed.now c.args.p c.index.result.now called.items c.requires.rules c.requires.there c.index.ensures h) c.calls_of.ensures
