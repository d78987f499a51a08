use Rattle.std.proofs.Common.{ap, sym, ◌∙◌, ◌≡◌}
use Rattle.std.proofs.lemmas.Result.{IfOk-weaker}
use Rattle.heyvl_acts.specs.Acts.{procedure_at}
use Rattle.heyvl_acts.specs.PlainActs.{procedures_of}
use Rattle.verdict_report.specs.LoopScopes.{interface_numbers}
use Rattle.verdict_report.proofs.Heads.{has_few_parameters, procedure_is}
use Rattle.verdict_report.proofs.loops.interface_of.Goals as goal

pub interface_numbers-requires-clause-few : goal.interface_numbers-requires-clause-few
interface_numbers-requires-clause-few c = has_few_parameters c.args.typed.now c.args.proc c.index.result.now c.requires.rules c.requires.there c.index.ensures

pub returns : goal.returns
returns c = IfOk-weaker c.interface_numbers.result _ (λ all. all.items ≡ interface_numbers (procedure_at (procedures_of c.args.typed.now) c.args.proc)) (λ all h. h ∙ ap interface_numbers (sym (procedure_is c.args.typed.now.procs.items c.args.proc c.index.result.now c.requires.there c.index.ensures))) c.interface_numbers.ensures
