use Rattle.std.proofs.Common.{ap, ap₂, sym, ◌++◌, ◌∙◌}
use Rattle.std.proofs.lemmas.Result.{on_ok_weaker}
use Rattle.heyvl_acts.specs.Acts.{TypedProcedure}
use Rattle.verdict_report.specs.LoopScopes.{always_shown}
use Rattle.verdict_report.specs.Settings.{Names}
use Rattle.verdict_report.specs.States.{state_text}
use Rattle.verdict_report.proofs.Heads.{has_few_parameters, procedure_is}
use Rattle.verdict_report.proofs.verdicts.write_state_of.Goals as goal

pub always_shown-requires-clause-few : goal.always_shown-requires-clause-few
always_shown-requires-clause-few c = has_few_parameters c.args.typed.now c.args.proc c.index.result.now c.requires.rules c.requires.there c.index.ensures

pub returns : goal.returns
returns c = on_ok_weaker c.write_state.result (λ h. h ∙ ap (λ x. c.args.text.now.items ++ x) (ap₂ (λ (n : Names) xs. state_text n xs c.args.state.now) c.names_of-own.ensures (c.in_ok-shown.ensures ∙ ap (λ (p : TypedProcedure). always_shown p c.args.id) (sym (procedure_is c.args.typed.now.procs.items c.args.proc c.index.result.now c.requires.there c.index.ensures))))) (rw c.deref.ensures.value at c.write_state.ensures)
