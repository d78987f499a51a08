use Rattle.heyvl_replies.proofs.RunStarts.{procedure_counted, procedure_is}
use Rattle.heyvl_replies.proofs.procedure_commands.procedures.procedure.Goals as goal

pub returns-clause-value : goal.returns-clause-value
returns-clause-value c = procedure_is c.args.typed.now.procs.items c.args.p c.index.result.now c.requires.there c.index.ensures

pub returns-clause-counted : goal.returns-clause-counted
returns-clause-counted c = procedure_counted c.args.typed.now.procs.items c.args.p c.index.result.now c.requires.there c.index.ensures c.requires.rules.counted
