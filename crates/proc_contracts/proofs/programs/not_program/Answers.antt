use Rattle.std.proofs.Common.{ap, sym, ◌∙◌}
use Rattle.heyvl_acts.specs.Program.{why_no_program}
use Rattle.proc_contracts.proofs.CalledProcedures.{procedure_is}
use Rattle.proc_contracts.proofs.programs.not_program.Goals as goal

pub returns : goal.returns
returns c = c.why_not.ensures ∙ ap why_no_program (sym (procedure_is c.args.typed.now.procs.items c.args.p c.index.result.now c.requires c.index.ensures))
