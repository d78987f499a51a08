use Rattle.heyvl_acts.specs.PlainActs.{procedure_of}
use Rattle.heyvl_acts.specs.Rules.{Each, IsCounted}
use Rattle.heyvl_syntax.specs.Procedures.{procedures}
use Rattle.heyvl_types.proofs.ProcedureList.{Reads}
use Rattle.heyvl_types.proofs.files.read_procedures.Given as goal
use Rattle.std.proofs.Common.{map, ◌≡◌}

abbrev pub invariant-loop-proc : goal.invariant-loop-proc
invariant-loop-proc l = record {
  number : l.number ≡ l.proc-index;
  reads : Reads (procedures l.file) l.proc-index l.number (map procedure_of l.procs.items);
  counted : Each IsCounted l.procs.items;
}
