use Rattle.heyvl_acts.specs.PlainActs.{procedure_of, procedures_of}
use Rattle.heyvl_replies.proofs.procedure_commands.procedures.procedure_named.Given as goal
use Rattle.command_rules.specs.RunStarts.{procedure_named}
use Rattle.std.proofs.Common.{drop, length, map, ◌≡◌}
use Rattle.std.specs.List.{position_from}
use Rattle.std.specs.Str.{bytes_eq}

abbrev pub invariant-loop-procedure : goal.invariant-loop-procedure
invariant-loop-procedure l = record {
  number : l.number ≡ l.procedure-index;
  all : length l.procedure-items ≡ length l.typed.procs.items;
  same : procedure_named l.name (procedures_of l.typed) ≡ position_from (λ p. bytes_eq l.name p.name) l.number (map procedure_of (drop l.procedure-index l.procedure-items));
}
