use Rattle.heyvl_acts.specs.Acts.{procedure_at}
use Rattle.heyvl_acts.specs.PlainActs.{procedures_of}
use Rattle.heyvl_acts.specs.Program.{why_no_program}
use Rattle.heyvl_replies.proofs.procedure_commands.procedures.first_no_program_of.Given as goal
use Rattle.std.proofs.Common.{drop, is_some, ◌≡◌}
use Rattle.std.specs.List.{find}

abbrev pub invariant-loop-q : goal.invariant-loop-q
invariant-loop-q l = find (λ q. is_some (why_no_program (procedure_at (procedures_of l.typed) q))) l.all ≡ find (λ q. is_some (why_no_program (procedure_at (procedures_of l.typed) q))) (drop l.q-index l.all)
