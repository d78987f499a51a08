use Rattle.heyvl_acts.specs.PlainActs.{procedure_of, procedures_of}
use Rattle.heyvl_replies.proofs.RunStarts.{first_or_programs, found_below, itself_bad, reached_below}
use Rattle.heyvl_replies.proofs.procedure_commands.procedures.first_no_program.Goals as goal
use Rattle.std.proofs.Common.{sym, ◌∙◌}
use Rattle.std.proofs.lemmas.List.{length-map}

pub returns-then-is_no_program-clause-first : goal.returns-then-is_no_program-clause-first
returns-then-is_no_program-clause-first c = itself_bad (procedures_of c.args.typed.now) c.args.p (sym c.is_no_program.ensures ∙ c.if-is_no_program.true)

pub first_no_program_of-requires : goal.first_no_program_of-requires
first_no_program_of-requires c = rw c.deref.ensures.value (reached_below (procedures_of c.args.typed.now) c.args.p _ c.in_ok-reached.reached.items c.in_ok-reached.ensures (length-map c.args.typed.now.procs.items procedure_of))

pub returns-clause-first : goal.returns-clause-first
returns-clause-first c = first_or_programs (procedures_of c.args.typed.now) c.args.p c.in_ok-reached.reached.items c.first_no_program_of.result c.in_ok-reached.ensures (sym c.is_no_program.ensures ∙ c.if-is_no_program.false) (rw c.deref.ensures.value at c.first_no_program_of.ensures)

pub returns-clause-below : goal.returns-clause-below
returns-clause-below c = found_below (procedures_of c.args.typed.now) c.args.p _ c.in_ok-reached.reached.items c.first_no_program_of.result c.in_ok-reached.ensures (length-map c.args.typed.now.procs.items procedure_of) (rw c.deref.ensures.value at c.first_no_program_of.ensures)
