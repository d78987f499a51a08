use Rattle.std.proofs.Common.{sym, subst}
use Rattle.heyvl_acts.specs.Acts.{TypedProcedure, procedure_at}
use Rattle.heyvl_acts.specs.PlainActs.{procedures_of}
use Rattle.heyvl_acts.specs.Program.{IsProgram}
use Rattle.lower_goals.specs.internal.Shapes.{IsLoopOf}
use Rattle.lower_goals.proofs.LentLoops.{no_program}
use Rattle.loop_encodings.proofs.exported.FromRules.{procedure_is}
use Rattle.lower_goals.proofs.shapes.one_loop.Goals as goal

pub returns-in-Some : goal.returns-in-Some
returns-in-Some c = no_program (procedure_at (procedures_of c.args.typed.now) c.args.p) _ c.in-Some.ensures

pub returns-in-None : goal.returns-in-None
returns-in-None c =
    let e = procedure_is c.args.typed.now.procs.items c.args.p c.index.result.now c.requires.there c.index.ensures in
    subst (λ (a : TypedProcedure). IsLoopOf a c.weak_loop.result) (sym e) (c.weak_loop.ensures (subst (λ (a : TypedProcedure). IsProgram a) e (sym c.in-None.ensures)))
