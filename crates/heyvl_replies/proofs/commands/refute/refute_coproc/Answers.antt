use Rattle.heyvl_acts.specs.PlainActs.{procedures_of}
use Rattle.heyvl_replies.proofs.commands.refute.refute_coproc.Goals as goal
use Rattle.command_rules.specs.RunStarts.{IsFirstNoProgram}
use Rattle.command_rules.specs.commands.Refute.IsRefuteOf.{by_program, by_search}
use Rattle.run_machine.specs.ConfigConditions.{ReachesPrograms}
use Rattle.run_script.specs.PlainScripts.{script_of}
use Rattle.std.proofs.lemmas.Result.{IfOk-weaker}

pub returns-in-Some : goal.returns-in-Some
returns-in-Some c =
    let first : IsFirstNoProgram (procedures_of c.args.typed.now) c.args.p c.in-Some.q = rw c.in-Some.is at c.in_ok-q.ensures.first in
    IfOk-weaker c.no_program.result _ _ (λ r h name bytes named read. by_program (script_of c.args.script.now) read c.args.p named c.requires.coproc c.in-Some.q first h) c.no_program.ensures

pub returns-in-None : goal.returns-in-None
returns-in-None c =
    let programs : ReachesPrograms (procedures_of c.args.typed.now) c.args.p = rw c.in-None.is at c.in_ok-q.ensures.first in
    IfOk-weaker c.refute_programs.result _ _ (λ r h name bytes named read. by_search (script_of c.args.script.now) read c.args.p named c.requires.coproc programs h) c.refute_programs.ensures
