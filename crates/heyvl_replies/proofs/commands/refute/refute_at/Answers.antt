use Rattle.heyvl_replies.proofs.commands.refute.refute_at.Goals as goal
use Rattle.command_rules.specs.commands.Refute.IsRefuteOf.{by_shape}
use Rattle.run_script.specs.PlainScripts.{script_of}
use Rattle.std.proofs.Common.{sym, ◌∙◌}
use Rattle.std.proofs.lemmas.Result.{IfOk-weaker}

pub refute_coproc-requires-clause-coproc : goal.refute_coproc-requires-clause-coproc
refute_coproc-requires-clause-coproc c = sym c.is_coproc.ensures ∙ c.if-is_coproc.true

pub returns-else-is_coproc : goal.returns-else-is_coproc
returns-else-is_coproc c =
    IfOk-weaker c.no_coproc.result _ _ (λ r h name bytes named read. by_shape (script_of c.args.script.now) read c.args.p named (sym c.is_coproc.ensures ∙ c.if-is_coproc.false) h) c.no_coproc.ensures
