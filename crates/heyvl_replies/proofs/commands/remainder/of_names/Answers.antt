use Rattle.heyvl_acts.specs.PlainActs.{procedures_of}
use Rattle.heyvl_replies.proofs.commands.remainder.of_names.Goals as goal
use Rattle.command_rules.specs.RunStarts.{procedure_named}
use Rattle.command_rules.specs.commands.Remainder.IsRemainderOf.{by_pair}
use Rattle.std.proofs.Common.{Some, sym, ◌∙◌, ◌≡◌}
use Rattle.std.proofs.lemmas.Result.{IfOk-weaker}

pub returns-in-Some-second : goal.returns-in-Some-second
returns-in-Some-second c =
    let first : procedure_named c.args.procedure.now (procedures_of c.args.typed.now) ≡ Some c.in-Some.p = sym c.procedure_named-first.ensures.value ∙ c.in-Some.is in
    let second : procedure_named c.args.name.now (procedures_of c.args.typed.now) ≡ Some c.in-Some-second.q = sym c.procedure_named-second.ensures.value ∙ c.in-Some-second.is in
    IfOk-weaker c.of_pair.result _ _ (λ r h. by_pair c.in-Some.p c.in-Some-second.q first second h) c.of_pair.ensures
