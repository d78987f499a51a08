use Rattle.tool_laws.proofs.exported.CallLemmas.{read_refused, text_said}
use Rattle.heyvl_tool.proofs.tool.answer_second.Goals as goal
use Rattle.spelled_files.specs.Sources.{file_limit}
use Rattle.tool_laws.specs.Calls.{IsRead, moment, names_holding}
use Rattle.command_rules.specs.commands.{IsReplyTo}
use Rattle.std.proofs.Common.{length, rules, ◌≤◌}

pub returns-in-Ok-clause-answer : goal.returns-in-Ok-clause-answer
returns-in-Ok-clause-answer g c =
    let short : length c.in-Ok.text.items ≤ file_limit = search rules in
    let read : IsRead (names_holding (g.F.Source.names c.args.source.now) (g.F.Source.holds c.args.source.now)) c.args.second.now c.in-Ok.text.items (moment (g.F.Source.order c.args.source.now) (g.F.Source.history c.args.source.now) (g.F.Source.faults c.args.source.now)) (moment (g.F.Source.order c.read_all.new.source) (g.F.Source.history c.read_all.new.source) (g.F.Source.faults c.read_all.new.source)) =
    record { order = c.read_all.ensures.order; history = c.in-Ok.ensures.returned; short = short; holds = c.in-Ok.ensures.bytes; faults = c.read_all.ensures.count } in
    text_said 1 _ c.args.second.now c.in-Ok.text.items c.deref.result.now (λ text. IsReplyTo c.args.settings.now c.args.bytes.now text) _ _ c.respond.result c.deref.ensures.value read c.respond.ensures

pub returns-in-Err-clause-answer : goal.returns-in-Err-clause-answer
returns-in-Err-clause-answer g c =
    read_refused 1 _ c.args.second.now _ _ _ c.read_all.result c.in-Err.stop c.unread.result c.in-Err.is c.read_all.ensures.order c.read_all.ensures.history c.read_all.ensures.failed c.read_all.ensures.too_long c.read_all.ensures.longer c.unread.ensures
