use Rattle.heyvl_syntax.specs.Procedures.{procedure}
use Rattle.std.proofs.Common.{sym, true, ◌∙◌, ◌≡◌}
use Rattle.std.specs.Option.{is_none}
use Rattle.typed_expressions.proofs.CallEntries.{declared, found, kept}
use Rattle.typed_expressions.proofs.calls.Calls.declare.Goals as goal
use Rattle.typed_expressions.proofs.calls.Calls.declare.Goals.{in-None-1, in-Some-1}
use Rattle.typed_expressions.specs.Signatures.{find_call, signature}

pub returns-in_ok-insert : goal.returns-in_ok-insert
returns-in_ok-insert c =
    let h : is_none (find_call c.args.self.now c.args.proc.now.name) ≡ true = found c.find.result _ c.is_none.result true c.find.ensures c.is_none.ensures c.if-is_none.true in
    let d = declared c.in_ok-bytes.bytes c.in_ok-new.field-0 c.self.inside.entries.entries _ c.args.proc.now.name (signature c.args.number (procedure c.args.proc.now)) c.args.self.now c.in_ok-insert.ensures.entries c.self.view_is (c.in_ok-bytes.ensures.items ∙ c.as_bytes.ensures) c.in_ok-new.ensures h in
    elim c.match-branch-4.branch [ in-Some-1 w ↦ w.self-is ∙ d | in-None-1 w ↦ w.self-is ∙ d ]

pub returns-else-is_none : goal.returns-else-is_none
returns-else-is_none c = sym (kept c.args.proc.now.name (signature c.args.number (procedure c.args.proc.now)) c.args.self.now (found c.find.result _ c.is_none.result _ c.find.ensures c.is_none.ensures c.if-is_none.false))
