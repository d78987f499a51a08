use Rattle.std.proofs.Common.{sym, ◌∙◌}
use Rattle.heyvl_acts.specs.Acts.{procedure_at}
use Rattle.heyvl_acts.specs.PlainActs.{procedures_of}
use Rattle.verify_core.proofs.GoalOutcomes.{none_told, proved_untold}
use Rattle.verify_core.proofs.ProcedureKinds.{of_kind}
use Rattle.verify_core.proofs.answering.own_verdict.Goals as goal

pub returns-in_default-clause-verdict : goal.returns-in_default-clause-verdict
returns-in_default-clause-verdict c = of_kind (procedure_at (procedures_of c.args.typed.now) c.args.p) c.args.row.items c.by_kind.result (none_told c.args.row.items (sym c.told.ensures ∙ c.in_default.is)) c.by_kind.ensures

pub unreachable-requires : goal.unreachable-requires
unreachable-requires c = proved_untold c.args.row.items c.in-Some.one (sym c.told.ensures ∙ c.in-Some.is) c.in-Proved.is
