use Rattle.std.proofs.Common.{ap, sym, ◌++◌, ◌∙◌}
use Rattle.heyvl_acts.specs.Acts.{TypedProcedure}
use Rattle.std.specs.Prelude.{codes}
use Rattle.verdict_report.specs.Verdicts.{condition_text}
use Rattle.verdict_report.proofs.Heads.{procedure_is}
use Rattle.verdict_report.proofs.Texts.{two_parts}
use Rattle.verdict_report.proofs.verdicts.write_condition.Goals as goal

pub returns : goal.returns
returns c =
    two_parts c.args.text.now.items _ _ (codes "conditional on ") c.index.result.now.name c.in_ok-extend_from_slice.ensures.items (rw c.as_bytes.ensures at c.in_ok-extend_from_slice-2.ensures.items)
    ∙ ap (λ (p : TypedProcedure). c.args.text.now.items ++ condition_text p) (sym (procedure_is c.args.typed.now.procs.items c.args.other c.index.result.now c.requires c.index.ensures))
