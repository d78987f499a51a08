use Rattle.tool_laws.proofs.exported.BoundHeadline.{bounds_meant}
use Rattle.tool_laws.proofs.exported.HeadlineLemmas.{answers_meant}
use Rattle.tool_laws.proofs.exported.ProgramHeadline.{programs_meant}
use Rattle.tool_laws.proofs.exported.RefuteHeadline.{violations_meant}
use Rattle.tool_laws.proofs.exported.RunHeadline.{sums_meant}
use Rattle.heyvl_tool.proofs.tool.run_tool.Goals as goal

pub returns-in-Ok-clause-verified : goal.returns-in-Ok-clause-verified
returns-in-Ok-clause-verified g c = answers_meant _ _ _ _ c.in-Ok.ensures.cause c.deliver.ensures.delivered

pub returns-in-Ok-clause-summed : goal.returns-in-Ok-clause-summed
returns-in-Ok-clause-summed g c = sums_meant c.unrolled_sums_are_meant.ensures c.resolved_files_meet_the_rules.ensures.procedures _ _ _ _ c.in-Ok.ensures.cause c.deliver.ensures.delivered

pub returns-in-Ok-clause-translated : goal.returns-in-Ok-clause-translated
returns-in-Ok-clause-translated g c = programs_meant c.program_files_have_sums.ensures c.programs_are_translated.ensures.translated _ _ _ _ c.in-Ok.ensures.cause c.deliver.ensures.delivered

pub returns-in-Ok-clause-bounded : goal.returns-in-Ok-clause-bounded
returns-in-Ok-clause-bounded g c = bounds_meant _ _ _ _ c.in-Ok.ensures.cause c.deliver.ensures.delivered

pub returns-in-Ok-clause-refuted : goal.returns-in-Ok-clause-refuted
returns-in-Ok-clause-refuted g c = violations_meant c.broken_bounds_are_never_verified.ensures _ _ _ _ c.in-Ok.ensures.cause c.deliver.ensures.delivered
