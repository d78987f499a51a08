use Rattle.heyvl_replies.proofs.SaidOfFiles.{run_told}
use Rattle.heyvl_replies.proofs.commands.run.programs_are_run.Goals as goal

pub returns : goal.returns
returns c = run_told c.sources_have_no_fault.ensures c.spelling_is_unique.ensures
