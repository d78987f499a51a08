use Rattle.heyvl_replies.proofs.SaidOfFiles.{checked}
use Rattle.heyvl_replies.proofs.commands.check.files_are_checked.Goals as goal

pub returns : goal.returns
returns c = checked c.sources_have_no_fault.ensures c.spelling_is_unique.ensures
