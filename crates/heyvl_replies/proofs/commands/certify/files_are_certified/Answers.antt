use Rattle.heyvl_replies.proofs.SaidOfFiles.{certified}
use Rattle.heyvl_replies.proofs.commands.certify.files_are_certified.Goals as goal

pub returns : goal.returns
returns c = certified c.sources_have_no_fault.ensures c.spelling_is_unique.ensures
