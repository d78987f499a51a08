use Rattle.heyvl_replies.proofs.SaidOfFiles.{verified}
use Rattle.heyvl_replies.proofs.commands.verify.files_are_verified.Goals as goal

pub returns : goal.returns
returns c = verified c.sources_have_no_fault.ensures c.spelling_is_unique.ensures
