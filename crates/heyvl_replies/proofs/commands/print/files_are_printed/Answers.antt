use Rattle.heyvl_replies.proofs.SaidOfFiles.{printed_told}
use Rattle.heyvl_replies.proofs.commands.print.files_are_printed.Goals as goal

pub returns : goal.returns
returns c = printed_told c.sources_have_no_fault.ensures c.spelling_is_unique.ensures
