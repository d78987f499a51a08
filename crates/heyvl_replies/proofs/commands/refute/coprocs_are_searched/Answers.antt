use Rattle.heyvl_replies.proofs.RefuteStarts.{coprocs_searched}
use Rattle.heyvl_replies.proofs.commands.refute.coprocs_are_searched.Goals as goal

pub returns : goal.returns
returns c = coprocs_searched c.sources_have_no_fault.ensures c.spelling_is_unique.ensures
