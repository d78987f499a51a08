use Rattle.heyvl_replies.proofs.PairReplies.{omega_pairs}
use Rattle.heyvl_replies.proofs.commands.omega.omega_pairs_are_answered.Goals as goal

pub returns : goal.returns
returns c = omega_pairs c.sources_have_no_fault.ensures c.spelling_is_unique.ensures
