use Rattle.heyvl_replies.proofs.PairReplies.{remainder_pairs}
use Rattle.heyvl_replies.proofs.commands.remainder.remainder_pairs_are_answered.Goals as goal

pub returns : goal.returns
returns c = remainder_pairs c.sources_have_no_fault.ensures c.spelling_is_unique.ensures
