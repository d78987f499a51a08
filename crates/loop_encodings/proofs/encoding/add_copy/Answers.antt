use Rattle.loop_encodings.proofs.AppendedActs.{last_one}
use Rattle.loop_encodings.proofs.encoding.add_copy.Goals as goal

pub returns : goal.returns
returns c = last_one _ _ _ _ c.in_ok-push.ensures.items c.in_ok-copy.ensures
