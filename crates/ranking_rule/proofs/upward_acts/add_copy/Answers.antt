use Rattle.ranking_rule.proofs.UpwardCopies.{one_act}
use Rattle.ranking_rule.proofs.upward_acts.add_copy.Goals as goal

pub returns : goal.returns
returns c = one_act c.args.raised.now.items c.push.new.self.items _ _ c.in_ok-push.ensures.items c.in_ok-copy.ensures
