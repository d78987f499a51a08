use Rattle.heyvl_replies.proofs.SaidOfFiles.{gen_said}
use Rattle.heyvl_replies.proofs.commands.generate.respond.Goals as goal

pub returns : goal.returns
returns c = gen_said c.args.lines _ _ _ c.in_ok-made.ensures c.answered.ensures
