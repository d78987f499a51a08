use Rattle.heyvl_replies.proofs.SaidOfFiles.{gen_answered}
use Rattle.heyvl_replies.proofs.commands.generate.generated_texts_are_answered.Goals as goal

pub returns : goal.returns
returns c = gen_answered
