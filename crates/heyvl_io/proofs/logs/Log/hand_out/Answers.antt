use Rattle.std.proofs.Common.{ap, ◌∙◌, length}
use Rattle.heyvl_io.specs.History.{since_start}
use Rattle.heyvl_io.proofs.exported.Histories.{length-with_bytes, since_start-with_bytes}
use Rattle.heyvl_io.proofs.logs.Log.hand_out.Goals as goal

pub returns-clause-starts : goal.returns-clause-starts
returns-clause-starts c = ap length c.set.ensures ∙ length-with_bytes c.args.self.now.history c.args.bytes.now

pub returns-clause-behind : goal.returns-clause-behind
returns-clause-behind c = λ some. ap since_start c.set.ensures ∙ since_start-with_bytes c.args.self.now.history c.args.bytes.now some
