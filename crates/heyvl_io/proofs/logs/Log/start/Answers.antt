use Rattle.std.proofs.Common.{[], ap, ◌∙◌}
use Rattle.heyvl_io.specs.History.{handed_out, since_start}
use Rattle.heyvl_io.proofs.exported.Histories.{begun, since_start-last}
use Rattle.heyvl_io.proofs.logs.Log.start.Goals as goal

pub returns-clause-begun : goal.returns-clause-begun
returns-clause-begun c = rw c.set.ensures (begun c.args.self.now.history (handed_out c.args.name.now []))

pub returns-clause-none : goal.returns-clause-none
returns-clause-none c = ap since_start c.set.ensures ∙ since_start-last c.args.self.now.history (handed_out c.args.name.now [])
