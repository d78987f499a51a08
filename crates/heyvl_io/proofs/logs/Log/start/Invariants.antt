use Rattle.heyvl_io.specs.History.{with_start}
use Rattle.heyvl_io.proofs.logs.Log.start.Given as goal

abbrev pub ghost-set : goal.ghost-set
ghost-set a = with_start a.self.now.history a._bytes.now
