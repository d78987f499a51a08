use Rattle.heyvl_io.specs.History.{with_bytes}
use Rattle.heyvl_io.proofs.logs.Log.hand_out.Given as goal

abbrev pub ghost-set : goal.ghost-set
ghost-set a = with_bytes a.self.now.history a._bytes.now
