use Rattle.std.proofs.Common.{sym}
use Rattle.heyvl_io.proofs.exported.Histories.{with_bytes-none}
use Rattle.heyvl_io.proofs.file_sources.FileSourceSource.read.Goals as goal

pub returns-in-None-clause-history : goal.returns-in-None-clause-history
returns-in-None-clause-history g c = sym (with_bytes-none c.args.self.now.log.history)
