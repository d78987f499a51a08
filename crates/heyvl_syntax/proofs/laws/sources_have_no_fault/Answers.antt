use Rattle.heyvl_syntax.proofs.OneFault.{no_source_fault}
use Rattle.heyvl_syntax.proofs.laws.sources_have_no_fault.Goals as goal

pub returns : goal.returns
returns c = no_source_fault
