use Rattle.heyvl_syntax.proofs.FrontFits.{front-fits}
use Rattle.heyvl_syntax.proofs.fronts.front_of.Goals as goal

pub returns-clause-inside : goal.returns-clause-inside
returns-clause-inside c = front-fits c.args.bytes.now c.front_by_byte.result c.front_by_byte.ensures.value c.front_by_byte.ensures.within
