use Rattle.heyvl_parse.proofs.Readings.{unique}
use Rattle.heyvl_parse.proofs.laws.expression_is_unique.Goals as goal

pub returns : goal.returns
returns c = unique
