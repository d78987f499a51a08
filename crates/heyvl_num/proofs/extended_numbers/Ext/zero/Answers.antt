use Rattle.std.proofs.Common.{ap}
use Rattle.heyvl_num.specs.Value.{zeroᵛ}
use Rattle.heyvl_num.specs.Value.Value.{finite}
use Rattle.heyvl_num.proofs.extended_numbers.Ext.zero.Goals as goal

pub returns-clause-value : goal.returns-clause-value
unfolding zeroᵛ
returns-clause-value c = ap finite c.zero.ensures
