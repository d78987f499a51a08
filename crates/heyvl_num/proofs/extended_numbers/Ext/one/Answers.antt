use Rattle.std.proofs.Common.{ap}
use Rattle.heyvl_num.specs.Value.{oneᵛ}
use Rattle.heyvl_num.specs.Value.Value.{finite}
use Rattle.heyvl_num.proofs.extended_numbers.Ext.one.Goals as goal

pub returns : goal.returns
unfolding oneᵛ
returns c = ap finite c.one.ensures
