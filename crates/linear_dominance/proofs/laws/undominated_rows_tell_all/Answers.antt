use Rattle.linear_dominance.proofs.LeftRows.{undominated_tell}
use Rattle.linear_dominance.proofs.laws.undominated_rows_tell_all.Goals as goal

pub returns : goal.returns
returns c = undominated_tell
