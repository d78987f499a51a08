use Rattle.std.proofs.Common.{arith}
use Rattle.linear_rows.proofs.exported.SameTerms.{same_terms-tells}
use Rattle.region_split.proofs.moved_multipliers.is_same_row.Goals as goal

pub returns-then-a-b-2 : goal.returns-then-a-b-2
returns-then-a-b-2 c = grind (arith, same_terms-tells)
