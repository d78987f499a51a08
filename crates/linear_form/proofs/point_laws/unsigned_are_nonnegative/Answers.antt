use Rattle.linear_form.proofs.UnsignedRows.{unsigned_nonnegative}
use Rattle.linear_form.proofs.point_laws.unsigned_are_nonnegative.Goals as goal

pub returns : goal.returns
returns c = unsigned_nonnegative
