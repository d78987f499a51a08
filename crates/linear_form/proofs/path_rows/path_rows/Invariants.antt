use Rattle.std.proofs.Common.{◌≡◌, length}
use Rattle.linear_values.specs.Tightening.{all_tightened}
use Rattle.linear_form.specs.PathRows.{path_claims}
use Rattle.linear_form.specs.internal.FurtherRows.{rows_with}
use Rattle.linear_form.specs.internal.NormalPaths.{IsNormalPath}
use Rattle.linear_form.specs.PlainPaths.{path_of}
use Rattle.heylo_formula.specs.Typing.{types_in}
use Rattle.linear_form.proofs.path_rows.path_rows.Given as goal

abbrev pub decreases-path : goal.decreases-path
decreases-path l = length l.rest

abbrev pub invariant-path : goal.invariant-path
invariant-path l = record { whole : all_tightened (types_in l.fn.types) (path_claims (path_of l.fn.path)) ≡ rows_with (types_in l.fn.types) l.rows.items (path_claims (path_of l.rest)); normal : IsNormalPath (path_of l.rest) }
