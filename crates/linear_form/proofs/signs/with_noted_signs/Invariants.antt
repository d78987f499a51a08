use Rattle.std.proofs.Common.{◌≡◌, map, false}
use Rattle.std.specs.Prelude.{Some}
use Rattle.linear_values.specs.Lin.{variable}
use Rattle.linear_form.specs.PathRows.{claim, negated}
use Rattle.linear_form.specs.internal.FurtherRows.{rows_with, all_unsigned_in}
use Rattle.heylo_formula.specs.Typing.{types_in}
use Rattle.linear_form.proofs.signs.with_noted_signs.Given as goal

abbrev pub invariant-loop-x : goal.invariant-loop-x
invariant-loop-x l = rows_with (types_in l.types) l.fn.rows.items (map (λ x. claim (negated (variable x)) false) (all_unsigned_in (types_in l.types) l.fn.rows.items l.x)) ≡ Some l.made.items
