use Rattle.std.proofs.Common.{◌&&◌, ◌∙◌, ap, cond, length, sym}
use Rattle.std.specs.Prelude.{Some, None}
use Rattle.std.specs.List.{list_any}
use Rattle.linear_rows.specs.VariableOrder.{occurs_in_row}
use Rattle.linear_form.proofs.signs.unsigned_variable.Goals as goal

pub returns-then-is_unsigned : goal.returns-then-is_unsigned
returns-then-is_unsigned c rows h l = c.variable.ensures (length c.args.types.now) rows h l ∙ ap (λ b. cond (b && list_any (occurs_in_row c.args.x) rows) (Some c.args.x) None) (sym c.if-is_unsigned.true ∙ c.is_unsigned.ensures)
