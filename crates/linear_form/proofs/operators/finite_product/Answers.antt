use Rattle.linear_values.specs.PlainValues.{lin_of}
use Rattle.linear_values.proofs.exported.KeptParts.{rest_fits}
use Rattle.linear_form.proofs.OperatorRuns.{finite_product_large}
use Rattle.std.proofs.Common.{sym, ◌∙◌}
use Rattle.linear_form.proofs.operators.finite_product.Goals as goal

pub scaled-requires-clause-factor : goal.scaled-requires-clause-factor
scaled-requires-clause-factor c = rest_fits (lin_of c.args.a.now) c.requires.left

pub scaled-requires-then-is_constant-2-clause-factor : goal.scaled-requires-then-is_constant-2-clause-factor
scaled-requires-then-is_constant-2-clause-factor c = rest_fits (lin_of c.args.b.now) c.requires.right

pub returns-else-is_constant-2 : goal.returns-else-is_constant-2
returns-else-is_constant-2 c = finite_product_large _ _ _ _ _ _ (sym c.is_constant.ensures ∙ c.if-is_constant.false) (sym c.is_constant-else-is_constant.ensures ∙ c.if-is_constant-2.false)
