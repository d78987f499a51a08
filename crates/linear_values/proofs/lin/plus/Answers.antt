use Rattle.std.proofs.Common.{ap, ◌∙◌}
use Rattle.linear_values.specs.Lin.{all_fit}
use Rattle.linear_values.specs.PlainValues.{lin_of}
use Rattle.linear_values.proofs.KeptParts.{rest_fits, terms_fit}
use Rattle.linear_values.proofs.lin.plus.Goals as goal

pub merged-requires-clause-from_fits : goal.merged-requires-clause-from_fits
merged-requires-clause-from_fits c = ap all_fit c.deref.ensures.value ∙ terms_fit (lin_of c.args.b.now) c.requires.right

pub merged-requires-clause-into_fits : goal.merged-requires-clause-into_fits
merged-requires-clause-into_fits c = ap all_fit c.deref-2.ensures.value ∙ terms_fit (lin_of c.args.a.now) c.requires.left

pub sum-requires-clause-left : goal.sum-requires-clause-left
sum-requires-clause-left c = rest_fits (lin_of c.args.a.now) c.requires.left

pub sum-requires-clause-right : goal.sum-requires-clause-right
sum-requires-clause-right c = rest_fits (lin_of c.args.b.now) c.requires.right
