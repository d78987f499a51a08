use Rattle.std.proofs.Common.{ap, ◌∙◌}
use Rattle.linear_values.specs.Lin.{all_fit}
use Rattle.linear_values.specs.PlainValues.{lin_of}
use Rattle.linear_values.proofs.KeptParts.{rest_fits, terms_fit}
use Rattle.linear_values.proofs.lin.scaled.Goals as goal

pub times-requires-clause-coefficients : goal.times-requires-clause-coefficients
times-requires-clause-coefficients c = ap all_fit c.deref.ensures.value ∙ terms_fit (lin_of c.args.a.now) c.requires.value

pub product-requires-clause-right : goal.product-requires-clause-right
product-requires-clause-right c = rest_fits (lin_of c.args.a.now) c.requires.value
