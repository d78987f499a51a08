use Rattle.std.proofs.Common.{ap, ap₂, ◌∙◌}
use Rattle.linear_values.specs.Lin.{all_fit, merged, times}
use Rattle.linear_rows.specs.Numbers.{fits, minus_oneʳ}
use Rattle.linear_values.specs.PlainValues.{lin_of}
use Rattle.linear_rows.proofs.exported.Narrow.{fits_negated}
use Rattle.linear_values.proofs.KeptParts.{rest_fits, terms_fit}
use Rattle.linear_values.proofs.MergedTerms.{difference_made}
use Rattle.linear_values.proofs.lin.minus.Goals as goal

pub merged-requires-clause-from_fits : goal.merged-requires-clause-from_fits
merged-requires-clause-from_fits c = ap all_fit c.deref.ensures.value ∙ terms_fit (lin_of c.args.b.now) c.requires.right

pub merged-requires-clause-into_fits : goal.merged-requires-clause-into_fits
merged-requires-clause-into_fits c = ap all_fit c.deref-2.ensures.value ∙ terms_fit (lin_of c.args.a.now) c.requires.left

pub sum-requires-clause-left : goal.sum-requires-clause-left
sum-requires-clause-left c = rest_fits (lin_of c.args.a.now) c.requires.left

pub signed-requires : goal.signed-requires
signed-requires c = rest_fits (lin_of c.args.b.now) c.requires.right

pub sum-requires-clause-right : goal.sum-requires-clause-right
sum-requires-clause-right c = ap fits c.signed.ensures ∙ fits_negated c.args.b.now.rest ∙ rest_fits (lin_of c.args.b.now) c.requires.right

pub returns : goal.returns
returns c = difference_made (lin_of c.args.a.now) (lin_of c.args.b.now) _ c.sum.result c.signed.result (c.in_ok-terms.ensures ∙ ap₂ (λ b a. merged (times minus_oneʳ b) a) c.deref.ensures.value c.deref-2.ensures.value) c.signed.ensures c.sum.ensures
