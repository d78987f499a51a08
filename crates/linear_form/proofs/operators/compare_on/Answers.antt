use Rattle.std.proofs.Common.{sym, ap, ◌∙◌}
use Rattle.linear_rows.specs.Numbers.{fits}
use Rattle.linear_form.specs.PlainPaths.{path_of}
use Rattle.linear_values.specs.PlainValues.{lin_of}
use Rattle.linear_form.specs.internal.Run.Evaluation.{value}
use Rattle.linear_values.proofs.exported.KeptParts.{rest_fits}
use Rattle.linear_rows.proofs.exported.Narrow.{fits_negated}
use Rattle.linear_form.proofs.OneSidedSums.{difference_large, difference_known, difference_told}
use Rattle.linear_form.proofs.operators.compare_on.Goals as goal

pub signed-requires : goal.signed-requires
signed-requires c = rest_fits (lin_of c.args.b.now) c.requires.right

pub sum-rest-requires-clause-left : goal.sum-rest-requires-clause-left
sum-rest-requires-clause-left c = rest_fits (lin_of c.args.a.now) c.requires.left

pub sum-rest-requires-clause-right : goal.sum-rest-requires-clause-right
sum-rest-requires-clause-right c = ap fits c.signed.ensures ∙ fits_negated c.args.b.now.rest ∙ rest_fits (lin_of c.args.b.now) c.requires.right

pub returns-then-not-fits : goal.returns-then-not-fits
returns-then-not-fits c = difference_large (lin_of c.args.a.now) (lin_of c.args.b.now) c.signed.result c.sum-rest.result c.requires.left c.requires.right c.requires.constant c.signed.ensures c.sum-rest.ensures (path_of c.args.path.now) c.args.strict c.args.at (sym c.fits.ensures ∙ c.if-not-fits.true)

pub returns-then-are_constant : goal.returns-then-are_constant
returns-then-are_constant c = difference_known (lin_of c.args.a.now) (lin_of c.args.b.now) c.signed.result c.sum-rest.result c.requires.left c.requires.right c.requires.constant c.signed.ensures c.sum-rest.ensures (path_of c.args.path.now) c.args.strict c.args.at (sym c.fits.ensures ∙ c.if-not-fits.false) (sym c.are_constant.ensures ∙ c.if-are_constant.true) ∙ ap (λ b. value b c.args.at) (sym c.is_negative.ensures)

pub returns-else-are_constant : goal.returns-else-are_constant
returns-else-are_constant c = difference_told (lin_of c.args.a.now) (lin_of c.args.b.now) c.signed.result c.sum-rest.result c.requires.left c.requires.right c.requires.constant c.signed.ensures c.sum-rest.ensures c.args.path.now c.args.strict c.args.at c.index-path-at.result (sym c.fits.ensures ∙ c.if-not-fits.false) (sym c.are_constant.ensures ∙ c.if-are_constant.false) c.requires.goes_on c.index-path-at.is
