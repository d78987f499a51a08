-- Each state that agrees with a path satisfies its rows; with the denied goal, if the goal fails in
-- it.
use Rattle.std.proofs.Common.{true, false}
use Rattle.heylo_formula.specs.State.{environment}
use Rattle.linear_form.specs.ClaimLaws.{RowsAreMet, DeniedRowsAreMet}
use Rattle.linear_form.specs.PathRows.{claims_of}
use Rattle.heylo_formula.specs.Typing.{types_in}
use Rattle.linear_form.proofs.TypedValues.{typed_environment}
use Rattle.linear_form.proofs.MetClaims.{answers_claimed, denials_claimed}
use Rattle.linear_form.proofs.NormalClaims.{all_nonzero}
use Rattle.linear_values.proofs.exported.TightRows.{rows_met}

pub rows_are_met : RowsAreMet
rows_are_met g s ps rows t p a e = rows_met (types_in g.types) (environment s) (claims_of g ps false) rows (typed_environment g.types s t) (all_nonzero g ps false p) (answers_claimed g s ps t a) e

pub denied_rows_are_met : DeniedRowsAreMet
denied_rows_are_met g s ps rows w t p a n e = rows_met (types_in g.types) (environment s) (claims_of g ps true) rows (typed_environment g.types s t) (all_nonzero g ps true p) (denials_claimed g s ps w t p a n) e
