use Rattle.heylo_formula.proofs.exported.Plain.{finite_plain, typed_plain, term_plain, joins}
use Rattle.heylo_formula.proofs.exported.TypedTerms.{whole_value, term_typed}
use Rattle.heylo_formula.proofs.TypedValues.{fit_has, fit_same}
use Rattle.heylo_formula.proofs.laws.terms_have_values_of_their_types.Goals as goal

pub returns : goal.returns
returns c = record {
  whole = whole_value;
  typed = term_typed;
  binders = finite_plain;
  binders_of_conditions = typed_plain;
  plain = term_plain;
  fit = fit_has;
  fit_keeps = fit_same;
  joins = joins;
}
