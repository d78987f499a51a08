use Rattle.heylo_formula.proofs.exported.Operators.{validate_up, covalidate_up, validate_nonnegative, covalidate_nonnegative}
use Rattle.heylo_formula.proofs.exported.TypedTerms.{whole_difference}
use Rattle.heylo_formula.proofs.laws.growth_of_validates.Goals as goal

pub returns : goal.returns
returns c = record {
  validate = validate_up;
  covalidate = covalidate_up;
  nonnegative = λ x. (validate_nonnegative x, covalidate_nonnegative x);
  whole = whole_difference;
}
