use Rattle.heylo_formula.specs.Choices.{Choices}
use Rattle.heylo_formula.proofs.TypedValues.{finite_value, nonnegative_value}
use Rattle.heylo_formula.proofs.laws.types_bound_values.Goals as goal

pub returns : goal.returns
returns c = record {
  finite = finite_value;
  nonnegative = nonnegative_value;
  plain = λ types f n h. (n, λ s. finite_value types f s Choices.stop h);
}
