use Rattle.heylo_formula.proofs.exported.States.{length-typed, env_typed, set_is_put, set_typed, put_keeps, typed_append, append_first, append_second, types_first, types_second, listed_same, listed_typed, put_again, put_commute}
use Rattle.heylo_formula.proofs.laws.lists_are_environments.Goals as goal

pub returns : goal.returns
returns c = record {
  length = length-typed;
  typed = env_typed;
  changed = set_is_put;
  lists_stay_typed = set_typed;
  stays_typed = put_keeps;
  appended = typed_append;
  first = append_first;
  second = append_second;
  first_types = types_first;
  second_types = types_second;
  listed = listed_same;
  listed_typed = listed_typed;
  commute = put_commute;
  later = λ x y v w s e. put_again x y v w s e;
}
