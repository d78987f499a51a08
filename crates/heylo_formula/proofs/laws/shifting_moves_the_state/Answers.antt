use Rattle.heylo_formula.proofs.exported.Shifts.{shifted_value, shifted_value_in, shifted_type, shifted_typed, shifted_binders, shifted_directed, shifted_nodes, shifted_depth, shifted_free, above_shift, shifted_over, extent_within, extent_over, extent_over_in}
use Rattle.heylo_formula.proofs.laws.shifting_moves_the_state.Goals as goal

pub returns : goal.returns
returns c = record {
  value = shifted_value;
  truth = shifted_value_in;
  types = shifted_type;
  conditions = shifted_typed;
  binders = shifted_binders;
  directions = shifted_directed;
  sizes = λ m f. (shifted_nodes m f, shifted_depth m f);
  variables = shifted_free;
  none_below = above_shift;
  over = shifted_over;
  extent = extent_within;
  extent_of_free = extent_over;
  extent_of_conditions = extent_over_in;
}
