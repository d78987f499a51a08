use Rattle.placeless_files.proofs.PlacelessProcedures.{same_procedures}
use Rattle.placeless_files.proofs.PlacelessRuns.{same_bounds, same_states, same_sums}
use Rattle.placeless_files.proofs.laws.places_do_not_run.Goals as goal

pub returns : goal.returns
returns c = record {
  procedures = same_procedures;
  states = same_states;
  sums = same_sums c.rules_do_not_run.ensures.sums;
  bounds = same_bounds c.rules_do_not_run.ensures.bounds;
}
