use Rattle.run_unroller.proofs.FullLists.{full_lists_long, other_lists_short}
use Rattle.run_unroller.proofs.laws.full_lists_are_long.Goals as goal

pub returns : goal.returns
returns c = record { long = full_lists_long; short = other_lists_short }
