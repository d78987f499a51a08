-- For other crates: the body of a procedure of a file that satisfies the static rules has few fresh
-- variables.
use Rattle.std.proofs.Common.{◌≤◌, ◌<◌, ℕ, List, length}
use Rattle.heyvl_acts.specs.Acts.{TypedProcedure, acts_in, procedure_at}
use Rattle.heyvl_acts.specs.Count.{count_of}
use Rattle.heyvl_acts.specs.Rules.{MeetsRules}
use Rattle.loop_encodings.specs.Fresh.{fresh}
use Rattle.loop_encodings.proofs.Counts.{few}
use Rattle.loop_encodings.proofs.FromRules.{all_fine, ready_acts}

pub few_fresh : (ps : List TypedProcedure) (p : TypedProcedure) → ((q : ℕ) → q < length ps → MeetsRules ps (procedure_at ps q)) → MeetsRules ps p → length (fresh ps (acts_in p.body)) ≤ count_of (acts_in p.body)
few_fresh ps p rules meets = few ps p (acts_in p.body) (ready_acts ps p rules (acts_in p.body) (all_fine ps p meets))
