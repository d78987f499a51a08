use Rattle.linear_rows.proofs.Combinations.{contradiction_unsolvable}
use Rattle.linear_rows.proofs.Fractions.{solvable_is}
use Rattle.linear_rows.proofs.row_laws.solutions_of_rows.Goals as goal

pub returns : goal.returns
returns c = record { contradictions = contradiction_unsolvable; points = solvable_is }
