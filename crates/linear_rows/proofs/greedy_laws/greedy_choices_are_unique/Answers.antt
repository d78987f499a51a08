use Rattle.linear_rows.proofs.GreedyUnique.{choices_unique, points_unique}
use Rattle.linear_rows.proofs.greedy_laws.greedy_choices_are_unique.Goals as goal

pub returns : goal.returns
returns c = record { choices = choices_unique; points = points_unique }
