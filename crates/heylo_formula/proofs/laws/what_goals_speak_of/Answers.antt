use Rattle.heylo_formula.proofs.exported.Agreement.{unchosen}
use Rattle.heylo_formula.proofs.exported.Goals.{goal_reads, goal_everywhere, goal_on_lists}
use Rattle.heylo_formula.proofs.laws.what_goals_speak_of.Goals as goal

pub returns : goal.returns
returns c = record {
  variables = goal_reads;
  environments = λ g v. (goal_everywhere g v, goal_on_lists g);
  choices = λ g s c h. (unchosen g.stated s c h.stated, unchosen g.found s c h.found);
}
