use Rattle.verify_core.proofs.procedure_goals.goals.Goals as goal

pub returns : goal.returns
returns c = record {
  bounds = c.in_ok-all.all.items;
  rankings = c.in_ok-ranked.ranked.items;
  all_are = c.in_ok-append.ensures.items;
  bound = c.in_ok-all.ensures;
  ranked = c.in_ok-ranked.ensures;
}
