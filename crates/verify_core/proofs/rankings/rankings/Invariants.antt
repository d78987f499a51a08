use Rattle.std.proofs.Common.{List, ◌++◌}
use Rattle.std.specs.Vec.Iter.{into_iter_items}
use Rattle.heyvl_acts.specs.Acts.{procedure_at}
use Rattle.heyvl_acts.specs.PlainActs.{procedures_of}
use Rattle.heyvl_acts.specs.Rules.{Each}
use Rattle.ranking_rule.specs.Rankings.{RankedLoop}
use Rattle.goal_answers.specs.declared.named_goals.NamedGoal.{NamedGoal}
use Rattle.verify_core.specs.Rankings.{AreRankingGoals, ranked_loops}
use Rattle.verify_core.proofs.rankings.rankings.Given as goal

abbrev pub invariant-loop-number : goal.invariant-loop-number
invariant-loop-number l = record {
  goals : (more : List NamedGoal) → AreRankingGoals (procedures_of l.typed) l.p (into_iter_items l.number-iterator) more → AreRankingGoals (procedures_of l.typed) l.p (ranked_loops (procedure_at (procedures_of l.typed) l.p)) (l.all.items ++ more);
  named : Each (RankedLoop (procedure_at (procedures_of l.typed) l.p)) (into_iter_items l.number-iterator);
}
