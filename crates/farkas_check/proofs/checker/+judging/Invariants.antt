use Rattle.std.proofs.Common.{◌+◌, ◌*◌}
use Rattle.goal_answers.specs.Trees.{tree_of}
use Rattle.farkas_check.proofs.Judgements.{height}
use Rattle.farkas_check.proofs.checker.+judging.Given as goal

abbrev pub decreases-judge : goal.decreases-judge
decreases-judge l = 2 * height (tree_of l.tree.now)

abbrev pub decreases-judge_both : goal.decreases-judge_both
decreases-judge_both l = 1 + 2 * (height (tree_of l.first.now) + height (tree_of l.second.now))
