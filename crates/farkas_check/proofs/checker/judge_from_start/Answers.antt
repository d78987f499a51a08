use Rattle.std.proofs.Common.{refl}
use Rattle.heylo_formula.specs.Goals.{goal_of}
use Rattle.goal_answers.specs.Trees.{tree_of}
use Rattle.farkas_check.proofs.TrailSteps.{first_trail, first_place}
use Rattle.farkas_check.proofs.Judgements.{at_start}
use Rattle.farkas_check.proofs.checker.judge_from_start.Goals as goal

pub judge-requires-clause-trail : goal.judge-requires-clause-trail
judge-requires-clause-trail c = first_trail (goal_of c.args.goal.now) _ c.new.ensures.items c.new-2.ensures.items refl

pub judge-requires-clause-on : goal.judge-requires-clause-on
judge-requires-clause-on c = first_place (goal_of c.args.goal.now) _ c.in_ok-place.place c.new.ensures.items c.in_ok-place.ensures

pub returns : goal.returns
returns c = at_start c.judge.result (goal_of c.args.goal.now) _ (tree_of c.args.tree.now) c.new.ensures.items c.judge.ensures
