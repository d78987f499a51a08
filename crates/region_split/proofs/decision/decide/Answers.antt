use Rattle.std.proofs.Common.{arith}
use Rattle.std.specs.Prelude.{Result, Ok, Err, IfOk}
use Rattle.heylo_formula.specs.Goals.{Goal, goal_of}
use Rattle.heylo_formula.specs.TypedGoals.{IsTypedGoal, HasItsVariables}
use Rattle.region_split.specs.Decisions.{IsDecision}
use Rattle.region_split.specs.Meanings.{Tells}
use Rattle.goal_answers.specs.declared.decisions.Decision.{Decision}
use Rattle.region_split.proofs.Meaning.{decision_tells}
use Rattle.region_split.proofs.decision.decide.Goals as goal

tells : {E : Type 0} (g : Goal) (r : Result Decision E) → IsTypedGoal g → HasItsVariables g → IfOk r (λ d. IsDecision g d) → IfOk r (λ d. Tells g d)
tells g (Ok d) w v h = decision_tells g d w v h
tells g (Err e) w v h = tt

pub walked-requires-clause-short : goal.walked-requires-clause-short
walked-requires-clause-short c = λ ps p. let h = c.paths_are_short.ensures (goal_of c.args.goal.now) ps p in let a = c.requires.stated_small in let b = c.requires.found_small in let d = c.requires.few_variables in omega (arith, h, a, b, d)

pub returns-in-None-clause-meaning : goal.returns-in-None-clause-meaning
returns-in-None-clause-meaning c = tells (goal_of c.args.goal.now) c.walked.result c.requires.typed c.requires.own_variables c.walked.ensures
