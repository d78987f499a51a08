-- Answers that satisfy their definition keep the promises of `Headline`. This project's own.
use Rattle.std.specs.Prelude.{List}
use Rattle.goal_answers.specs.declared.named_goals.NamedGoal.{NamedGoal}
use Rattle.goal_answers.specs.declared.trees.GoalCert.{GoalCert}
use Rattle.heyvl_acts.specs.Acts.{TypedProcedure}
use Rattle.heyvl_acts.specs.Rules.{Each, MeetsRules}
use Rattle.verdict_report.specs.declared.answers.Answer.{Answer}
use Rattle.verify_core.specs.AnsweredProcedures.{AreAnswered}
use Rattle.verify_core.specs.CheckedAnswers.{IsCheckedFile}
use Rattle.verify_core.specs.Headline.{IsHeadline}

-- In a file that satisfies the rules, answers by decisions of its goals keep the promises, whatever
-- procedure made the decisions.
abbrev pub AnswersKeepPromises : Type 0
AnswersKeepPromises = (ps : List TypedProcedure) (answers : List Answer) (made : List NamedGoal)
    (certs : List GoalCert) → Each (MeetsRules ps) ps → AreAnswered ps answers made certs
    → IsHeadline ps answers

-- In a file that satisfies the rules, answers by certificates of its goals keep the promises.
abbrev pub CheckedAnswersKeepPromises : Type 0
CheckedAnswersKeepPromises = (ps : List TypedProcedure) (certs : List GoalCert)
    (answers : List Answer) → Each (MeetsRules ps) ps → IsCheckedFile ps certs answers
    → IsHeadline ps answers
