use Rattle.lower_rules.proofs.PartAnswers.{part_answer, part_promise}
use Rattle.lower_rules.proofs.remainders.of_ranked.Goals as goal

pub returns : goal.returns
returns c = record {
  answer = part_answer c.args.typed.now c.args.p c.args.q c.args.parts.now c.requires.rules c.requires.first c.requires.pair c.in_ok-decision.decision c.answer_by.result c.answer_by.ensures c.in_ok-decision.ensures;
  bound = part_promise c.args.typed.now c.args.p c.args.q c.args.parts.now c.requires.rules c.requires.first c.requires.pair c.in_ok-decision.decision c.answer_by.result c.answer_by.ensures c.in_ok-decision.ensures c.requires.verified c.requires.ranked;
}
