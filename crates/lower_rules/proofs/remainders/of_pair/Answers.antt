use Rattle.lower_rules.proofs.PartAnswers.{part_unranked}
use Rattle.lower_rules.proofs.remainders.of_pair.Goals as goal

pub returns-then-not-is_ranked-clause-answer : goal.returns-then-not-is_ranked-clause-answer
returns-then-not-is_ranked-clause-answer c = part_unranked c.args.typed.now c.args.answers.now c.args.p c.args.q c.args.parts.now c.requires.pair (c.is_verified.ensures.yes c.if-not-is_verified.false) (c.is_ranked.ensures.no c.if-not-is_ranked.true)

pub of_ranked-requires-clause-verified : goal.of_ranked-requires-clause-verified
of_ranked-requires-clause-verified c = let loop = c.requires.pair.pair.loop in c.requires.verified (c.is_verified.ensures.yes c.if-not-is_verified.false) loop.is.weak loop.is.program

pub of_ranked-requires-clause-ranked : goal.of_ranked-requires-clause-ranked
of_ranked-requires-clause-ranked c = c.requires.ranked c.args.parts.now.number (c.is_ranked.ensures.yes c.if-not-is_ranked.false)
