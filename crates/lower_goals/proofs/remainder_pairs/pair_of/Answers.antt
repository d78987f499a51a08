use Rattle.heyvl_acts.specs.Acts.{procedure_at}
use Rattle.heyvl_acts.specs.PlainActs.{procedures_of}
use Rattle.lower_goals.proofs.LentPairs.{given_bound, none_given}
use Rattle.lower_goals.proofs.RemainderPairs.{ranked_pair}
use Rattle.lower_goals.proofs.remainder_pairs.pair_of.Goals as goal

pub returns-then-not-is_input_bound : goal.returns-then-not-is_input_bound
returns-then-not-is_input_bound c = none_given c.args.typed.now c.args.p c.args.q c.requires.rules c.requires.first c.requires.second c.index.result.now c.index-2.result.now c.index.ensures c.index-2.ensures (c.is_input_bound.ensures.no c.if-not-is_input_bound.true)

pub returns-in-Some : goal.returns-in-Some
returns-in-Some c = ranked_pair (procedure_at (procedures_of c.args.typed.now) c.args.p) (procedure_at (procedures_of c.args.typed.now) c.args.q) (given_bound c.args.typed.now c.args.p c.args.q c.requires.rules c.requires.first c.requires.second c.index.result.now c.index-2.result.now c.index.ensures c.index-2.ensures (c.is_input_bound.ensures.yes c.if-not-is_input_bound.false)) c.in-Some.parts c.in-Some.ensures c.ranked.result c.ranked.ensures
