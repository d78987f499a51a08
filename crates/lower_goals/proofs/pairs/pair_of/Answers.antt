use Rattle.std.proofs.Common.{refl}
use Rattle.heyvl_acts.proofs.exported.PlainActsAre.{head_of}
use Rattle.heyvl_acts.specs.PlainActs.{acts_of}
use Rattle.lower_goals.proofs.PairsAt.{below_at, few_at, loop_at, no_pair, pair_at, plain_at, short_at}
use Rattle.lower_goals.proofs.ReadyPairs.{counted_at}
use Rattle.lower_goals.proofs.pairs.pair_of.Goals as goal

pub returns-in_default : goal.returns-in_default
returns-in_default c = λ o. c.in_default.ensures o.loop

pub is_pair-requires-clause-below : goal.is_pair-requires-clause-below
is_pair-requires-clause-below c = below_at c.args.typed.now c.args.p c.args.q c.index-procedure.result.now c.index-other.result.now c.requires.rules c.requires.small c.requires.first c.requires.second c.index-procedure.ensures c.index-other.ensures (acts_of c.in-Some.parts.front.now) (head_of c.in-Some.parts.one.now) (acts_of c.in-Some.parts.one.now.body.items) (acts_of c.in-Some.parts.behind.now) c.in-Some.ensures

pub is_pair-requires-clause-counted : goal.is_pair-requires-clause-counted
is_pair-requires-clause-counted c = counted_at c.args.typed.now.procs.items c.args.q c.index-other.result.now c.requires.rules.counted c.requires.second c.index-other.ensures

pub returns-then-not-is_pair : goal.returns-then-not-is_pair
returns-then-not-is_pair c = no_pair c.args.typed.now c.args.p c.args.q c.index-procedure.result.now c.index-other.result.now c.requires.rules c.requires.small c.requires.first c.requires.second c.index-procedure.ensures c.index-other.ensures (acts_of c.in-Some.parts.front.now) (head_of c.in-Some.parts.one.now) (acts_of c.in-Some.parts.one.now.body.items) (acts_of c.in-Some.parts.behind.now) (loop_at c.args.typed.now c.args.p c.args.q c.index-procedure.result.now c.index-other.result.now c.requires.rules c.requires.small c.requires.first c.requires.second c.index-procedure.ensures c.index-other.ensures (acts_of c.in-Some.parts.front.now) (head_of c.in-Some.parts.one.now) (acts_of c.in-Some.parts.one.now.body.items) (acts_of c.in-Some.parts.behind.now) c.in-Some.ensures) (c.is_pair.ensures.no c.if-not-is_pair.true)

pub formula_for-requires-clause-few : goal.formula_for-requires-clause-few
formula_for-requires-clause-few c = few_at c.args.typed.now c.args.p c.args.q c.index-procedure.result.now c.index-other.result.now c.requires.rules c.requires.small c.requires.first c.requires.second c.index-procedure.ensures c.index-other.ensures (acts_of c.in-Some.parts.front.now) (head_of c.in-Some.parts.one.now) (acts_of c.in-Some.parts.one.now.body.items) (acts_of c.in-Some.parts.behind.now) c.in-Some.ensures

pub formula_for-requires-clause-visible : goal.formula_for-requires-clause-visible
formula_for-requires-clause-visible c = short_at c.args.typed.now c.args.p c.args.q c.index-procedure.result.now c.index-other.result.now c.requires.rules c.requires.small c.requires.first c.requires.second c.index-procedure.ensures c.index-other.ensures (acts_of c.in-Some.parts.front.now) (head_of c.in-Some.parts.one.now) (acts_of c.in-Some.parts.one.now.body.items) (acts_of c.in-Some.parts.behind.now) c.in-Some.ensures

pub formula_for-requires-clause-below : goal.formula_for-requires-clause-below
formula_for-requires-clause-below c = below_at c.args.typed.now c.args.p c.args.q c.index-procedure.result.now c.index-other.result.now c.requires.rules c.requires.small c.requires.first c.requires.second c.index-procedure.ensures c.index-other.ensures (acts_of c.in-Some.parts.front.now) (head_of c.in-Some.parts.one.now) (acts_of c.in-Some.parts.one.now.body.items) (acts_of c.in-Some.parts.behind.now) c.in-Some.ensures

pub formula_for-requires-clause-pre : goal.formula_for-requires-clause-pre
formula_for-requires-clause-pre c = plain_at c.args.typed.now c.args.p c.args.q c.index-procedure.result.now c.index-other.result.now c.requires.rules c.requires.small c.requires.first c.requires.second c.index-procedure.ensures c.index-other.ensures (acts_of c.in-Some.parts.front.now) (head_of c.in-Some.parts.one.now) (acts_of c.in-Some.parts.one.now.body.items) (acts_of c.in-Some.parts.behind.now) c.in-Some.ensures (c.is_pair.ensures.yes c.if-not-is_pair.false)

pub returns : goal.returns
returns c = pair_at c.args.typed.now c.args.p c.args.q c.index-procedure.result.now c.index-other.result.now c.requires.rules c.requires.small c.requires.first c.requires.second c.index-procedure.ensures c.index-other.ensures _ (acts_of c.in-Some.parts.front.now) refl refl (loop_at c.args.typed.now c.args.p c.args.q c.index-procedure.result.now c.index-other.result.now c.requires.rules c.requires.small c.requires.first c.requires.second c.index-procedure.ensures c.index-other.ensures (acts_of c.in-Some.parts.front.now) (head_of c.in-Some.parts.one.now) (acts_of c.in-Some.parts.one.now.body.items) (acts_of c.in-Some.parts.behind.now) c.in-Some.ensures) (c.is_pair.ensures.yes c.if-not-is_pair.false) c.in_ok-formula.ensures
