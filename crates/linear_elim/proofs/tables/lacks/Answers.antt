use Rattle.std.proofs.Common.{rules, arith}
use Rattle.linear_elim.proofs.CountedTerms.{lacks_at}
use Rattle.linear_elim.proofs.tables.lacks.Goals as goal

pub returns-then-found-eq0 : goal.returns-then-found-eq0
returns-then-found-eq0 c = λ e f t n. lacks_at f c.args.table.now t c.deref-prints.result.now c.deref-names.result.now c.loop-place.place c.home_of-place.result c.args.number n c.deref-prints.ensures.value c.deref-names.ensures.value c.home_of-place.ensures c.loop-place.auto.place c.loop-place-test.true (grind (arith, e)) (search rules) c.loop-place.invariant
