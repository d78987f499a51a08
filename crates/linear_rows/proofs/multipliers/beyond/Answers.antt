use Rattle.std.proofs.Common.{arith, subst, ◌<◌, rules}
use Rattle.std.proofs.lemmas.List.{take_all}
use Rattle.std.specs.List.{All}
use Rattle.std.specs.Prelude.{pos}
use Rattle.linear_rows.proofs.Coefficients.{beyond_step}
use Rattle.linear_rows.proofs.multipliers.beyond.Goals as goal

pub loop-variable-preserved : goal.loop-variable-preserved
loop-variable-preserved c = let f = c.from.ensures in let g = c.greater-least.ensures in let w = c.loop-variable.invariant.within in record {
  above = beyond_step _ _ _ _ (0, pos 0) c.loop-variable-test.true c.loop-variable.invariant.above g.first (omega (arith, g.second, f));
  within = search rules;
}

pub returns : goal.returns
returns c = record {
  above = subst (All (λ t. t.0 < c.loop-variable.least)) (take_all _ c.args.terms.now c.loop-variable-test.false) c.loop-variable.invariant.above;
  within = c.loop-variable.invariant.within;
}
