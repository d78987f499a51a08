use Rattle.formula_tests.specs.PlainFormulas.{StandsPlain}
use Rattle.formula_tests.proofs.graph_tests.thrown_often.Given as goal

abbrev pub invariant-loop : goal.invariant-loop
invariant-loop l = StandsPlain l.graph l.id
