use Rattle.heyvl_print.proofs.LineTexts.{invariant_text, k_induction_text, ranking_text}
use Rattle.heyvl_print.proofs.lines.print_rule.Goals as goal
use Rattle.heyvl_syntax.specs.Expressions.{expression}

pub returns-in_ok-write-in-Invariant-2 : goal.returns-in_ok-write-in-Invariant-2
returns-in_ok-write-in-Invariant-2 c = rw c.in-Invariant.is (invariant_text (expression c.in-Invariant.invariant) c.in-Invariant.field-1 _ _ _ _ c.in_ok-write-in-Invariant.ensures c.in_ok-print_expression-in-Invariant.ensures c.in_ok-write-in-Invariant-2.ensures)

pub returns-in_ok-write-in-KInduction-3 : goal.returns-in_ok-write-in-KInduction-3
returns-in_ok-write-in-KInduction-3 c = rw c.in-KInduction.is (k_induction_text (expression c.in-KInduction.k) (expression c.in-KInduction.invariant) c.in-KInduction.field-2 _ _ _ _ _ _ c.in_ok-write-in-KInduction.ensures c.in_ok-print_expression-in-KInduction.ensures c.in_ok-write-in-KInduction-2.ensures c.in_ok-print_expression-in-KInduction-2.ensures c.in_ok-write-in-KInduction-3.ensures)

pub returns-in_ok-write-in-Ranking-3 : goal.returns-in_ok-write-in-Ranking-3
returns-in_ok-write-in-Ranking-3 c = rw c.in-Ranking.is (ranking_text (expression c.in-Ranking.step) (expression c.in-Ranking.ranking) c.in-Ranking.field-2 _ _ _ _ _ _ c.in_ok-write-in-Ranking.ensures c.in_ok-print_expression-in-Ranking.ensures c.in_ok-write-in-Ranking-2.ensures c.in_ok-print_expression-in-Ranking-2.ensures c.in_ok-write-in-Ranking-3.ensures)
