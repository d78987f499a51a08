use Rattle.std.proofs.Common.{sym, ◌∙◌, ap, rules, refl}
use Rattle.linear_form.specs.internal.Run.Evaluation.{value}
use Rattle.linear_form.proofs.Runs.{gives_first, run_done, run_after}
use Rattle.linear_form.proofs.operators.zero_or_infinity.Goals as goal

pub returns-in_err-test : goal.returns-in_err-test
returns-in_err-test c = gives_first _ _ _ _ _ _ _ (search rules) refl c.in_err-test.ensures

pub returns-then-test : goal.returns-then-test
returns-then-test c = run_after _ _ _ _ _ _ c.in_ok-test.ensures ∙ rw c.if-test.true (run_done _ _ _ ∙ ap (λ v. value v c.in_ok-test.test.next) (sym c.nothing.ensures))

pub returns-else-test : goal.returns-else-test
returns-else-test c = run_after _ _ _ _ _ _ c.in_ok-test.ensures ∙ rw c.if-test.false (run_done _ _ _)
