use Rattle.std.proofs.Common.{sym, ◌∙◌, ap, rules, refl}
use Rattle.linear_form.specs.internal.Run.Evaluation.{value}
use Rattle.linear_form.proofs.Runs.{gives_first, run_done, run_after}
use Rattle.linear_form.specs.PlainPaths.{path_of}
use Rattle.linear_values.specs.PlainValues.{linear_of}
use Rattle.linear_form.specs.Questions as q
use Rattle.linear_form.specs.internal.Run.{along}
use Rattle.linear_form.proofs.OperatorRuns.{co_imply_none, gives_as}
use Rattle.linear_form.proofs.operators.co_imply.Goals as goal

pub returns-in_err-test-in-Some-b : goal.returns-in_err-test-in-Some-b
returns-in_err-test-in-Some-b c = rw (c.in-Some.is, c.in-Some-b.is) (gives_first _ _ _ _ _ _ _ (search rules) refl c.in_err-test-in-Some-b.ensures)

pub returns-in-None : goal.returns-in-None
returns-in-None c = rw c.in-None.is (co_imply_none _ _ _ ∙ ap (λ v. value v c.args.at) (sym c.nothing.ensures))

pub returns-in-None-b : goal.returns-in-None-b
returns-in-None-b c = rw (c.in-Some.is, c.in-None-b.is) (run_done _ _ _)

pub returns-then-test : goal.returns-then-test
returns-then-test c = rw (c.in-Some.is, c.in-Some-b.is) (run_after _ _ _ _ _ _ c.in_ok-test-in-Some-b.ensures ∙ rw c.if-test.true (run_done _ _ _ ∙ ap (λ v. value v c.in_ok-test-in-Some-b.test.next) (sym c.nothing-then-test.ensures)))

pub returns-else-test : goal.returns-else-test
returns-else-test c = gives_as c.same.result (along (path_of c.args.path.now) (q.co_imply (linear_of c.args.a.now) (linear_of c.args.b.now)) c.args.at) _ (rw (c.in-Some.is, c.in-Some-b.is) (run_after _ _ _ _ _ _ c.in_ok-test-in-Some-b.ensures ∙ rw c.if-test.false (run_done _ _ _))) c.same.ensures
