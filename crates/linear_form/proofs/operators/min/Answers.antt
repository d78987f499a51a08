use Rattle.std.proofs.Common.{◌∙◌, rules, refl}
use Rattle.linear_form.proofs.Runs.{gives_first, run_done, run_after}
use Rattle.linear_form.specs.PlainPaths.{path_of}
use Rattle.linear_values.specs.PlainValues.{linear_of}
use Rattle.linear_form.specs.Questions as q
use Rattle.linear_form.specs.internal.Run.{along}
use Rattle.linear_form.proofs.OperatorRuns.{min_none, gives_as}
use Rattle.linear_form.proofs.operators.min.Goals as goal

pub returns-in_err-least-in-Some-b : goal.returns-in_err-least-in-Some-b
returns-in_err-least-in-Some-b c = rw (c.in-Some.is, c.in-Some-b.is) (gives_first _ _ _ _ _ _ _ (search rules) refl c.in_err-least-in-Some-b.ensures)

pub returns-in-None : goal.returns-in-None
returns-in-None c = gives_as c.same.result (along (path_of c.args.path.now) (q.min (linear_of c.args.a.now) (linear_of c.args.b.now)) c.args.at) _ (rw c.in-None.is (min_none _ _ _)) c.same.ensures

pub returns-in-None-b : goal.returns-in-None-b
returns-in-None-b c = gives_as c.same-in-None-b.result (along (path_of c.args.path.now) (q.min (linear_of c.args.a.now) (linear_of c.args.b.now)) c.args.at) _ (rw (c.in-Some.is, c.in-None-b.is) (run_done _ _ _)) c.same-in-None-b.ensures

pub returns-then-least : goal.returns-then-least
returns-then-least c = gives_as c.same-then-least.result (along (path_of c.args.path.now) (q.min (linear_of c.args.a.now) (linear_of c.args.b.now)) c.args.at) _ (rw (c.in-Some.is, c.in-Some-b.is) (run_after _ _ _ _ _ _ c.in_ok-least-in-Some-b.ensures ∙ rw c.if-least.true (run_done _ _ _))) c.same-then-least.ensures

pub returns-else-least : goal.returns-else-least
returns-else-least c = gives_as c.same-else-least.result (along (path_of c.args.path.now) (q.min (linear_of c.args.a.now) (linear_of c.args.b.now)) c.args.at) _ (rw (c.in-Some.is, c.in-Some-b.is) (run_after _ _ _ _ _ _ c.in_ok-least-in-Some-b.ensures ∙ rw c.if-least.false (run_done _ _ _))) c.same-else-least.ensures
