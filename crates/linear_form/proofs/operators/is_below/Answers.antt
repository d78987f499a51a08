use Rattle.std.proofs.Common.{sym, ◌∙◌, ◌+◌, subst, ap, drop, true, false}
use Rattle.linear_form.specs.internal.EvaluationResults.{GivesTruth}
use Rattle.linear_form.specs.PlainPaths.{atom_of, path_of}
use Rattle.linear_values.specs.PlainValues.{lin_of}
use Rattle.linear_form.specs.internal.Run.{turned}
use Rattle.linear_form.specs.internal.Run.Evaluation.{value}
use Rattle.linear_form.proofs.OperatorRuns.{run_below_large, run_below_known, run_below_asked}
use Rattle.linear_form.proofs.operators.is_below.Goals as goal

pub returns-then-not-is_sized : goal.returns-then-not-is_sized
returns-then-not-is_sized c = run_below_large _ _ _ _ (sym c.is_sized.ensures ∙ c.if-not-is_sized.true)

pub returns-then-is_constant : goal.returns-then-is_constant
returns-then-is_constant c = run_below_known _ _ _ _ (sym c.is_sized.ensures ∙ c.if-not-is_sized.false) (sym c.is_constant.ensures ∙ c.if-is_constant.true) ∙ ap (λ b. value b c.args.at) (sym c.is_negative.ensures)

pub returns-in_ok-atom : goal.returns-in_ok-atom
returns-in_ok-atom c =
    let asked = subst (λ x. GivesTruth c.answered.result (turned (drop c.args.at (path_of c.args.path.now)) (atom_of x) (value true (c.args.at + 1)) (value false (c.args.at + 1)))) c.in_ok-atom.ensures.ok c.answered.ensures in
    subst (GivesTruth c.answered.result) (sym (run_below_asked (path_of c.args.path.now) (lin_of c.args.a) c.args.strict c.args.at (sym c.is_sized.ensures ∙ c.if-not-is_sized.false) (sym c.is_constant.ensures ∙ c.if-is_constant.false))) asked
