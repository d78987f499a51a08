use Rattle.std.proofs.Common.{◌≡◌, ap, ◌∙◌, Bool, true, false, cond, ℕ, ◌+◌}
use Rattle.linear_form.specs.internal.Run.Evaluation.{value}
use Rattle.linear_form.proofs.Runs.{turned_at}
use Rattle.linear_form.proofs.cursor.answered.Goals as goal

either : (b : Bool) (i : ℕ) → cond b (value true i) (value false i) ≡ value b i
either true i = λ _. value true i
either false i = λ _. value false i

pub returns-then-at-path : goal.returns-then-at-path
returns-then-at-path c = turned_at c.args.path.now c.args.at c.index-path-at.result _ _ _ c.if-at-path.true c.index-path-at.is ∙ either c.index-path-at.result.held (c.args.at + 1) ∙ ap (λ p. value p.held (c.args.at + 1)) c.index-path-at.is
