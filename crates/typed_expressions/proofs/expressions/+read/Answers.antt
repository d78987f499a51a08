use Rattle.heyvl_syntax.proofs.exported.PlainTreesAre.{plain_expressions}
use Rattle.heyvl_syntax.specs.Expressions.{expression}
use Rattle.std.proofs.Common.{Err, rules}
use Rattle.typed_expressions.proofs.AnyNumbers.{bound_gives, bound_stops}
use Rattle.typed_expressions.proofs.expressions.+read.Goals as goal
use Rattle.typed_expressions.specs.Answers.{Gives}
use Rattle.typed_expressions.specs.TypedExpressions.{closed_findings, elaborate}
use Rattle.typed_expressions.specs.Views.{meaning_of, read}

pub returns-in_err-inner-in-Bound : goal.returns-in_err-inner-in-Bound
returns-in_err-inner-in-Bound t c =
    let inner = rw c.deref-in-Bound.ensures at c.in_err-inner-in-Bound.ensures in
    let stop : Gives read (Err c.in_err-inner-in-Bound.field-0.0) (closed_findings c.args.demand c.args.next c.args.scope.now (expression c.args.e.now)) (elaborate c.args.next c.args.scope.now (expression c.args.e.now)) =
    rw (c.in-Bound.is, plain_expressions.bound)
    (bound_stops c.in_err-inner-in-Bound.field-0.0 c.args.demand c.args.next c.args.scope.now _ c.in-Bound.up c.in-Bound.name c.in-Bound.ty (expression c.in-Bound.inner.value) c.in-Bound.span _ _ c.in_ok-within-in-Bound.ensures inner) in
    search rules

pub returns-in_ok-inner-in-Bound : goal.returns-in_ok-inner-in-Bound
returns-in_ok-inner-in-Bound t c =
    let inner = rw c.deref-in-Bound.ensures at c.in_ok-inner-in-Bound.ensures in
    rw (c.in-Bound.is, plain_expressions.bound)
    (bound_gives c.read_closed_quantifier.result c.args.demand c.args.next c.args.scope.now _ c.in-Bound.up c.in-Bound.name c.in-Bound.ty (expression c.in-Bound.inner.value) c.in-Bound.span (meaning_of c.in_ok-inner-in-Bound.inner) c.sees.result c.in_ok-within-in-Bound.ensures inner.0 inner.1 c.sees.ensures c.read_closed_quantifier.ensures)
