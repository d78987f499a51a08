use Rattle.std.proofs.Common.{sym, subst}
use Rattle.std.specs.List.{All}
use Rattle.linear_rows.specs.Terms.{IsOver}
use Rattle.linear_elim.specs.Elimination.Rule.{keeps}
use Rattle.linear_elim.proofs.OrderedRows.{rows_over}
use Rattle.linear_elim.proofs.EndAnswers.{few_in, in_order_of, same_in}
use Rattle.linear_elim.proofs.full_elimination.eliminate_in.Goals as goal

pub contradiction_or_steps-requires-clause-short : goal.contradiction_or_steps-requires-clause-short
contradiction_or_steps-requires-clause-short c = few_in c.args.rows.now c.args.vars.now _ c.requires.order c.requires.few_variables

pub contradiction_or_steps-requires-clause-over : goal.contradiction_or_steps-requires-clause-over
contradiction_or_steps-requires-clause-over c = subst (λ o. All (λ r. IsOver o r.terms) c.args.rows.now) (sym c.requires.order) (rows_over c.args.rows.now c.args.vars.now c.requires.numeric)

pub plain_answer-requires-clause-end : goal.plain_answer-requires-clause-end
plain_answer-requires-clause-end c = in_order_of keeps c.args.rows.now c.args.vars.now _ _ c.requires.order c.in_ok-end.ensures.plain

pub unless_short-requires-clause-same : goal.unless_short-requires-clause-same
unless_short-requires-clause-same c = λ e. same_in c.args.rows.now c.args.vars.now _ c.requires.order (c.in_ok-end.ensures.same e)

pub unless_short-requires-in-Bits-clause-same : goal.unless_short-requires-in-Bits-clause-same
unless_short-requires-in-Bits-clause-same c = λ e. same_in c.args.rows.now c.args.vars.now _ c.requires.order (c.in_ok-end.ensures.same e)

pub unless_short-requires-in-Bits-clause-plain : goal.unless_short-requires-in-Bits-clause-plain
unless_short-requires-in-Bits-clause-plain c = rw c.in-Bits.is at c.in_ok-multipliers.ensures
