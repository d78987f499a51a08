use Rattle.std.proofs.Common.{subst, sym}
use Rattle.std.specs.List.{All}
use Rattle.linear_elim.specs.Elimination.Rule.{keeps}
use Rattle.linear_elim.specs.internal.DerivedRows.{IsDerived}
use Rattle.linear_elim.proofs.Numbers.{ok_map}
use Rattle.linear_rows.specs.Terms.{IsOver}
use Rattle.linear_elim.proofs.FirstRows.{first-derived, first_over}
use Rattle.linear_elim.proofs.ShortRuns.{short_same, short_started}
use Rattle.linear_elim.proofs.short_runs.short_steps.Goals as goal

pub shorten_from-requires-clause-over : goal.shorten_from-requires-clause-over
shorten_from-requires-clause-over c = subst (All (λ r. IsOver c.args.order.now r.row.terms)) (sym c.in_ok-start.ensures.rows) (first_over c.args.order.now c.args.rows.now c.requires.over)

pub shorten_from-requires-clause-derived : goal.shorten_from-requires-clause-derived
shorten_from-requires-clause-derived c = subst (All IsDerived) (sym c.in_ok-start.ensures.rows) (first-derived keeps c.args.rows.now c.requires.rows)

pub returns : goal.returns
returns c = ok_map c.shorten_from.result _ _ (λ o h. short_same o _ _ (short_started c.args.order.now c.args.rows.now _ _ _ c.new.ensures.items c.in_ok-start.ensures.found c.in_ok-start.ensures.rows) (h 0)) c.shorten_from.ensures
