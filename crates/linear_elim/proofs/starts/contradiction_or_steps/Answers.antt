use Rattle.std.proofs.Common.{sym, subst, ◌∙◌}
use Rattle.std.specs.List.{All}
use Rattle.linear_elim.specs.internal.DerivedRows.{IsDerived}
use Rattle.linear_elim.specs.Elimination.Rule.{keeps}
use Rattle.linear_elim.proofs.Numbers.{ok_map}
use Rattle.linear_rows.specs.Terms.{IsOver}
use Rattle.linear_elim.proofs.FirstRows.{first-derived, first_over, decided, started}
use Rattle.linear_elim.proofs.SameRuns.{same_started}
use Rattle.linear_elim.proofs.starts.contradiction_or_steps.Goals as goal

pub eliminate_from-requires-clause-derived : goal.eliminate_from-requires-clause-derived
eliminate_from-requires-clause-derived c = subst (All IsDerived) (sym c.in_ok-start.ensures.rows) (first-derived keeps c.args.rows.now c.requires.rows)

pub eliminate_from-requires-clause-over : goal.eliminate_from-requires-clause-over
eliminate_from-requires-clause-over c = subst (All (λ r. IsOver c.args.order.now r.row.terms)) (sym c.in_ok-start.ensures.rows) (first_over c.args.order.now c.args.rows.now c.requires.over)

pub returns-clause-plain : goal.returns-clause-plain
returns-clause-plain c = ok_map c.eliminate_from.result _ _ (λ o h. h ∙ started c.args.order.now c.args.rows.now _ _ _ c.new.ensures.items c.in_ok-start.ensures.found c.in_ok-start.ensures.rows) c.eliminate_from.ensures.end

pub returns-clause-decided : goal.returns-clause-decided
returns-clause-decided c = ok_map c.eliminate_from.result _ _ (λ o h. decided c.args.order.now c.args.rows.now o.end c.requires.rows c.requires.over (h ∙ started c.args.order.now c.args.rows.now _ _ _ c.new.ensures.items c.in_ok-start.ensures.found c.in_ok-start.ensures.rows)) c.eliminate_from.ensures.end

pub returns-clause-same : goal.returns-clause-same
returns-clause-same c = ok_map c.eliminate_from.result _ _ (λ o h e. same_started c.args.order.now c.args.rows.now _ _ c.in_ok-start.ensures.found c.in_ok-start.ensures.rows (h e)) c.eliminate_from.ensures.same
