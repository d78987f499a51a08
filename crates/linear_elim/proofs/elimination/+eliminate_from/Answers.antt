use Rattle.std.proofs.Common.{rules, arith, subst, sym, ◌∙◌}
use Rattle.std.specs.List.{All}
use Rattle.linear_rows.specs.Terms.{IsOver}
use Rattle.linear_elim.specs.internal.DerivedRows.{IsDerived}
use Rattle.linear_elim.specs.internal.Outcomes.{gathering_of, outcome_of}
use Rattle.linear_elim.specs.Elimination.Rule.{keeps}
use Rattle.linear_elim.proofs.FoundEnds.{none_left, ends_found, ends_many, ends_standing, ends_great, goes_on, ends_next}
use Rattle.linear_elim.proofs.KeptRows.{step-derived}
use Rattle.linear_elim.proofs.SameRuns.{none_dominated, none_after, step_over, same_found, same_end, same_many, same_great, same_counted, same_kept}
use Rattle.linear_rows.proofs.exported.SameTerms.{and_true}
use Rattle.linear_elim.proofs.elimination.+eliminate_from.Goals as goal

pub returns-in-Some-clause-end : goal.returns-in-Some-clause-end
returns-in-Some-clause-end t c = ends_found keeps c.args.steps.items c.args.done c.args.order.now (gathering_of c.args.now) _ c.in-Some.is

pub returns-in-Some-clause-same : goal.returns-in-Some-clause-same
returns-in-Some-clause-same t c = λ e. same_found c.args.order.now c.args.now.found _ c.args.now.rows.items c.in-Some.is

pub returns-then-count-gt4096-clause-end : goal.returns-then-count-gt4096-clause-end
returns-then-count-gt4096-clause-end t c = ends_many keeps c.args.steps.items c.args.done c.args.order.now (gathering_of c.args.now) _ c.in_default.is (c.len-count.ensures ∙ c.args.now.rows.ok.0) c.if-count-gt4096.true

pub returns-then-count-gt4096-clause-same : goal.returns-then-count-gt4096-clause-same
returns-then-count-gt4096-clause-same t c = λ e. same_many c.args.order.now c.args.now.found c.args.now.rows.items _ (none_dominated c.args.now.rows.items _ c.deref.ensures.value (c.lack_signs-signless.ensures e)) (c.len-count.ensures ∙ c.args.now.rows.ok.0) c.if-count-gt4096.true

pub returns-in_default-split_first-clause-end : goal.returns-in_default-split_first-clause-end
returns-in_default-split_first-clause-end t c = ends_standing keeps c.args.steps.items c.args.done c.args.order.now (gathering_of c.args.now) _ (none_left c.args.order.now c.in_default-split_first.ensures.cases) c.in_default.is (c.len-count.ensures ∙ c.args.now.rows.ok.0) c.if-count-gt4096.false

pub returns-in_default-split_first-clause-same : goal.returns-in_default-split_first-clause-same
returns-in_default-split_first-clause-same t c = λ e. same_end c.args.order.now c.args.now.found c.args.now.rows.items (none_left c.args.order.now c.in_default-split_first.ensures.cases) (none_dominated c.args.now.rows.items _ c.deref.ensures.value (c.lack_signs-signless.ensures e))

pub returns-in-Great-clause-end : goal.returns-in-Great-clause-end
returns-in-Great-clause-end t c =
    let f = rw c.in-Great.is at c.in_ok-eliminate_one.ensures.after in
    ends_great keeps c.args.steps.items c.args.done c.args.order.now c.in-Some-split_first.rest.now c.in-Some-split_first.field-0-0.now (gathering_of c.args.now) _ c.in-Some-split_first.ensures.cases.0 c.in_default.is (c.len-count.ensures ∙ c.args.now.rows.ok.0) c.if-count-gt4096.false f

pub returns-in-Great-clause-same : goal.returns-in-Great-clause-same
returns-in-Great-clause-same t c =
    let f = rw c.in-Great.is at c.in_ok-eliminate_one.ensures.after in
    λ e. same_great c.args.order.now c.in-Some-split_first.rest.now c.in-Some-split_first.field-0-0.now c.args.now.found c.args.now.rows.items c.in-Some-split_first.ensures.cases.0 (none_dominated c.args.now.rows.items _ c.deref.ensures.value (c.lack_signs-signless.ensures e)) f

pub returns-in-Many-clause-end : goal.returns-in-Many-clause-end
returns-in-Many-clause-end t c =
    let h = rw c.in-Many.is at c.in_ok-eliminate_one.ensures.after in
    ends_next keeps c.args.steps.items c.args.done c.args.order.now c.in-Some-split_first.rest.now c.in-Some-split_first.field-0-0.now (gathering_of c.args.now) _ _ _ (outcome_of c.ended.result) c.in-Some-split_first.ensures.cases.0 c.in_default.is (c.len-count.ensures ∙ c.args.now.rows.ok.0) c.if-count-gt4096.false h c.ended.ensures.found c.ended.ensures.many

pub returns-in-Many-clause-same : goal.returns-in-Many-clause-same
returns-in-Many-clause-same t c =
    let h = rw c.in-Many.is at c.in_ok-eliminate_one.ensures.after in
    let s = rw c.in-Many.is at c.in_ok-eliminate_one.ensures.signless in
    λ e. let p = and_true _ _ (sym c.both.ensures ∙ e) in same_counted c.args.order.now c.in-Some-split_first.rest.now c.in-Some-split_first.field-0-0.now c.args.now.found c.args.now.rows.items _ c.in-Some-split_first.ensures.cases.0 (none_dominated c.args.now.rows.items _ c.deref.ensures.value (c.lack_signs-signless.ensures p.0)) (none_after c.in-Some-split_first.field-0-0.now c.in-Some-split_first.rest.now c.args.order.now c.args.now.rows.items c.in-Some-split_first.ensures.cases.0 c.requires.derived c.requires.over (s p.1)) h.2 h.3

pub eliminate_from-requires : goal.eliminate_from-requires
eliminate_from-requires t c =
    let h = rw c.in-Few.is at c.in_ok-eliminate_one.ensures.after in
    let l = c.in-Some-split_first.ensures.cases.1 in
    let m = c.requires.few in
    (search rules, (subst (All IsDerived) (sym h.3) (step-derived keeps c.in-Some-split_first.field-0-0.now c.args.now.rows.items c.requires.derived h.0), (subst (All (λ r. IsOver c.in-Some-split_first.rest.now r.row.terms)) (sym h.3) (step_over c.in-Some-split_first.field-0-0.now c.in-Some-split_first.rest.now c.args.order.now c.args.now.rows.items c.in-Some-split_first.ensures.cases.0 c.requires.derived c.requires.over), omega (arith, l, m))))

pub returns-in_ok-end-in-Few-clause-end : goal.returns-in_ok-end-in-Few-clause-end
returns-in_ok-end-in-Few-clause-end t c =
    let h = rw c.in-Few.is at c.in_ok-eliminate_one.ensures.after in
    c.in_ok-end-in-Few.ensures.end ∙ goes_on keeps c.args.steps.items _ c.args.done c.args.order.now c.in-Some-split_first.rest.now c.in-Some-split_first.field-0-0.now (gathering_of c.args.now) (gathering_of c.in-Few.next) c.in-Few.step _ c.in-Some-split_first.ensures.cases.0 c.in_default.is (c.len-count.ensures ∙ c.args.now.rows.ok.0) c.if-count-gt4096.false h.0 h.1 h.2 h.3 c.in_ok-push-in-Few.ensures.items

pub returns-in_ok-end-in-Few-clause-same : goal.returns-in_ok-end-in-Few-clause-same
returns-in_ok-end-in-Few-clause-same t c =
    let h = rw c.in-Few.is at c.in_ok-eliminate_one.ensures.after in
    λ e. let p = and_true _ _ (sym c.both-in-Few.ensures ∙ e) in same_kept c.args.order.now c.in-Some-split_first.rest.now c.in-Some-split_first.field-0-0.now c.args.now.found c.in-Few.next.found c.args.now.rows.items c.in-Few.next.rows.items c.in-Some-split_first.ensures.cases.0 (none_dominated c.args.now.rows.items _ c.deref.ensures.value (c.lack_signs-signless.ensures p.0)) h.2 h.3 (c.in_ok-end-in-Few.ensures.same p.1)
