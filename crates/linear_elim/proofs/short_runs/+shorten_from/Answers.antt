use Rattle.std.proofs.Common.{◌≡◌, rules, refl, subst, sym, length, ◌≤◌, false}
use Rattle.std.specs.List.{All}
use Rattle.linear_elim.specs.Steps.{undominated, step_fits}
use Rattle.linear_elim.specs.Elimination.{run}
use Rattle.linear_elim.specs.Elimination.Rule.{keeps, drops}
use Rattle.linear_elim.specs.internal.DerivedRows.{IsDerived}
use Rattle.linear_elim.specs.internal.GatheredRows.{after_all}
use Rattle.linear_elim.specs.internal.Outcomes.{short_gathering}
use Rattle.linear_elim.proofs.FoundEnds.{none_left, ends_found, ends_standing, ends_great}
use Rattle.linear_elim.proofs.KeptRows.{step-derived}
use Rattle.linear_rows.specs.Terms.{IsOver}
use Rattle.linear_elim.proofs.SameRuns.{step_over, none_after}
use Rattle.linear_elim.proofs.ShortRuns.{great_limited, many_left, short_ok, next_short, left_derived, left_over, short_counted}
use Rattle.linear_elim.proofs.short_runs.+shorten_from.Goals as goal

pub returns-in-Some : goal.returns-in-Some
returns-in-Some t c = λ n. ends_found drops c.args.steps.items n c.args.order.now (short_gathering c.args.now) _ c.in-Some.is

pub returns-in_default-2 : goal.returns-in_default-2
returns-in_default-2 t c = λ n. many_left c.args.steps.items n c.args.order.now c.args.now.found (undominated c.args.now.rows.items) c.in_default.is (c.in_ok-rows.ensures.many c.in_default-2.is)

pub returns-in_default-split_first : goal.returns-in_default-split_first
returns-in_default-split_first t c =
    let r = rw c.in-Some-2.is at c.in_ok-rows.ensures.rows in
    let f = rw c.in-Some-2.is at c.in_ok-rows.ensures.few in
    λ n. ends_standing drops c.args.steps.items n c.args.order.now (short_gathering c.args.now) (length (undominated c.args.now.rows.items)) (none_left c.args.order.now c.in_default-split_first.ensures.cases) c.in_default.is refl (subst (λ xs. length xs ≤ 4096) r f)

pub eliminate_one-requires : goal.eliminate_one-requires
eliminate_one-requires t c =
    let r = rw c.in-Some-2.is at c.in_ok-rows.ensures.rows in
    left_derived c.args.now.rows.items _ r c.requires.derived

pub shorten_from-requires : goal.shorten_from-requires
shorten_from-requires t c =
    let r = rw c.in-Some-2.is at c.in_ok-rows.ensures.rows in
    let h = rw c.in-Few.is at c.in_ok-eliminate_one.ensures.after in
    let d = left_derived c.args.now.rows.items _ r c.requires.derived in
    (search rules, (subst (All IsDerived) (sym h.3) (step-derived keeps c.in-Some-split_first.field-0-0.now c.in-Some-2.rows.items d h.0), subst (All (λ s. IsOver c.in-Some-split_first.rest.now s.row.terms)) (sym h.3) (step_over c.in-Some-split_first.field-0-0.now c.in-Some-split_first.rest.now c.args.order.now c.in-Some-2.rows.items c.in-Some-split_first.ensures.cases.0 d (left_over c.args.order.now c.args.now.rows.items _ r c.requires.over))))

pub returns-in-Many : goal.returns-in-Many
returns-in-Many t c =
    let r = rw c.in-Some-2.is at c.in_ok-rows.ensures.rows in
    let f = rw c.in-Some-2.is at c.in_ok-rows.ensures.few in
    let h = rw c.in-Many.is at c.in_ok-eliminate_one.ensures.after in
    let s = rw c.in-Many.is at c.in_ok-eliminate_one.ensures.signless in
    let m = rw c.in-Many.is at c.in_ok-eliminate_one.ensures.many refl in
    let q = none_after c.in-Some-split_first.field-0-0.now c.in-Some-split_first.rest.now c.args.order.now c.in-Some-2.rows.items c.in-Some-split_first.ensures.cases.0 (left_derived c.args.now.rows.items _ r c.requires.derived) (left_over c.args.order.now c.args.now.rows.items _ r c.requires.over) (s m) in
    λ n. short_counted c.args.steps.items n c.args.order.now c.in-Some-split_first.rest.now c.in-Some-split_first.field-0-0.now c.args.now c.in-Some-2.rows.items _ _ c.ended.result r f c.in-Some-split_first.ensures.cases.0 c.in_default.is h q c.ended.ensures.found c.ended.ensures.many

pub returns-in-Great : goal.returns-in-Great
returns-in-Great t c =
    let r = rw c.in-Some-2.is at c.in_ok-rows.ensures.rows in
    let f = rw c.in-Some-2.is at c.in_ok-rows.ensures.few in
    let h = rw c.in-Great.is at c.in_ok-eliminate_one.ensures.after in
    λ n. great_limited _ (ends_great drops c.args.steps.items n c.args.order.now c.in-Some-split_first.rest.now c.in-Some-split_first.field-0-0.now (short_gathering c.args.now) (length (undominated c.args.now.rows.items)) c.in-Some-split_first.ensures.cases.0 c.in_default.is refl (subst (λ xs. length xs ≤ 4096) r f) (subst (λ xs. false ≡ step_fits c.in-Some-split_first.field-0-0.now xs) r h))

pub returns-in_ok-push-in-Few : goal.returns-in_ok-push-in-Few
returns-in_ok-push-in-Few t c =
    let r = rw c.in-Some-2.is at c.in_ok-rows.ensures.rows in
    let f = rw c.in-Some-2.is at c.in_ok-rows.ensures.few in
    let h = rw c.in-Few.is at c.in_ok-eliminate_one.ensures.after in
    short_ok c.shorten_from.result (λ n. after_all c.push.new.self.items (run drops n c.in-Some-split_first.rest.now (short_gathering c.in-Few.next))) (λ n. after_all c.args.steps.items (run drops n c.args.order.now (short_gathering c.args.now))) (λ n. next_short c.args.steps.items _ n c.args.order.now c.in-Some-split_first.rest.now c.in-Some-split_first.field-0-0.now c.args.now c.in-Few.next c.in-Few.step c.in-Some-2.rows.items r f c.in-Some-split_first.ensures.cases.0 c.in_default.is h c.in_ok-push-in-Few.ensures.items) c.shorten_from.ensures
