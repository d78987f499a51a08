use Rattle.std.proofs.Common.{◌≡◌, ◌<◌, ◌≤◌, length, sym, ap, subst, ◌∙◌}
use Rattle.std.specs.Prelude.{IfOk, IfSome}
use Rattle.linear_rows.specs.Row.{Row}
use Rattle.linear_elim.specs.Elimination.{Step}
use Rattle.linear_elim.specs.Joins.{Derived, join}
use Rattle.linear_elim.proofs.CountedTerms.{join_named, kept_named, kept_read, read_both}
use Rattle.linear_elim.proofs.tables.named.Goals as goal

pub returns-else-j-ups : goal.returns-else-j-ups
returns-else-j-ups c =
    let l = c.deref-lows.ensures.value ∙ ap (λ (s : Step). s.lows) c.step.view_is in
    let u = c.deref-ups.ensures.value ∙ ap (λ (s : Step). s.ups) c.step.view_is in
    let e = ap (λ (d : Derived). d.row.terms) (read_both join c.args.step.now _ _ _ c.from-i.result c.from-j.result _ _ (ap (λ (s : Step). s.var) c.step.view_is) l u c.if-i-lows.true c.if-j-ups.false c.index-lows-i.is c.index-ups-j.is) ∙ join_named c.args.step.now c.args.kept.now c.args.name c.from-i.result c.from-j.result (sym c.from-i.ensures) (sym c.from-j.ensures) (subst (λ xs. c.from-i.result < length xs) l c.if-i-lows.true) in
    subst (λ t. IfOk c.terms_of_join.result (λ o. IfSome o (λ ts. ts.items ≡ t))) e c.terms_of_join.ensures

pub returns-in_ok-from_slice : goal.returns-in_ok-from_slice
returns-in_ok-from_slice c =
    let l = c.deref-lows.ensures.value ∙ ap (λ (s : Step). s.lows) c.step.view_is in
    c.in_ok-from_slice.ensures.items ∙ c.deref.ensures.value ∙ ap (λ (r : Row). r.terms) c.row.view_is ∙ ap (λ (d : Derived). d.row.terms) c.derived.view_is ∙ kept_read c.args.kept.now c.from-j.result _ c.if-j-kept.false c.index-kept-j.is ∙ kept_named c.args.step.now c.args.kept.now c.args.name c.from-i.result c.from-j.result (sym c.from-i.ensures) (sym c.from-j.ensures) (subst (λ xs. length xs ≤ c.from-i.result) l c.if-i-lows.false)
