use Rattle.std.proofs.Common.{◌<◌, length, sym, ap, subst, ◌∙◌}
use Rattle.linear_elim.specs.Elimination.{Step}
use Rattle.linear_elim.specs.Joins.{join}
use Rattle.linear_elim.specs.internal.CountedRows.{join_at, terms_at}
use Rattle.linear_elim.proofs.CountedTerms.{read_both, counts_none, counts_put, made_some}
use Rattle.linear_elim.proofs.join_counts.count_join.Goals as goal

pub returns-then-contradicts-clause-table : goal.returns-then-contradicts-clause-table
returns-then-contradicts-clause-table c =
    let l = c.deref-lows.ensures.value ∙ ap (λ (s : Step). s.lows) c.step.view_is in
    let u = c.deref-ups.ensures.value ∙ ap (λ (s : Step). s.ups) c.step.view_is in
    let p = subst (λ xs. c.args.i < length xs) (sym l) c.requires.low_within in
    let q = subst (λ xs. c.args.j < length xs) (sym u) c.requires.up_within in
    let d = rw c.in-Some.is at c.in_ok-derived.ensures.derived in
    let e = d ∙ read_both join c.args.step.now _ _ _ c.args.i c.args.j _ _ (ap (λ (s : Step). s.var) c.step.view_is) l u p q c.index-lows-i.is c.index-ups-j.is in
    λ t. counts_none (terms_at c.args.step.now c.args.kept.now) c.args.out.now.table (join_at c.args.step.now c.args.i c.args.j) _ _ e c.has_no_terms.ensures c.if-has_no_terms.true

pub returns-else-is_none-clause-table : goal.returns-else-is_none-clause-table
returns-else-is_none-clause-table c =
    let l = c.deref-lows.ensures.value ∙ ap (λ (s : Step). s.lows) c.step.view_is in
    let u = c.deref-ups.ensures.value ∙ ap (λ (s : Step). s.ups) c.step.view_is in
    let p = subst (λ xs. c.args.i < length xs) (sym l) c.requires.low_within in
    let q = subst (λ xs. c.args.j < length xs) (sym u) c.requires.up_within in
    let d = rw c.in-Some.is at c.in_ok-derived.ensures.derived in
    let e = d ∙ read_both join c.args.step.now _ _ _ c.args.i c.args.j _ _ (ap (λ (s : Step). s.var) c.step.view_is) l u p q c.index-lows-i.is c.index-ups-j.is in
    λ t. counts_none (terms_at c.args.step.now c.args.kept.now) c.args.out.now.table (join_at c.args.step.now c.args.i c.args.j) _ _ e c.has_no_terms.ensures c.if-has_no_terms.true

pub returns-then-branch-clause-table : goal.returns-then-branch-clause-table
returns-then-branch-clause-table c =
    let l = c.deref-lows.ensures.value ∙ ap (λ (s : Step). s.lows) c.step.view_is in
    let u = c.deref-ups.ensures.value ∙ ap (λ (s : Step). s.ups) c.step.view_is in
    let p = subst (λ xs. c.args.i < length xs) (sym l) c.requires.low_within in
    let q = subst (λ xs. c.args.j < length xs) (sym u) c.requires.up_within in
    let d = rw c.in-Some.is at c.in_ok-derived.ensures.derived in
    let e = d ∙ read_both join c.args.step.now _ _ _ c.args.i c.args.j _ _ (ap (λ (s : Step). s.var) c.step.view_is) l u p q c.index-lows-i.is c.index-ups-j.is in
    λ t. counts_put (terms_at c.args.step.now c.args.kept.now) c.args.out.now.table c.put_join.new.table (join_at c.args.step.now c.args.i c.args.j) (made_some (join_at c.args.step.now c.args.i c.args.j) _ _ e c.has_no_terms.ensures c.if-has_no_terms.false) (c.in_ok-put_join.ensures c.if-branch.true)
