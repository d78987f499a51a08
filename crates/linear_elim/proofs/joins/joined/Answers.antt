use Rattle.std.proofs.Common.{◌≡◌, ap, ap₂, ◌∙◌, subst, refl, ◌||◌}
use Rattle.std.specs.Prelude.{pos, ◌*ℤ◌, ◌+ℤ◌, IfOk, IfSome}
use Rattle.linear_rows.specs.TermResults.{mixed_terms}
use Rattle.linear_elim.proofs.Numbers.{joined_parts, joined_over_is, fits_from, fails_from, shares_fit, ok_map}
use Rattle.linear_elim.proofs.joins.joined.Goals as goal

pub returns-clause-derived : goal.returns-clause-derived
returns-clause-derived c =
    let l = ap (λ d. d.row) c.low.view_is in
    let u = ap (λ d. d.row) c.up.view_is in
    let ts = rw c.in-Some.is at c.in_ok-wide.ensures.terms in
    let rest = rw c.in-Some.is at c.in_ok-wide.ensures.rest in
    let strict = rw c.in-Some.is at c.in_ok-wide.ensures.strict in
    let ms = rw c.in-Some-2.is at c.in_ok-shares.ensures.shares in
    let e = joined_parts c.args.x c.args.low.now c.args.up.now _ _ _ _ _ _ _ _ c.size-p.ensures.value c.size-q.ensures.value (ts ∙ ap₂ (λ r s. mixed_terms (pos c.size-p.result) r.terms (pos c.size-q.result) s.terms) l u) (rest ∙ ap₂ (λ r s. (pos c.size-p.result *ℤ r.rest) +ℤ (pos c.size-q.result *ℤ s.rest)) l u) (strict ∙ ap₂ (λ r s. r.strict || s.strict) l u) c.divisor-divisor.ensures.value (c.deref.ensures.value ∙ ms) c.in-Some-wide_over.ensures.1 in
    subst (λ z. IfOk c.lowered.result (λ o. IfSome o (λ d. d ≡ z))) e c.lowered.ensures.derived

pub returns-clause-fits : goal.returns-clause-fits
returns-clause-fits c =
    let l = ap (λ d. d.row) c.low.view_is in
    let u = ap (λ d. d.row) c.up.view_is in
    let ts = rw c.in-Some.is at c.in_ok-wide.ensures.terms in
    let rest = rw c.in-Some.is at c.in_ok-wide.ensures.rest in
    let strict = rw c.in-Some.is at c.in_ok-wide.ensures.strict in
    let ms = rw c.in-Some-2.is at c.in_ok-shares.ensures.shares in
    let e = joined_parts c.args.x c.args.low.now c.args.up.now _ _ _ _ _ _ _ _ c.size-p.ensures.value c.size-q.ensures.value (ts ∙ ap₂ (λ r s. mixed_terms (pos c.size-p.result) r.terms (pos c.size-q.result) s.terms) l u) (rest ∙ ap₂ (λ r s. (pos c.size-p.result *ℤ r.rest) +ℤ (pos c.size-q.result *ℤ s.rest)) l u) (strict ∙ ap₂ (λ r s. r.strict || s.strict) l u) c.divisor-divisor.ensures.value (c.deref.ensures.value ∙ ms) c.in-Some-wide_over.ensures.1 in
    let o = joined_over_is c.args.x c.args.low.now c.args.up.now _ _ _ _ _ _ c.size-p.ensures.value c.size-q.ensures.value (ts ∙ ap₂ (λ r s. mixed_terms (pos c.size-p.result) r.terms (pos c.size-q.result) s.terms) l u) (rest ∙ ap₂ (λ r s. (pos c.size-p.result *ℤ r.rest) +ℤ (pos c.size-q.result *ℤ s.rest)) l u) c.divisor-divisor.ensures.value refl in
    let w = shares_fit c.args.x c.args.low.now c.args.up.now _ _ _ c.size-p.ensures.value c.size-q.ensures.value (rw c.in-Some-2.is at c.in_ok-shares.ensures.fits) in
    ok_map c.lowered.result _ _ (λ r h. h ∙ fits_from _ _ _ _ _ w o c.in-Some-wide_over.ensures.0 e) c.lowered.ensures.fits

pub returns-in_default-wide_over-clause-fits : goal.returns-in_default-wide_over-clause-fits
returns-in_default-wide_over-clause-fits c =
    let l = ap (λ d. d.row) c.low.view_is in
    let u = ap (λ d. d.row) c.up.view_is in
    let ts = rw c.in-Some.is at c.in_ok-wide.ensures.terms in
    let rest = rw c.in-Some.is at c.in_ok-wide.ensures.rest in
    let o = joined_over_is c.args.x c.args.low.now c.args.up.now _ _ _ _ _ _ c.size-p.ensures.value c.size-q.ensures.value (ts ∙ ap₂ (λ r s. mixed_terms (pos c.size-p.result) r.terms (pos c.size-q.result) s.terms) l u) (rest ∙ ap₂ (λ r s. (pos c.size-p.result *ℤ r.rest) +ℤ (pos c.size-q.result *ℤ s.rest)) l u) c.divisor-divisor.ensures.value refl in
    fails_from _ _ _ _ o c.in_default-wide_over.ensures
