use Rattle.std.proofs.Common.{◌≡◌, ◌<◌, ◌^◌, rules, arith, FitsSigned, ap, ap₂, ◌∙◌, refl, sym, subst}
use mir.Syntax.{w64}
use Rattle.std.specs.Prelude.{pos, ◌*ℤ◌, ◌+ℤ◌}
use Rattle.std.proofs.lemmas.Int.{to_z-of_z}
use Rattle.linear_rows.specs.Row.{Row}
use Rattle.linear_rows.specs.TermResults.{mixed_terms}
use Rattle.linear_rows.specs.Divisors.{common, divided_terms}
use Rattle.linear_elim.specs.Joins.{Derived}
use Rattle.linear_elim.specs.internal.Fingerprints.{fingerprint}
use Rattle.linear_elim.proofs.MixedTerms.{divided_one}
use Rattle.linear_elim.proofs.JoinNumbers.{divisor_some}
use Rattle.linear_elim.proofs.SmallJoins.{terms_are, divisor_is, size_small, small_fits}
use Rattle.linear_elim.proofs.join_numbers.join_number.Goals as goal

pub products-rest-requires-clause-p_small : goal.products-rest-requires-clause-p_small
products-rest-requires-clause-p_small c = size_small c.args.x c.args.up.now _ c.requires.up_derived c.requires.up_small c.size-p.ensures.value

pub products-rest-requires-clause-q_small : goal.products-rest-requires-clause-q_small
products-rest-requires-clause-q_small c = size_small c.args.x c.args.low.now _ c.requires.low_derived c.requires.low_small c.size-q.ensures.value

pub summed-sum-requires-clause-p_small : goal.summed-sum-requires-clause-p_small
summed-sum-requires-clause-p_small c = size_small c.args.x c.args.up.now _ c.requires.up_derived c.requires.up_small c.size-p.ensures.value

pub summed-sum-requires-clause-q_small : goal.summed-sum-requires-clause-q_small
summed-sum-requires-clause-q_small c = size_small c.args.x c.args.low.now _ c.requires.low_derived c.requires.low_small c.size-q.ensures.value

pub divided_number-requires-clause-p_small : goal.divided_number-requires-clause-p_small
divided_number-requires-clause-p_small c = size_small c.args.x c.args.up.now _ c.requires.up_derived c.requires.up_small c.size-p.ensures.value

pub divided_number-requires-clause-q_small : goal.divided_number-requires-clause-q_small
divided_number-requires-clause-q_small c = size_small c.args.x c.args.low.now _ c.requires.low_derived c.requires.low_small c.size-q.ensures.value

pub returns-then-sum-eq1 : goal.returns-then-sum-eq1
returns-then-sum-eq1 c =
    let x : FitsSigned w64 c.left.inside.rest = search rules in
    let y : FitsSigned w64 c.right.inside.rest = search rules in
    let z : FitsSigned w64 c.products-rest.result = search rules in
    let dl = c.deref.ensures.value ∙ ap (λ (x : Row). x.terms) c.left.view_is ∙ ap (λ (x : Derived). x.row.terms) c.low.view_is in
    let du = c.deref-2.ensures.value ∙ ap (λ (x : Row). x.terms) c.right.view_is ∙ ap (λ (x : Derived). x.row.terms) c.up.view_is in
    let rl = ap (λ (x : Row). x.rest) c.left.view_is ∙ ap (λ (x : Derived). x.row.rest) c.low.view_is in
    let ru = ap (λ (x : Row). x.rest) c.right.view_is ∙ ap (λ (x : Derived). x.row.rest) c.up.view_is in
    let pr = simp to_z-of_z at c.products-rest.ensures in
    let rest = pr ∙ ap₂ (λ r s. (pos c.size-p.result *ℤ r) +ℤ (pos c.size-q.result *ℤ s)) rl ru in
    let ab = simp to_z-of_z at c.unsigned_abs.ensures.value in
    let ts = ap₂ (λ r s. mixed_terms (pos c.size-p.result) r (pos c.size-q.result) s) dl du in
    let g = divisor_some _ _ c.summed-sum.result.divisor (c.summed-sum.ensures.divisor ∙ ap₂ common ts ab) c.if-sum-eq0.false in
    let one : 1 ≡ c.summed-sum.result.divisor = omega arith in
    let made = sym (divided_one (mixed_terms (pos c.size-p.result) c.args.low.now.row.terms (pos c.size-q.result) c.args.up.now.row.terms)) ∙ ap (λ n. divided_terms n (mixed_terms (pos c.size-p.result) c.args.low.now.row.terms (pos c.size-q.result) c.args.up.now.row.terms)) one ∙ terms_are c.args.x c.args.low.now c.args.up.now _ _ _ _ _ c.size-p.ensures.value c.size-q.ensures.value refl rest g in
    λ n. (c.summed-sum.ensures.number ∙ ap fingerprint (ts ∙ made), small_fits c.args.x c.args.low.now c.args.up.now c.requires.low_derived c.requires.up_derived c.requires.low_small c.requires.up_small (subst (λ n. n < 2 ^ 20) (divisor_is c.args.x c.args.low.now c.args.up.now _ _ _ _ _ c.size-p.ensures.value c.size-q.ensures.value refl rest g) c.if-sum.false))

pub returns : goal.returns
returns c =
    let x : FitsSigned w64 c.left.inside.rest = search rules in
    let y : FitsSigned w64 c.right.inside.rest = search rules in
    let z : FitsSigned w64 c.products-rest.result = search rules in
    let dl = c.deref.ensures.value ∙ ap (λ (x : Row). x.terms) c.left.view_is ∙ ap (λ (x : Derived). x.row.terms) c.low.view_is in
    let du = c.deref-2.ensures.value ∙ ap (λ (x : Row). x.terms) c.right.view_is ∙ ap (λ (x : Derived). x.row.terms) c.up.view_is in
    let rl = ap (λ (x : Row). x.rest) c.left.view_is ∙ ap (λ (x : Derived). x.row.rest) c.low.view_is in
    let ru = ap (λ (x : Row). x.rest) c.right.view_is ∙ ap (λ (x : Derived). x.row.rest) c.up.view_is in
    let pr = simp to_z-of_z at c.products-rest.ensures in
    let rest = pr ∙ ap₂ (λ r s. (pos c.size-p.result *ℤ r) +ℤ (pos c.size-q.result *ℤ s)) rl ru in
    let ab = simp to_z-of_z at c.unsigned_abs.ensures.value in
    let ts = ap₂ (λ r s. mixed_terms (pos c.size-p.result) r (pos c.size-q.result) s) dl du in
    let g = divisor_some _ _ c.summed-sum.result.divisor (c.summed-sum.ensures.divisor ∙ ap₂ common ts ab) c.if-sum-eq0.false in
    let made = terms_are c.args.x c.args.low.now c.args.up.now _ _ _ _ _ c.size-p.ensures.value c.size-q.ensures.value refl rest g in
    let dl3 = c.deref-3.ensures.value ∙ ap (λ (x : Row). x.terms) c.left.view_is ∙ ap (λ (x : Derived). x.row.terms) c.low.view_is in
    let du4 = c.deref-4.ensures.value ∙ ap (λ (x : Row). x.terms) c.right.view_is ∙ ap (λ (x : Derived). x.row.terms) c.up.view_is in
    λ n. (c.divided_number.ensures ∙ ap fingerprint (ap₂ (λ r s. divided_terms c.summed-sum.result.divisor (mixed_terms (pos c.size-p.result) r (pos c.size-q.result) s)) dl3 du4 ∙ made), small_fits c.args.x c.args.low.now c.args.up.now c.requires.low_derived c.requires.up_derived c.requires.low_small c.requires.up_small (subst (λ n. n < 2 ^ 20) (divisor_is c.args.x c.args.low.now c.args.up.now _ _ _ _ _ c.size-p.ensures.value c.size-q.ensures.value refl rest g) c.if-sum.false))
