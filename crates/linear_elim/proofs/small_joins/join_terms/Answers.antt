use Rattle.std.proofs.Common.{◌≡◌, ◌<◌, ◌^◌, rules, arith, FitsSigned, ap, ap₂, ◌∙◌, sym, subst}
use mir.Syntax.{w64}
use Rattle.std.specs.Prelude.{pos, ◌*ℤ◌, ◌+ℤ◌}
use Rattle.std.proofs.lemmas.Int.{to_z-of_z}
use Rattle.linear_rows.specs.Row.{Row}
use Rattle.linear_rows.specs.TermResults.{mixed_terms}
use Rattle.linear_rows.specs.Divisors.{divisor, divided_terms}
use Rattle.linear_elim.specs.Joins.{Derived}
use Rattle.linear_elim.proofs.MixedTerms.{divided_one}
use Rattle.linear_elim.proofs.SmallJoins.{terms_are, divisor_is, size_small, small_fits}
use Rattle.linear_elim.proofs.small_joins.join_terms.Goals as goal

pub mix-requires-clause-p_small : goal.mix-requires-clause-p_small
mix-requires-clause-p_small c = size_small c.args.x c.args.up.now _ c.requires.up_derived c.requires.up_small c.size-p.ensures.value

pub mix-requires-clause-q_small : goal.mix-requires-clause-q_small
mix-requires-clause-q_small c = size_small c.args.x c.args.low.now _ c.requires.low_derived c.requires.low_small c.size-q.ensures.value

pub products-rest-requires-clause-p_small : goal.products-rest-requires-clause-p_small
products-rest-requires-clause-p_small c = size_small c.args.x c.args.up.now _ c.requires.up_derived c.requires.up_small c.size-p.ensures.value

pub products-rest-requires-clause-q_small : goal.products-rest-requires-clause-q_small
products-rest-requires-clause-q_small c = size_small c.args.x c.args.low.now _ c.requires.low_derived c.requires.low_small c.size-q.ensures.value

pub returns-then-divisor-gt1-clause-terms : goal.returns-then-divisor-gt1-clause-terms
returns-then-divisor-gt1-clause-terms c =
    let x : FitsSigned w64 c.left.inside.rest = search rules in
    let y : FitsSigned w64 c.right.inside.rest = search rules in
    let z : FitsSigned w64 c.products-rest.result = search rules in
    let dl = c.deref.ensures.value ∙ ap (λ (x : Row). x.terms) c.left.view_is ∙ ap (λ (x : Derived). x.row.terms) c.low.view_is in
    let du = c.deref-2.ensures.value ∙ ap (λ (x : Row). x.terms) c.right.view_is ∙ ap (λ (x : Derived). x.row.terms) c.up.view_is in
    let rl = ap (λ (x : Row). x.rest) c.left.view_is ∙ ap (λ (x : Derived). x.row.rest) c.low.view_is in
    let ru = ap (λ (x : Row). x.rest) c.right.view_is ∙ ap (λ (x : Derived). x.row.rest) c.up.view_is in
    let ts = c.in_ok-mix.ensures ∙ ap₂ (λ r s. mixed_terms (pos c.size-p.result) r (pos c.size-q.result) s) dl du in
    let pr = simp to_z-of_z at c.products-rest.ensures in
    let rest = pr ∙ ap₂ (λ r s. (pos c.size-p.result *ℤ r) +ℤ (pos c.size-q.result *ℤ s)) rl ru in
    let ab = simp to_z-of_z at c.unsigned_abs.ensures.value in
    let g = c.divisor_in-divisor.ensures.value ∙ ap₂ divisor c.deref-3.ensures.value ab in
    λ t. c.divide.ensures ∙ terms_are c.args.x c.args.low.now c.args.up.now _ _ _ _ _ c.size-p.ensures.value c.size-q.ensures.value ts rest g

pub returns-then-divisor-gt1-clause-fits : goal.returns-then-divisor-gt1-clause-fits
returns-then-divisor-gt1-clause-fits c =
    let x : FitsSigned w64 c.left.inside.rest = search rules in
    let y : FitsSigned w64 c.right.inside.rest = search rules in
    let z : FitsSigned w64 c.products-rest.result = search rules in
    let dl = c.deref.ensures.value ∙ ap (λ (x : Row). x.terms) c.left.view_is ∙ ap (λ (x : Derived). x.row.terms) c.low.view_is in
    let du = c.deref-2.ensures.value ∙ ap (λ (x : Row). x.terms) c.right.view_is ∙ ap (λ (x : Derived). x.row.terms) c.up.view_is in
    let rl = ap (λ (x : Row). x.rest) c.left.view_is ∙ ap (λ (x : Derived). x.row.rest) c.low.view_is in
    let ru = ap (λ (x : Row). x.rest) c.right.view_is ∙ ap (λ (x : Derived). x.row.rest) c.up.view_is in
    let ts = c.in_ok-mix.ensures ∙ ap₂ (λ r s. mixed_terms (pos c.size-p.result) r (pos c.size-q.result) s) dl du in
    let pr = simp to_z-of_z at c.products-rest.ensures in
    let rest = pr ∙ ap₂ (λ r s. (pos c.size-p.result *ℤ r) +ℤ (pos c.size-q.result *ℤ s)) rl ru in
    let ab = simp to_z-of_z at c.unsigned_abs.ensures.value in
    let g = c.divisor_in-divisor.ensures.value ∙ ap₂ divisor c.deref-3.ensures.value ab in
    λ t. small_fits c.args.x c.args.low.now c.args.up.now c.requires.low_derived c.requires.up_derived c.requires.low_small c.requires.up_small (subst (λ n. n < 2 ^ 20) (divisor_is c.args.x c.args.low.now c.args.up.now _ _ _ _ _ c.size-p.ensures.value c.size-q.ensures.value ts rest g) c.if-divisor.false)

pub returns-else-divisor-gt1-clause-terms : goal.returns-else-divisor-gt1-clause-terms
returns-else-divisor-gt1-clause-terms c =
    let x : FitsSigned w64 c.left.inside.rest = search rules in
    let y : FitsSigned w64 c.right.inside.rest = search rules in
    let z : FitsSigned w64 c.products-rest.result = search rules in
    let dl = c.deref.ensures.value ∙ ap (λ (x : Row). x.terms) c.left.view_is ∙ ap (λ (x : Derived). x.row.terms) c.low.view_is in
    let du = c.deref-2.ensures.value ∙ ap (λ (x : Row). x.terms) c.right.view_is ∙ ap (λ (x : Derived). x.row.terms) c.up.view_is in
    let rl = ap (λ (x : Row). x.rest) c.left.view_is ∙ ap (λ (x : Derived). x.row.rest) c.low.view_is in
    let ru = ap (λ (x : Row). x.rest) c.right.view_is ∙ ap (λ (x : Derived). x.row.rest) c.up.view_is in
    let ts = c.in_ok-mix.ensures ∙ ap₂ (λ r s. mixed_terms (pos c.size-p.result) r (pos c.size-q.result) s) dl du in
    let pr = simp to_z-of_z at c.products-rest.ensures in
    let rest = pr ∙ ap₂ (λ r s. (pos c.size-p.result *ℤ r) +ℤ (pos c.size-q.result *ℤ s)) rl ru in
    let ab = simp to_z-of_z at c.unsigned_abs.ensures.value in
    let g = c.divisor_in-divisor.ensures.value ∙ ap₂ divisor c.deref-3.ensures.value ab in
    let one : 1 ≡ c.divisor_in-divisor.result = omega arith in
    λ t. sym (divided_one c.mix.new.out.items) ∙ ap (λ n. divided_terms n c.mix.new.out.items) one ∙ terms_are c.args.x c.args.low.now c.args.up.now _ _ _ _ _ c.size-p.ensures.value c.size-q.ensures.value ts rest g

pub returns-else-divisor-gt1-clause-fits : goal.returns-else-divisor-gt1-clause-fits
returns-else-divisor-gt1-clause-fits c =
    let x : FitsSigned w64 c.left.inside.rest = search rules in
    let y : FitsSigned w64 c.right.inside.rest = search rules in
    let z : FitsSigned w64 c.products-rest.result = search rules in
    let dl = c.deref.ensures.value ∙ ap (λ (x : Row). x.terms) c.left.view_is ∙ ap (λ (x : Derived). x.row.terms) c.low.view_is in
    let du = c.deref-2.ensures.value ∙ ap (λ (x : Row). x.terms) c.right.view_is ∙ ap (λ (x : Derived). x.row.terms) c.up.view_is in
    let rl = ap (λ (x : Row). x.rest) c.left.view_is ∙ ap (λ (x : Derived). x.row.rest) c.low.view_is in
    let ru = ap (λ (x : Row). x.rest) c.right.view_is ∙ ap (λ (x : Derived). x.row.rest) c.up.view_is in
    let ts = c.in_ok-mix.ensures ∙ ap₂ (λ r s. mixed_terms (pos c.size-p.result) r (pos c.size-q.result) s) dl du in
    let pr = simp to_z-of_z at c.products-rest.ensures in
    let rest = pr ∙ ap₂ (λ r s. (pos c.size-p.result *ℤ r) +ℤ (pos c.size-q.result *ℤ s)) rl ru in
    let ab = simp to_z-of_z at c.unsigned_abs.ensures.value in
    let g = c.divisor_in-divisor.ensures.value ∙ ap₂ divisor c.deref-3.ensures.value ab in
    λ t. small_fits c.args.x c.args.low.now c.args.up.now c.requires.low_derived c.requires.up_derived c.requires.low_small c.requires.up_small (subst (λ n. n < 2 ^ 20) (divisor_is c.args.x c.args.low.now c.args.up.now _ _ _ _ _ c.size-p.ensures.value c.size-q.ensures.value ts rest g) c.if-divisor.false)
