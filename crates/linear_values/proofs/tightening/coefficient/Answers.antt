use Rattle.std.proofs.Common.{refl, sym, ap₂, ◌∙◌, subst, rules, FitsSigned, ◌*ℤ◌, ℤ}
use Rattle.std.specs.Int.{w128}
use Rattle.linear_rows.proofs.exported.Narrow.{seen}
use Rattle.linear_values.proofs.Factors.{product_lost, multiple_lost, multiple_made}
use Rattle.linear_values.proofs.tightening.coefficient.Goals as goal

pub returns-in-None : goal.returns-in-None
returns-in-None c = product_lost c.args.scale c.args.factor.now c.args.x.now c.requires.positive c.requires.whole c.in-None.ensures

pub returns-in-None-checked_mul : goal.returns-in-None-checked_mul
returns-in-None-checked_mul c = let f : FitsSigned w128 c.num.result = search rules in let g : FitsSigned w128 c.args.scale = search rules in multiple_lost c.args.scale c.num.result c.args.factor.now c.args.x.now c.in-Some.product c.requires.whole c.in-Some.ensures c.num.ensures (λ h. c.in-None-checked_mul.ensures (subst (λ (z : ℤ). FitsSigned w128 z) (sym (ap₂ (λ a b. a *ℤ b) (seen c.args.scale c.args.scale refl g) (seen c.num.result c.num.result refl f))) h))

pub returns-in-Some-checked_mul : goal.returns-in-Some-checked_mul
returns-in-Some-checked_mul c = let f : FitsSigned w128 c.num.result = search rules in let g : FitsSigned w128 c.args.scale = search rules in let h : FitsSigned w128 c.in-Some-checked_mul.multiple = search rules in let e = c.in-Some-checked_mul.ensures in c.narrow.ensures ∙ multiple_made c.args.scale c.num.result _ c.args.factor.now c.args.x.now c.in-Some.product c.requires.whole c.in-Some.ensures c.num.ensures (seen _ _ (e.1 ∙ ap₂ (λ a b. a *ℤ b) (seen c.args.scale c.args.scale refl g) (seen c.num.result c.num.result refl f)) h)
