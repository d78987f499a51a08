use Rattle.std.proofs.Common.{ap, ◌∙◌, rules, FitsSigned, ℤ}
use Rattle.std.specs.Prelude.{Some}
use Rattle.std.proofs.lemmas.Int.{to_z-of_z}
use mir.Syntax.{w64}
use Rattle.std.specs.Int.{w128}
use Rattle.heylo_formula.specs.Typing.{types_in}
use Rattle.linear_rows.proofs.exported.Narrow.{seen}
use Rattle.linear_values.proofs.RowParts.{lost_factor, lost_product, lost_whole, lost_exact, made_whole, made_exact, whole_of, sized_terms, sized_rest, ok_then}
use Rattle.linear_values.proofs.tightening.terms_tightened.Goals as goal

pub factor_of-requires-clause-sized : goal.factor_of-requires-clause-sized
factor_of-requires-clause-sized c = sized_terms c.args.terms.now c.args.constant.now c.requires.sized

pub exact_multiple-requires : goal.exact_multiple-requires
exact_multiple-requires c = sized_rest c.args.terms.now c.args.constant.now c.requires.sized

pub row-requires-clause-sized : goal.row-requires-clause-sized
row-requires-clause-sized c = sized_terms c.args.terms.now c.args.constant.now c.requires.sized

pub row-requires-clause-whole : goal.row-requires-clause-whole
row-requires-clause-whole c = whole_of c.args.terms.now c.in-Some.factor c.requires.some c.requires.normal c.in-Some.ensures

pub row-requires-in-Some-narrow-clause-sized : goal.row-requires-in-Some-narrow-clause-sized
row-requires-in-Some-narrow-clause-sized c = sized_terms c.args.terms.now c.args.constant.now c.requires.sized

pub row-requires-in-Some-narrow-clause-whole : goal.row-requires-in-Some-narrow-clause-whole
row-requires-in-Some-narrow-clause-whole c = whole_of c.args.terms.now c.in-Some.factor c.requires.some c.requires.normal c.in-Some.ensures

pub returns-in-None : goal.returns-in-None
returns-in-None c = lost_factor (types_in c.args.types.now) c.args.terms.now c.args.constant.now c.args.strict c.requires.some c.requires.sized c.requires.normal c.in-None.ensures

pub returns-in-None-exact_multiple : goal.returns-in-None-exact_multiple
returns-in-None-exact_multiple c = lost_product (types_in c.args.types.now) c.args.terms.now c.args.constant.now c.in-Some.factor c.args.strict c.requires.some c.requires.sized c.in-Some.ensures c.in-None-exact_multiple.ensures

pub returns-in-None-rounded : goal.returns-in-None-rounded
returns-in-None-rounded c = lost_whole (types_in c.args.types.now) c.args.terms.now c.args.constant.now c.in-Some.factor c.in-Some-exact_multiple.multiple c.args.strict c.are_whole.result c.requires.some c.requires.sized c.in-Some.ensures c.in-Some-exact_multiple.ensures c.are_whole.ensures c.if-are_whole.true c.in-None-rounded.ensures

pub returns-in-None-narrow : goal.returns-in-None-narrow
returns-in-None-narrow c = let f : FitsSigned w128 c.num.result = search rules in lost_exact (types_in c.args.types.now) c.args.terms.now c.args.constant.now c.in-Some.factor c.in-Some-exact_multiple.multiple c.args.strict c.are_whole.result _ c.requires.some c.requires.sized c.in-Some.ensures c.in-Some-exact_multiple.ensures c.are_whole.ensures c.if-are_whole.false (seen c.num.result _ c.num.ensures f) c.in-None-narrow.ensures

pub returns-in-Some-rounded : goal.returns-in-Some-rounded
returns-in-Some-rounded c = let k : FitsSigned w64 c.in-Some-rounded.rest = search rules in ok_then c.row.result _ _ (λ o h. made_whole (types_in c.args.types.now) c.args.terms.now c.args.constant.now c.in-Some.factor c.in-Some-exact_multiple.multiple c.args.strict c.are_whole.result _ o c.requires.some c.requires.sized c.in-Some.ensures c.in-Some-exact_multiple.ensures c.are_whole.ensures c.if-are_whole.true (ap (λ (r : ℤ). Some r) (to_z-of_z w64 c.in-Some-rounded.rest k) ∙ c.in-Some-rounded.ensures) h) c.row.ensures

pub returns-in-Some-narrow : goal.returns-in-Some-narrow
returns-in-Some-narrow c = let f : FitsSigned w128 c.num.result = search rules in let g : FitsSigned w128 c.den.result = search rules in let k : FitsSigned w64 c.in-Some-narrow.rest = search rules in ok_then c.row-in-Some-narrow.result _ _ (λ o h. made_exact (types_in c.args.types.now) c.args.terms.now c.args.constant.now c.in-Some.factor c.in-Some-exact_multiple.multiple c.args.strict c.are_whole.result _ _ _ o c.requires.some c.requires.sized c.in-Some.ensures c.in-Some-exact_multiple.ensures c.are_whole.ensures c.if-are_whole.false (seen c.num.result _ c.num.ensures f) (seen c.den.result _ c.den.ensures g) (ap (λ (r : ℤ). Some r) (to_z-of_z w64 c.in-Some-narrow.rest k) ∙ c.in-Some-narrow.ensures) h) c.row-in-Some-narrow.ensures
