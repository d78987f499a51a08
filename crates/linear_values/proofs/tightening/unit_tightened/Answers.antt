use Rattle.std.proofs.Common.{ap, ap₂, ◌∙◌, rules, FitsSigned, false}
use Rattle.std.specs.Prelude.{Some}
use Rattle.std.proofs.lemmas.Int.{to_z-of_z}
use mir.Syntax.{w64}
use Rattle.heyvl_num.specs.Rounding.{whole}
use Rattle.heylo_formula.specs.Typing.{types_in}
use Rattle.linear_values.specs.Tightening.{rounded}
use Rattle.linear_values.specs.Operator.{narrow_value}
use Rattle.linear_values.proofs.UnitRows.{unit, unit_lost, unit_whole, unit_exact}
use Rattle.linear_values.proofs.tightening.unit_tightened.Goals as goal

pub returns-in-None : goal.returns-in-None
returns-in-None c = let g : FitsSigned w64 c.args.k = search rules in unit_lost (types_in c.args.types.now) c.args.x c.args.c c.args.k c.args.strict c.requires.unit c.requires.small c.is_whole.result c.is_whole.ensures c.if-is_whole.true (c.in-None.ensures ∙ ap (λ k. narrow_value (rounded c.args.strict (whole k))) (to_z-of_z w64 c.args.k g))

pub returns-in_ok-unit_row-in-Some : goal.returns-in_ok-unit_row-in-Some
returns-in_ok-unit_row-in-Some c = let g : FitsSigned w64 c.args.k = search rules in let h : FitsSigned w64 c.args.c = search rules in let k : FitsSigned w64 c.in-Some.rest = search rules in ap Some (c.in_ok-unit_row-in-Some.ensures ∙ ap₂ (λ a r. unit c.args.x a r false) (to_z-of_z w64 c.args.c h) (to_z-of_z w64 c.in-Some.rest k)) ∙ unit_whole (types_in c.args.types.now) c.args.x c.args.c c.args.k c.args.strict c.requires.unit c.requires.small c.is_whole.result c.in-Some.rest c.is_whole.ensures c.if-is_whole.true (c.in-Some.ensures ∙ ap (λ k. narrow_value (rounded c.args.strict (whole k))) (to_z-of_z w64 c.args.k g))

pub returns-in_ok-unit_row : goal.returns-in_ok-unit_row
returns-in_ok-unit_row c = let g : FitsSigned w64 c.args.k = search rules in let h : FitsSigned w64 c.args.c = search rules in ap Some (c.in_ok-unit_row.ensures ∙ ap₂ (λ a r. unit c.args.x a r c.args.strict) (to_z-of_z w64 c.args.c h) (to_z-of_z w64 c.args.k g)) ∙ unit_exact (types_in c.args.types.now) c.args.x c.args.c c.args.k c.args.strict c.requires.unit c.requires.small c.is_whole.result c.is_whole.ensures c.if-is_whole.false
