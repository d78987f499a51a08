use Rattle.std.proofs.Common.{◌≡◌, sym, ◌∙◌, rules, FitsSigned, length, arith, true, false}
use Rattle.std.specs.Prelude.{vec_len}
use Rattle.std.proofs.lemmas.Int.{to_z-of_z}
use mir.Syntax.{w64}
use Rattle.std.specs.Int.{w128}
use Rattle.linear_values.specs.PlainValues.{lin_of}
use Rattle.heylo_formula.specs.Typing.{types_in}
use Rattle.linear_rows.proofs.exported.Narrow.{seen}
use Rattle.linear_values.proofs.Factors.{none_left}
use Rattle.linear_values.proofs.RowParts.{too_large, constant_row, sign_found, empty_row}
use Rattle.linear_values.proofs.tightening.tightened.Goals as goal

pub returns-then-not-is_sized : goal.returns-then-not-is_sized
returns-then-not-is_sized c = let e : c.is_sized.result ≡ false = search rules in too_large (types_in c.args.types.now) (lin_of c.args.left.now) c.args.strict (sym c.is_sized.ensures ∙ e)

pub returns-in-Some : goal.returns-in-Some
returns-in-Some c = let f : FitsSigned w128 c.sign.result = search rules in let k : FitsSigned w64 c.in-Some.rest = search rules in let v = c.args.left.now.terms in let n : vec_len v ≡ 0 = none_left (vec_len v) c.is_empty.result c.is_empty.ensures c.if-is_empty.true in let l : length v.items ≡ 0 = omega (arith, n, v.ok.0) in let e : c.is_sized.result ≡ true = search rules in let s = sym c.is_sized.ensures ∙ e in empty_row _ _ c.args.strict c.new.ensures.items ∙ constant_row (types_in c.args.types.now) (lin_of c.args.left.now).terms (lin_of c.args.left.now).rest c.args.strict _ l s (to_z-of_z w64 c.in-Some.rest k ∙ sign_found (lin_of c.args.left.now).rest _ c.in-Some.rest (seen c.sign.result _ c.sign.ensures f) c.in-Some.ensures)
