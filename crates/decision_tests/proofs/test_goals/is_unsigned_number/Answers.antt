use Rattle.std.proofs.Common.{◌≡◌, ap, ap₂, ◌∙◌, sym, refl, lit<, Bool, true, false, to_z, of_z, FitsSigned, rules}
use Rattle.std.specs.Prelude.{if◌then◌else◌, Some, ◌==◌}
use Rattle.std.proofs.Math.IntN.{ℤ, pos}
use Rattle.std.specs.Int.Signed.{le_z}
use Rattle.std.specs.Int.{w128}
use Rattle.std.proofs.lemmas.Int.{to_z-of_z}
use Rattle.heyvl_num.specs.Rational.{Rational, ratio, zeroʳ, leqʳ}
use Rattle.heyvl_num.specs.Value.Value.{finite}
use Rattle.heyvl_num.specs.ExtendedNumbers.{value_of}
use Rattle.heyvl_num.proofs.exported.Integers.{*ℤ-one, zero_times}
use Rattle.heyvl_num.proofs.exported.Rationals.{ratio_parts, leq_ratio}
use Rattle.heylo_formula.specs.Typing.{NumberType, only_if, is_unsigned, constant_type}
use Rattle.decision_tests.proofs.test_goals.is_unsigned_number.Goals as goal

at_least_zero : (x : Rational) → leqʳ zeroʳ x ≡ le_z (pos 0) x.num
unfolding zeroʳ
at_least_zero x = ap (λ z. leqʳ (ratio (pos 0) 1) z) (sym (ratio_parts x)) ∙ leq_ratio (pos 0) 1 x.num x.den (lit< tt) x.positive ∙ ap₂ (λ a b. le_z a b) (zero_times (pos x.den)) (*ℤ-one x.num)

unsigned_where : (x : Rational) (b c : Bool) → b ≡ true → is_unsigned (if b then Some (if c then NumberType.uint else NumberType.ureal) else only_if c (Some NumberType.int)) ≡ true
unsigned_where x true true e = refl
unsigned_where x true false e = refl
unsigned_where x false c e = absurd (cc)

unsigned_finite : (x : Rational) (n : ℤ) → n ≡ x.num → FitsSigned w128 n → le_z (pos 0) (to_z w128 (of_z w128 n)) ≡ true → is_unsigned (constant_type (finite x)) ≡ true
unsigned_finite x n e f h = unsigned_where x (leqʳ zeroʳ x) (x.den == 1) (at_least_zero x ∙ ap (le_z (pos 0)) (sym (to_z-of_z w128 n f ∙ e)) ∙ h)

pub returns-in-Fin : goal.returns-in-Fin
returns-in-Fin c h = ap (λ v. is_unsigned (constant_type (value_of v))) c.in-Fin.is ∙ (let f : FitsSigned w128 c.num.result = search rules in unsigned_finite c.in-Fin.x c.num.result c.num.ensures f h)
