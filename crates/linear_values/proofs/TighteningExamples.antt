-- Inequalities tightened to rows, computed at values found by hand.
use Rattle.std.proofs.Common.{◌≡◌, refl, [], ◌∷◌, Bool, true, false}
use Rattle.std.specs.Prelude.{ℕ, ℤ, pos, negsuc, Option, Some, None}
use Prim.Native.Nat.{zero, suc}
use Rattle.heyvl_num.specs.Gcd.{gcd, gcd_steps}
use Rattle.heyvl_num.specs.Rational.{Rational, ratio, zeroʳ, ◌*ʳ◌}
use Rattle.heyvl_num.specs.Rounding.{floorʳ, ceilʳ}
use Rattle.heyvl_num.specs.Exact.{product_fits}
use Rattle.heylo_formula.specs.Typing.{Types}
use Rattle.heylo_formula.specs.declared.types.Ty.{Ty}
use Rattle.linear_rows.specs.Row.{Row}
use Rattle.linear_rows.specs.Numbers.{fits}
use Rattle.linear_values.specs.Lin.{is_sized}
use Rattle.linear_values.specs.Tightening.{Claim, common_multiple, common_divisor, factor, tightened}

-- Variable 0 is an Int, 1 a UInt, and each other one a UReal.
types : Types
types zero = Ty.Int
types (suc zero) = Ty.UInt
types (suc (suc x)) = Ty.UReal

-- `p` times variable 0, `q` times variable `i`, and a constant.
claim : Rational → ℕ → Rational → Rational → Bool → Claim
claim p i q c strict = record { left = record { terms = (0, p) ∷ ((i, q) ∷ []); rest = c }; strict = strict }

-- `p` times variable 0, and a constant.
single : Rational → Rational → Bool → Claim
single p c strict = record { left = record { terms = (0, p) ∷ []; rest = c }; strict = strict }

alone : Rational → Bool → Claim
alone c strict = record { left = record { terms = []; rest = c }; strict = strict }

row : ℤ → ℕ → ℤ → ℤ → Bool → Option Row
row p i q c strict = Some (record { terms = (0, p) ∷ ((i, q) ∷ []); rest = c; strict = strict })

single_row : ℤ → ℤ → Bool → Option Row
single_row p c strict = Some (record { terms = (0, p) ∷ []; rest = c; strict = strict })

sign_row : ℤ → Bool → Option Row
sign_row c strict = Some (record { terms = []; rest = c; strict = strict })

-- 1/6 and -1/4 have the common multiple 12 and then the divisor 1; 2/3 and 4/5 have 15 and then 2.
factors : (common_multiple ((0, ratio (pos 1) 6) ∷ ((1, ratio (negsuc 0) 4) ∷ [])) ≡ 12) × (common_divisor 12 ((0, ratio (pos 1) 6) ∷ ((1, ratio (negsuc 0) 4) ∷ [])) ≡ 1) × (common_multiple ((0, ratio (pos 2) 3) ∷ ((1, ratio (pos 4) 5) ∷ [])) ≡ 15) × (common_divisor 15 ((0, ratio (pos 2) 3) ∷ ((1, ratio (pos 4) 5) ∷ [])) ≡ 2)
unfolding common_multiple common_divisor ratio gcd gcd_steps
factors = (refl, refl, refl, refl)

-- Over integer variables the constant is rounded up: 2x + 3, 2x - 3, and 4x - 6y + 5.
whole_variables : (tightened types (single (ratio (pos 2) 1) (ratio (pos 3) 1) false) ≡ single_row (pos 1) (pos 2) false) × (tightened types (single (ratio (pos 2) 1) (ratio (negsuc 2) 1) false) ≡ single_row (pos 1) (negsuc 0) false) × (tightened types (claim (ratio (pos 4) 1) 1 (ratio (negsuc 5) 1) (ratio (pos 5) 1) false) ≡ row (pos 2) 1 (negsuc 2) (pos 3) false)
unfolding types claim single row single_row tightened common_multiple common_divisor factor ratio gcd gcd_steps ◌*ʳ◌ floorʳ ceilʳ product_fits fits is_sized
whole_variables = (refl, refl, refl)

-- A strict row becomes one that is not strict: x < 0 is x + 1 <= 0, 2x - 4 < 0 is x - 1 <= 0, and
-- 2x - 3 < 0 is x - 1 <= 0.
strict_rows : (tightened types (single (ratio (pos 1) 1) zeroʳ true) ≡ single_row (pos 1) (pos 1) false) × (tightened types (single (ratio (pos 2) 1) (ratio (negsuc 3) 1) true) ≡ single_row (pos 1) (negsuc 0) false) × (tightened types (single (ratio (pos 2) 1) (ratio (negsuc 2) 1) true) ≡ single_row (pos 1) (negsuc 0) false)
unfolding types single single_row tightened common_multiple common_divisor factor ratio gcd gcd_steps zeroʳ ◌*ʳ◌ floorʳ ceilʳ product_fits fits is_sized
strict_rows = (refl, refl, refl)

-- x/6 - y/4 + 1/12 is 2x - 3y + 1.
fractions : (tightened types (claim (ratio (pos 1) 6) 1 (ratio (negsuc 0) 4) (ratio (pos 1) 12) false) ≡ row (pos 2) 1 (negsuc 2) (pos 1) false) × (tightened types (claim (ratio (pos 1) 6) 1 (ratio (negsuc 0) 4) (ratio (pos 1) 12) true) ≡ row (pos 2) 1 (negsuc 2) (pos 2) false)
unfolding types claim row tightened common_multiple common_divisor factor ratio gcd gcd_steps ◌*ʳ◌ floorʳ ceilʳ product_fits fits is_sized
fractions = (refl, refl)

-- With a UReal the constant is exact: 4x - 6z + 5, 4x - 6z - 2 without the divisor 2, and x/2 + z/3
-- - 1/4 times 12.
with_a_fraction : (tightened types (claim (ratio (pos 4) 1) 2 (ratio (negsuc 5) 1) (ratio (pos 5) 1) true) ≡ row (pos 4) 2 (negsuc 5) (pos 5) true) × (tightened types (claim (ratio (pos 4) 1) 2 (ratio (negsuc 5) 1) (ratio (negsuc 1) 1) false) ≡ row (pos 2) 2 (negsuc 2) (negsuc 0) false) × (tightened types (claim (ratio (pos 1) 2) 2 (ratio (pos 1) 3) (ratio (negsuc 0) 4) true) ≡ row (pos 6) 2 (pos 4) (negsuc 2) true)
unfolding types claim row tightened common_multiple common_divisor factor ratio gcd gcd_steps ◌*ʳ◌ floorʳ ceilʳ product_fits fits is_sized
with_a_fraction = (refl, refl, refl)

-- Without variables the constant is a sign, and a strict row remains strict.
without_variables : (tightened types (alone (ratio (pos 5) 2) false) ≡ sign_row (pos 1) false) × (tightened types (alone (ratio (negsuc 6) 2) true) ≡ sign_row (negsuc 0) true) × (tightened types (alone zeroʳ true) ≡ sign_row (pos 0) true)
unfolding alone sign_row tightened ratio gcd gcd_steps zeroʳ fits is_sized
without_variables = (refl, refl, refl)

-- 2^62 overflows, before and after: x - 2^62, x/2 + 2^62 - 1, and x + 2^62 - 1 < 0.
too_large : (tightened types (single (ratio (pos 1) 1) (ratio (negsuc 4611686018427387903) 1) false) ≡ None) × (tightened types (single (ratio (pos 1) 2) (ratio (pos 4611686018427387903) 1) false) ≡ None) × (tightened types (single (ratio (pos 1) 1) (ratio (pos 4611686018427387903) 1) true) ≡ None) × (tightened types (single (ratio (pos 1) 1) (ratio (pos 4611686018427387903) 1) false) ≡ single_row (pos 1) (pos 4611686018427387903) false)
unfolding types single single_row tightened common_multiple common_divisor factor ratio gcd gcd_steps ◌*ʳ◌ floorʳ ceilʳ product_fits fits is_sized
too_large = (refl, refl, refl, refl)
