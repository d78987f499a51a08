-- The definitions, computed for values that were worked out by hand.
use Rattle.std.proofs.Common.{◌≡◌, refl, true, false}
use Rattle.std.specs.Prelude.{pos, negsuc}
use Rattle.std.specs.declared.cmp.Ordering.TheVariants.{Less, Equal}
use Rattle.heyvl_num.specs.Gcd.{gcd, gcd_steps}
use Rattle.heyvl_num.specs.Rational.{ratio, zeroʳ, oneʳ, ◌+ʳ◌, ◌-ʳ◌, ◌*ʳ◌, negʳ, leqʳ, compareʳ}
use Rattle.heyvl_num.specs.Value.{zeroᵛ, ◌+ᵛ◌, ◌*ᵛ◌, infinite_times, is_zeroʳ, leqᵛ}
use Rattle.heyvl_num.specs.Value.Value.{finite, infinite}
use Rattle.heyvl_num.specs.Rounding.{floorʳ, ceilʳ}

divisors : (gcd 12 18 ≡ 6) × (gcd 17 5 ≡ 1) × (gcd 0 7 ≡ 7) × (gcd 0 0 ≡ 0)
unfolding gcd gcd_steps
divisors = (refl, refl, refl, refl)

-- 6/4 = 3/2 and -6/4 = -3/2
lowest_terms : ((ratio (pos 6) 4).num ≡ pos 3) × ((ratio (pos 6) 4).den ≡ 2) × ((ratio (negsuc 5) 4).num ≡ negsuc 2) × ((ratio (negsuc 5) 4).den ≡ 2)
unfolding ratio gcd gcd_steps
lowest_terms = (refl, refl, refl, refl)

-- 1/6 + 1/10 = 4/15
sum_of_fractions : ((ratio (pos 1) 6 +ʳ ratio (pos 1) 10).num ≡ pos 4) × ((ratio (pos 1) 6 +ʳ ratio (pos 1) 10).den ≡ 15)
unfolding ratio gcd gcd_steps ◌+ʳ◌
sum_of_fractions = (refl, refl)

-- 1/6 - 1/2 = -1/3
difference_of_fractions : ((ratio (pos 1) 6 -ʳ ratio (pos 1) 2).num ≡ negsuc 0) × ((ratio (pos 1) 6 -ʳ ratio (pos 1) 2).den ≡ 3)
unfolding ratio gcd gcd_steps ◌+ʳ◌ negʳ ◌-ʳ◌
difference_of_fractions = (refl, refl)

-- -3/2 * 4/9 = -2/3
product_of_fractions : ((ratio (negsuc 2) 2 *ʳ ratio (pos 4) 9).num ≡ negsuc 1) × ((ratio (negsuc 2) 2 *ʳ ratio (pos 4) 9).den ≡ 3)
unfolding ratio gcd gcd_steps ◌*ʳ◌
product_of_fractions = (refl, refl)

-- -1/2 is below 1/3, and 2/4 is 1/2
order_of_fractions : (leqʳ (ratio (negsuc 0) 2) (ratio (pos 1) 3) ≡ true) × (leqʳ (ratio (pos 1) 3) (ratio (negsuc 0) 2) ≡ false) × (compareʳ (ratio (pos 2) 4) (ratio (pos 1) 2) ≡ Equal) × (compareʳ (ratio (negsuc 0) 2) (ratio (negsuc 0) 3) ≡ Less)
unfolding ratio gcd gcd_steps leqʳ compareʳ
order_of_fractions = (refl, refl, refl, refl)

-- 7/2 is between 3 and 4, and -7/2 between -4 and -3
roundings : (floorʳ (ratio (pos 7) 2) ≡ pos 3) × (ceilʳ (ratio (pos 7) 2) ≡ pos 4) × (floorʳ (ratio (negsuc 6) 2) ≡ negsuc 3) × (ceilʳ (ratio (negsuc 6) 2) ≡ negsuc 2)
unfolding ratio gcd gcd_steps floorʳ ceilʳ
roundings = (refl, refl, refl, refl)

-- 0 * infinity = 0, 1/2 * infinity = infinity, 1/2 + infinity = infinity
infinity : (finite zeroʳ *ᵛ infinite ≡ zeroᵛ) × (finite (ratio (pos 1) 2) *ᵛ infinite ≡ infinite) × (finite (ratio (pos 1) 2) +ᵛ infinite ≡ infinite) × (leqᵛ infinite (finite oneʳ) ≡ false) × (leqᵛ (finite oneʳ) infinite ≡ true)
unfolding ratio gcd gcd_steps zeroʳ zeroᵛ oneʳ infinite_times is_zeroʳ ◌*ᵛ◌ ◌+ᵛ◌ leqᵛ
infinity = (refl, refl, refl, refl, refl)
