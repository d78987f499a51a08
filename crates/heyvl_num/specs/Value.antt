-- Values: exact fractions and infinity. Formulas denote values; rewards, posts and sums over runs
-- are values too. Source: the quantities of HeyLo (Schroeer, Batz, Kaminski, Katoen, Matheja,
-- OOPSLA 2023), with fractions in place of reals, and with negative fractions as values of the type
-- Int. No program combines a negative fraction with infinity.
use Rattle.std.specs.Prelude.{◌≡◌, Bool, true, false, ℤ, pos, negsuc}
use Prim.Native.Nat.{zero, suc}
use Rattle.std.specs.declared.cmp.Ordering.{Ordering}
use Rattle.std.specs.declared.cmp.Ordering.TheVariants.{Less, Equal, Greater}
use Rattle.heyvl_num.specs.Rational.{Rational, ◌+ʳ◌, ◌*ʳ◌, zeroʳ, oneʳ, leqʳ, compareʳ}

infix 4 ◌≤ᵛ◌
infix 4 ◌<ᵛ◌
infixl 6 ◌+ᵛ◌
infixl 7 ◌*ᵛ◌
-- A fraction, or infinity.
pub data Value : Type 0 where
  finite : Rational → Value
  infinite : Value

-- The value 0.
unfoldable pub zeroᵛ : Value
zeroᵛ = finite zeroʳ

-- The value 1.
unfoldable pub oneᵛ : Value
oneᵛ = finite oneʳ

-- The test of an integer for 0.
abbrev pub is_zero_num : ℤ → Bool
is_zero_num (pos zero) = true
is_zero_num (pos (suc n)) = false
is_zero_num (negsuc n) = false

-- The test of a fraction for 0.
unfoldable pub is_zeroʳ : Rational → Bool
is_zeroʳ x = is_zero_num x.num

-- The sum; infinity if a term is infinite.
unfoldable pub ◌+ᵛ◌ : Value → Value → Value
finite x +ᵛ finite y = finite (x +ʳ y)
finite x +ᵛ infinite = infinite
infinite +ᵛ finite y = infinite
infinite +ᵛ infinite = infinite

-- `infinite_times z`: infinity times a fraction, where `z` says whether the fraction is 0.
unfoldable pub infinite_times : Bool → Value
infinite_times true = zeroᵛ
infinite_times false = infinite

-- The product, in which 0 times infinity is 0. Any other fraction times infinity is infinity.
unfoldable pub ◌*ᵛ◌ : Value → Value → Value
finite x *ᵛ finite y = finite (x *ʳ y)
finite x *ᵛ infinite = infinite_times (is_zeroʳ x)
infinite *ᵛ finite y = infinite_times (is_zeroʳ y)
infinite *ᵛ infinite = infinite

-- `leqᵛ x y`: the test of `x` <= `y`. Everything is at most infinity.
unfoldable pub leqᵛ : Value → Value → Bool
leqᵛ (finite x) (finite y) = leqʳ x y
leqᵛ (finite x) infinite = true
leqᵛ infinite (finite y) = false
leqᵛ infinite infinite = true

-- `x` is at most `y`.
pub record ◌≤ᵛ◌ (x y : Value) : Type 0 where
  pub holds : leqᵛ x y ≡ true

-- `x` is less than `y`: `y` is not at most `x`.
pub record ◌<ᵛ◌ (x y : Value) : Type 0 where
  pub holds : leqᵛ y x ≡ false

-- `compareᵛ x y`: how `x` compares with `y`.
abbrev pub compareᵛ : Value → Value → Ordering
compareᵛ (finite x) (finite y) = compareʳ x y
compareᵛ (finite x) infinite = Less
compareᵛ infinite (finite y) = Greater
compareᵛ infinite infinite = Equal
