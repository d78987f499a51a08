-- Laws of values: their arithmetic, their order, their operators and their weighted sums.
use Rattle.std.specs.Prelude.{◌≡◌, ◌↔◌, ◌⊎◌, ℕ, List, ◌++◌}
use Rattle.std.specs.Ordering.{MatchOrdering}
use Rattle.heyvl_num.specs.Rational.{Rational, zeroʳ, oneʳ, halfʳ, ◌≤ʳ◌}
use Rattle.heyvl_num.specs.Value.{Value, zeroᵛ, oneᵛ, ◌+ᵛ◌, ◌*ᵛ◌, ◌≤ᵛ◌, ◌<ᵛ◌, compareᵛ}
use Rattle.heyvl_num.specs.Value.Value.{finite, infinite}
use Rattle.heyvl_num.specs.ValueOperators.{minᵛ, maxᵛ, impliesᵛ, coimpliesᵛ, monusᵛ}
use Rattle.heyvl_num.specs.WeightedSums.{weighted_sum, total_weight, scaled, joined, IsWeighted}

-- ---- The semiring

-- Addition is associative.
abbrev pub AdditionAssociates : Type 0
AdditionAssociates = (x y z : Value) → (x +ᵛ y) +ᵛ z ≡ x +ᵛ (y +ᵛ z)

-- A sum does not depend on the order of its terms.
abbrev pub AdditionCommutes : Type 0
AdditionCommutes = (x y : Value) → x +ᵛ y ≡ y +ᵛ x

-- Adding 0 changes nothing.
abbrev pub ZeroAddsNothing : Type 0
ZeroAddsNothing = (x : Value) → zeroᵛ +ᵛ x ≡ x

-- Multiplication is associative.
abbrev pub MultiplicationAssociates : Type 0
MultiplicationAssociates = (x y z : Value) → (x *ᵛ y) *ᵛ z ≡ x *ᵛ (y *ᵛ z)

-- A product does not depend on the order of its factors.
abbrev pub MultiplicationCommutes : Type 0
MultiplicationCommutes = (x y : Value) → x *ᵛ y ≡ y *ᵛ x

-- Multiplying by 1 changes nothing.
abbrev pub OneChangesNothing : Type 0
OneChangesNothing = (x : Value) → oneᵛ *ᵛ x ≡ x

-- 0 times any value, including infinity, is 0.
abbrev pub ZeroTakesAll : Type 0
ZeroTakesAll = (x : Value) → zeroᵛ *ᵛ x ≡ zeroᵛ

-- A sum with infinity is infinity.
abbrev pub InfinityAbsorbs : Type 0
InfinityAbsorbs = (x : Value) → x +ᵛ infinite ≡ infinite

-- A finite factor distributes over any sum.
abbrev pub WeightsDistribute : Type 0
WeightsDistribute = (w : Rational) (x y : Value)
    → finite w *ᵛ (x +ᵛ y) ≡ (finite w *ᵛ x) +ᵛ (finite w *ᵛ y)

-- Any factor distributes over a sum of nonnegative values.
abbrev pub MultiplicationDistributes : Type 0
MultiplicationDistributes = (x y z : Value) → zeroᵛ ≤ᵛ y → zeroᵛ ≤ᵛ z
    → x *ᵛ (y +ᵛ z) ≡ (x *ᵛ y) +ᵛ (x *ᵛ z)

-- The sum of two halves of a value is the value.
abbrev pub HalvesAddUp : Type 0
HalvesAddUp = (x : Value) → (finite halfʳ *ᵛ x) +ᵛ (finite halfʳ *ᵛ x) ≡ x

-- ---- The order

-- Each value is at most itself.
abbrev pub OrderReflexive : Type 0
OrderReflexive = (x : Value) → x ≤ᵛ x

-- If `x` is at most `y` and `y` at most `z`, then `x` is at most `z`.
abbrev pub OrderTransitive : Type 0
OrderTransitive = (x y z : Value) → x ≤ᵛ y → y ≤ᵛ z → x ≤ᵛ z

-- Two values are equal if each is at most the other.
abbrev pub OrderAntisymmetric : Type 0
OrderAntisymmetric = (x y : Value) → x ≤ᵛ y → y ≤ᵛ x → x ≡ y

-- Of any two values, one is at most the other.
abbrev pub OrderTotal : Type 0
OrderTotal = (x y : Value) → (x ≤ᵛ y) ⊎ (y ≤ᵛ x)

-- Every value is at most infinity.
abbrev pub InfinityGreatest : Type 0
InfinityGreatest = (x : Value) → x ≤ᵛ infinite

-- Addition is monotone in both terms.
abbrev pub SumsMonotone : Type 0
SumsMonotone = (x x' y y' : Value) → x ≤ᵛ x' → y ≤ᵛ y' → x +ᵛ y ≤ᵛ x' +ᵛ y'

-- Multiplication by a nonnegative finite factor is monotone.
abbrev pub WeightsMonotone : Type 0
WeightsMonotone = (w : Rational) (x y : Value) → zeroʳ ≤ʳ w → x ≤ᵛ y
    → finite w *ᵛ x ≤ᵛ finite w *ᵛ y

-- Multiplication of nonnegative values is monotone in both factors.
abbrev pub ProductsMonotone : Type 0
ProductsMonotone = (x x' y y' : Value) → zeroᵛ ≤ᵛ x → zeroᵛ ≤ᵛ y → x ≤ᵛ x' → y ≤ᵛ y'
    → x *ᵛ y ≤ᵛ x' *ᵛ y'

-- `compareᵛ x y` is `Less` if `x` < `y`, `Equal` if they are equal, and `Greater` if `y` < `x`.
abbrev pub ValuesCompared : Type 0
ValuesCompared = (x y : Value) → MatchOrdering (compareᵛ x y) (x <ᵛ y) (x ≡ y) (y <ᵛ x)

-- Adding a finite value preserves and reflects the order.
abbrev pub FiniteTermsCancel : Type 0
FiniteTermsCancel = (x y : Value) (z : Rational) → (x ≤ᵛ y) ↔ (x +ᵛ finite z ≤ᵛ y +ᵛ finite z)

-- ---- The operators

-- The minimum of `x` and `y` is the largest value that is at most both.
abbrev pub MinimumGreatest : Type 0
MinimumGreatest = (x y z : Value) → (z ≤ᵛ minᵛ x y) ↔ ((z ≤ᵛ x) × (z ≤ᵛ y))

-- The maximum of `x` and `y` is the least value that is at least both.
abbrev pub MaximumLeast : Type 0
MaximumLeast = (x y z : Value) → (maxᵛ x y ≤ᵛ z) ↔ ((x ≤ᵛ z) × (y ≤ᵛ z))

-- `z` is at most the implication of `x` and `y` if and only if the minimum of `z` and `x` is at
-- most `y`.
abbrev pub ImplicationAdjoint : Type 0
ImplicationAdjoint = (x y z : Value) → (z ≤ᵛ impliesᵛ x y) ↔ (minᵛ z x ≤ᵛ y)

-- The coimplication of `x` and `y` is at most a nonnegative `z` if and only if `y` is at most the
-- maximum of `x` and `z`.
abbrev pub CoimplicationAdjoint : Type 0
CoimplicationAdjoint = (x y z : Value) → zeroᵛ ≤ᵛ z → (coimpliesᵛ x y ≤ᵛ z) ↔ (y ≤ᵛ maxᵛ x z)

-- The truncated difference of `x` and `y` is at most a nonnegative `z` if and only if `x` is at
-- most `z` + `y`.
abbrev pub DifferenceAdjoint : Type 0
DifferenceAdjoint = (x y z : Value) → zeroᵛ ≤ᵛ z → (monusᵛ x y ≤ᵛ z) ↔ (x ≤ᵛ z +ᵛ y)

-- ---- Weighted sums of outcomes that are numbers

-- The weighted sum over two appended lists is the sum of the weighted sums over each.
abbrev pub SumsOfAppendedLists : Type 0
SumsOfAppendedLists = (f : ℕ → Value) (xs ys : List (Rational × ℕ))
    → weighted_sum f (xs ++ ys) ≡ weighted_sum f xs +ᵛ weighted_sum f ys

-- A common factor of all weights, or of all values, is a factor of the weighted sum.
abbrev pub FactorsMoveOut : Type 0
FactorsMoveOut = (f : ℕ → Value) (w : Rational) (xs : List (Rational × ℕ))
    → (weighted_sum f (scaled w xs) ≡ finite w *ᵛ weighted_sum f xs)
    × (weighted_sum (λ a. finite w *ᵛ f a) xs ≡ finite w *ᵛ weighted_sum f xs)

-- If each outcome `a` is replaced by the outcomes `k a` with multiplied weights, the weighted sum
-- is the one in which the value of `a` is the weighted sum over `k a`.
abbrev pub SumsOfJoinedLists : Type 0
SumsOfJoinedLists = (f : ℕ → Value) (k : ℕ → List (Rational × ℕ)) (xs : List (Rational × ℕ))
    → weighted_sum f (joined k xs) ≡ weighted_sum (λ a. weighted_sum f (k a)) xs

-- If no weight is negative, a weighted sum is monotone in the values of the outcomes.
abbrev pub WeightedSumsMonotone : Type 0
WeightedSumsMonotone = (f g : ℕ → Value) (xs : List (Rational × ℕ)) → IsWeighted xs
    → ((a : ℕ) → f a ≤ᵛ g a) → weighted_sum f xs ≤ᵛ weighted_sum g xs

-- If the weights are nonnegative and their sum is at most 1, a nonnegative bound of all values is a
-- bound of the weighted sum.
abbrev pub WeightedSumsBounded : Type 0
WeightedSumsBounded = (f : ℕ → Value) (v : Value) (xs : List (Rational × ℕ)) → IsWeighted xs
    → total_weight xs ≤ʳ oneʳ → zeroᵛ ≤ᵛ v → ((a : ℕ) → f a ≤ᵛ v) → weighted_sum f xs ≤ᵛ v
