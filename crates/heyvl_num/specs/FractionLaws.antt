-- Laws of fractions: their cross products, their arithmetic and their order.
use Rattle.std.specs.Prelude.{◌≡◌, ◌↔◌, ◌⊎◌, ℕ, ◌*◌, ◌<◌, ℤ, pos, ◌+ℤ◌, ◌-ℤ◌, ◌*ℤ◌, neg_ℤ, ◌≤ℤ◌}
use Rattle.std.specs.Ordering.{MatchOrdering}
use Rattle.heyvl_num.specs.Rational.{Rational, ratio, zeroʳ, oneʳ, halfʳ, middleʳ, ◌+ʳ◌, ◌-ʳ◌, ◌*ʳ◌}
use Rattle.heyvl_num.specs.Rational.{negʳ, ◌≤ʳ◌, ◌<ʳ◌, compareʳ}
use Rattle.heyvl_num.specs.Rounding.{whole}

-- ---- By cross products

-- Two fractions are equal if and only if their cross products are.
abbrev pub FractionsEqual : Type 0
FractionsEqual = (a c : ℤ) (b d : ℕ) → 0 < b → 0 < d → (ratio a b ≡ ratio c d)
    ↔ (a *ℤ pos d ≡ c *ℤ pos b)

-- a/b + c/d = (a*d + c*b) / (b*d)
abbrev pub FractionsAdded : Type 0
FractionsAdded = (a c : ℤ) (b d : ℕ) → 0 < b → 0 < d
    → ratio a b +ʳ ratio c d ≡ ratio (a *ℤ pos d +ℤ c *ℤ pos b) (b * d)

-- a/b - c/d = (a*d - c*b) / (b*d)
abbrev pub FractionsSubtracted : Type 0
FractionsSubtracted = (a c : ℤ) (b d : ℕ) → 0 < b → 0 < d
    → ratio a b -ʳ ratio c d ≡ ratio (a *ℤ pos d -ℤ c *ℤ pos b) (b * d)

-- a/b * c/d = (a*c) / (b*d)
abbrev pub FractionsMultiplied : Type 0
FractionsMultiplied = (a c : ℤ) (b d : ℕ) → 0 < b → 0 < d
    → ratio a b *ʳ ratio c d ≡ ratio (a *ℤ c) (b * d)

-- -(a/b) = (-a)/b
abbrev pub FractionsNegated : Type 0
FractionsNegated = (a : ℤ) (b : ℕ) → 0 < b → negʳ (ratio a b) ≡ ratio (neg_ℤ a) b

-- a/b <= c/d if and only if a*d <= c*b.
abbrev pub FractionsOrdered : Type 0
FractionsOrdered = (a c : ℤ) (b d : ℕ) → 0 < b → 0 < d → (ratio a b ≤ʳ ratio c d)
    ↔ ((a *ℤ pos d) ≤ℤ (c *ℤ pos b))

-- `compareʳ x y` is `Less` if `x` < `y`, `Equal` if they are equal, and `Greater` if `y` < `x`.
abbrev pub FractionsCompared : Type 0
FractionsCompared = (x y : Rational) → MatchOrdering (compareʳ x y) (x <ʳ y) (x ≡ y) (y <ʳ x)

-- Each fraction is the ratio of its numerator and its denominator.
abbrev pub FractionsHaveParts : Type 0
FractionsHaveParts = (x : Rational) → ratio x.num x.den ≡ x

-- ---- The ring

-- Addition is associative.
abbrev pub AdditionAssociates : Type 0
AdditionAssociates = (x y z : Rational) → (x +ʳ y) +ʳ z ≡ x +ʳ (y +ʳ z)

-- A sum does not depend on the order of its terms.
abbrev pub AdditionCommutes : Type 0
AdditionCommutes = (x y : Rational) → x +ʳ y ≡ y +ʳ x

-- Adding 0 changes nothing.
abbrev pub ZeroAddsNothing : Type 0
ZeroAddsNothing = (x : Rational) → zeroʳ +ʳ x ≡ x

-- The sum of a fraction and its negative is 0.
abbrev pub NegationCancels : Type 0
NegationCancels = (x : Rational) → x +ʳ negʳ x ≡ zeroʳ

-- Multiplication is associative.
abbrev pub MultiplicationAssociates : Type 0
MultiplicationAssociates = (x y z : Rational) → (x *ʳ y) *ʳ z ≡ x *ʳ (y *ʳ z)

-- A product does not depend on the order of its factors.
abbrev pub MultiplicationCommutes : Type 0
MultiplicationCommutes = (x y : Rational) → x *ʳ y ≡ y *ʳ x

-- Multiplying by 1 changes nothing.
abbrev pub OneChangesNothing : Type 0
OneChangesNothing = (x : Rational) → oneʳ *ʳ x ≡ x

-- A factor distributes over a sum.
abbrev pub MultiplicationDistributes : Type 0
MultiplicationDistributes = (x y z : Rational) → x *ʳ (y +ʳ z) ≡ (x *ʳ y) +ʳ (x *ʳ z)

-- ---- Signs

-- The negative of the negative of a fraction is the fraction.
abbrev pub NegationUndoesItself : Type 0
NegationUndoesItself = (x : Rational) → negʳ (negʳ x) ≡ x

-- A product with a negated factor is the negative of the product.
abbrev pub NegationOfAFactor : Type 0
NegationOfAFactor = (x y : Rational) → negʳ x *ʳ y ≡ negʳ (x *ʳ y)

-- The negative of a sum is the sum of the negatives.
abbrev pub NegationOfASum : Type 0
NegationOfASum = (x y : Rational) → negʳ (x +ʳ y) ≡ negʳ x +ʳ negʳ y

-- Negation reverses the order.
abbrev pub NegationTurnsTheOrder : Type 0
NegationTurnsTheOrder = (x y : Rational) → x ≤ʳ y → negʳ y ≤ʳ negʳ x

-- The product of two nonpositive fractions is nonnegative.
abbrev pub NonpositiveFactors : Type 0
NonpositiveFactors = (x y : Rational) → x ≤ʳ zeroʳ → y ≤ʳ zeroʳ → zeroʳ ≤ʳ x *ʳ y

-- Subtracting and adding the same fraction changes nothing.
abbrev pub DifferenceUndone : Type 0
DifferenceUndone = (x y : Rational) → (x -ʳ y) +ʳ y ≡ x

-- ---- The order

-- Each fraction is at most itself.
abbrev pub OrderReflexive : Type 0
OrderReflexive = (x : Rational) → x ≤ʳ x

-- If `x` is at most `y` and `y` at most `z`, then `x` is at most `z`.
abbrev pub OrderTransitive : Type 0
OrderTransitive = (x y z : Rational) → x ≤ʳ y → y ≤ʳ z → x ≤ʳ z

-- Two fractions are equal if each is at most the other.
abbrev pub OrderAntisymmetric : Type 0
OrderAntisymmetric = (x y : Rational) → x ≤ʳ y → y ≤ʳ x → x ≡ y

-- Of any two fractions, one is at most the other.
abbrev pub OrderTotal : Type 0
OrderTotal = (x y : Rational) → (x ≤ʳ y) ⊎ (y ≤ʳ x)

-- Addition is monotone in both terms.
abbrev pub SumsMonotone : Type 0
SumsMonotone = (x x' y y' : Rational) → x ≤ʳ x' → y ≤ʳ y' → x +ʳ y ≤ʳ x' +ʳ y'

-- Multiplication by a nonnegative factor is monotone.
abbrev pub ProductsMonotone : Type 0
ProductsMonotone = (w x y : Rational) → zeroʳ ≤ʳ w → x ≤ʳ y → w *ʳ x ≤ʳ w *ʳ y

-- A positive integer as a factor preserves and reflects the order.
abbrev pub WholeFactorsKeepTheOrder : Type 0
WholeFactorsKeepTheOrder = (n : ℕ) (x y : Rational) → 0 < n
    → (x ≤ʳ y) ↔ (whole (pos n) *ʳ x ≤ʳ whole (pos n) *ʳ y)

-- `x` is at most `y` if and only if `y` - `x` is nonnegative.
abbrev pub DifferenceTellsTheOrder : Type 0
DifferenceTellsTheOrder = (x y : Rational) → (zeroʳ ≤ʳ y -ʳ x) ↔ (x ≤ʳ y)

-- The sum of two halves of a fraction is the fraction.
abbrev pub HalvesAddUp : Type 0
HalvesAddUp = (x : Rational) → (halfʳ *ʳ x) +ʳ (halfʳ *ʳ x) ≡ x

-- The middle of two different fractions is strictly between them.
abbrev pub MiddlesLieBetween : Type 0
MiddlesLieBetween = (x y : Rational) → x <ʳ y → (x <ʳ middleʳ x y) × (middleʳ x y <ʳ y)
