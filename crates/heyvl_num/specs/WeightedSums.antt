-- Weighted sums over lists of outcomes with their weights.
use Rattle.std.specs.Prelude.{List, [], ◌∷◌, ◌++◌}
use Rattle.heyvl_num.specs.Rational.{Rational, zeroʳ, ◌+ʳ◌, ◌*ʳ◌, ◌≤ʳ◌}
use Rattle.heyvl_num.specs.Value.{Value, zeroᵛ, ◌+ᵛ◌, ◌*ᵛ◌}
use Rattle.heyvl_num.specs.Value.Value.{finite}

-- `weighted_sum f xs`: the sum of the values `f a` of the outcomes `a` in `xs`, each times its
-- weight. With `f` 4 = 3 and `f` 5 = 1, the list of (1/2, 4) and (1/2, 5) has the sum 2.
unfoldable pub weighted_sum : {A : Type 0} → (A → Value) → List (Rational × A) → Value
weighted_sum f [] = zeroᵛ
weighted_sum f (x ∷ xs) = (finite x.0 *ᵛ f x.1) +ᵛ weighted_sum f xs

-- The sum of the weights.
unfoldable pub total_weight : {A : Type 0} → List (Rational × A) → Rational
total_weight [] = zeroʳ
total_weight (x ∷ xs) = x.0 +ʳ total_weight xs

-- `scaled w xs`: the outcomes of `xs`, with every weight multiplied by `w`.
unfoldable pub scaled : {A : Type 0} → Rational → List (Rational × A) → List (Rational × A)
scaled w [] = []
scaled w (x ∷ xs) = (w *ʳ x.0, x.1) ∷ scaled w xs

-- `joined k xs`: the list `xs`, with each outcome `a` replaced by the outcomes `k a`; the weights
-- are multiplied. An outcome with the weight 1/2, replaced by one with the weight 1/3, yields the
-- weight 1/6.
unfoldable pub joined : {A B : Type 0} → (A → List (Rational × B)) → List (Rational × A)
    → List (Rational × B)
joined k [] = []
joined k (x ∷ xs) = scaled x.0 (k x.1) ++ joined k xs

-- No weight is negative.
pub data IsWeighted {A : Type 0} : List (Rational × A) → Type 0 where
  none : IsWeighted []
  one_more : (x : Rational × A) (xs : List (Rational × A)) → zeroʳ ≤ʳ x.0 → IsWeighted xs
      → IsWeighted (x ∷ xs)
