-- Facts on numbers that formulas and linear inequalities need: examples that the exported rule sets
-- of the numbers prove without further steps.
use Rattle.std.specs.Prelude.{◌≡◌}
use Rattle.heyvl_num.specs.Rational.{Rational, zeroʳ, ◌+ʳ◌, ◌*ʳ◌, negʳ, ◌≤ʳ◌, ◌<ʳ◌}
use Rattle.heyvl_num.specs.Value.{Value, ◌+ᵛ◌, ◌*ᵛ◌, ◌≤ᵛ◌}
use Rattle.heyvl_num.specs.Value.Value.{finite}

-- A sum of three weighted values is monotone.
abbrev pub ThreeTermsMonotone : Type 0
ThreeTermsMonotone = (p q r : Rational) (x x' y y' z z' : Value) → zeroʳ ≤ʳ p → zeroʳ ≤ʳ q
    → zeroʳ ≤ʳ r → x ≤ᵛ x' → y ≤ᵛ y' → z ≤ᵛ z'
    → ((finite p *ᵛ x) +ᵛ (finite q *ᵛ y)) +ᵛ (finite r *ᵛ z)
    ≤ᵛ ((finite p *ᵛ x') +ᵛ (finite q *ᵛ y')) +ᵛ (finite r *ᵛ z')

-- A weight before a flip distributes over both of its outcomes.
abbrev pub FlipDistributes : Type 0
FlipDistributes = (w p q : Rational) (x y : Value)
    → finite w *ᵛ ((finite p *ᵛ x) +ᵛ (finite q *ᵛ y))
    ≡ (finite (w *ʳ p) *ᵛ x) +ᵛ (finite (w *ʳ q) *ᵛ y)

-- Two rows `a*x + c <= 0` and `b*x + d <= 0` contradict each other if multipliers that are not
-- negative cancel `x` and leave more than 0 (Farkas).
abbrev pub TwoRowsContradict : Type 0
TwoRowsContradict = (a b c d k l x : Rational) → zeroʳ ≤ʳ k → zeroʳ ≤ʳ l
    → (k *ʳ a) +ʳ (l *ʳ b) ≡ zeroʳ → zeroʳ <ʳ (k *ʳ c) +ʳ (l *ʳ d) → (a *ʳ x) +ʳ c ≤ʳ zeroʳ
    → (b *ʳ x) +ʳ d ≤ʳ zeroʳ → ⊥

-- An upper and a lower bound of `x`, `a*x + c <= 0` and `-b*x + d <= 0`, contradict each other if
-- the multipliers `b` and `a` leave more than 0.
abbrev pub OppositeRowsContradict : Type 0
OppositeRowsContradict = (a b c d x : Rational) → zeroʳ ≤ʳ a → zeroʳ ≤ʳ b
    → zeroʳ <ʳ (b *ʳ c) +ʳ (a *ʳ d) → (a *ʳ x) +ʳ c ≤ʳ zeroʳ → (negʳ b *ʳ x) +ʳ d ≤ʳ zeroʳ → ⊥
