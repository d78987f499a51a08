-- Rows: linear inequalities a*x + c <= 0. Multiples and sums of rows are rows, and a row whose
-- coefficient is 0 and whose constant is positive has no solution (Farkas). To import: `use
-- Rattle.heyvl_num.proofs.Rows.{farkas}`, or `using(heyvl_num::proofs::Rows::farkas)`. `search
-- farkas` finds the contradiction of two rows, and of a sum of multiples of any number of rows.
use Rattle.std.proofs.Common.{◌≡◌, ap, ◌∙◌, subst}
use Rattle.heyvl_num.specs.Rational.{Rational, zeroʳ, ◌+ʳ◌, ◌*ʳ◌, negʳ, ◌≤ʳ◌, ◌<ʳ◌}
use Rattle.heyvl_num.proofs.Rationals.{ring, +ʳ_mono, *ʳ_mono, zero-+ʳ, *ʳ-zero, zero-*ʳ, *ʳ_comm}
use Rattle.heyvl_num.proofs.Signs.{*ʳ-negʳ, +ʳ-neg, <ʳ-not}

pub row_scaled : (k a x c : Rational) → zeroʳ ≤ʳ k → (a *ʳ x) +ʳ c ≤ʳ zeroʳ → ((k *ʳ a) *ʳ x) +ʳ (k *ʳ c) ≤ʳ zeroʳ
row_scaled k a x c p h =
    let inside : ((k *ʳ a) *ʳ x) +ʳ (k *ʳ c) ≡ k *ʳ ((a *ʳ x) +ʳ c) = simp ring in
    rw inside (subst (λ u. k *ʳ ((a *ʳ x) +ʳ c) ≤ʳ u) (*ʳ-zero k) (*ʳ_mono k ((a *ʳ x) +ʳ c) zeroʳ p h))

pub rows_added : (a b x c d : Rational) → (a *ʳ x) +ʳ c ≤ʳ zeroʳ → (b *ʳ x) +ʳ d ≤ʳ zeroʳ → ((a +ʳ b) *ʳ x) +ʳ (c +ʳ d) ≤ʳ zeroʳ
rows_added a b x c d h k =
    let apart : ((a +ʳ b) *ʳ x) +ʳ (c +ʳ d) ≡ ((a *ʳ x) +ʳ c) +ʳ ((b *ʳ x) +ʳ d) = simp ring in
    rw apart (subst (λ u. ((a *ʳ x) +ʳ c) +ʳ ((b *ʳ x) +ʳ d) ≤ʳ u) (zero-+ʳ zeroʳ) (+ʳ_mono ((a *ʳ x) +ʳ c) zeroʳ ((b *ʳ x) +ʳ d) zeroʳ h k))

-- A row whose coefficient is 0 and whose constant is positive has no solution.
pub row_contradicts : (a x c : Rational) → a ≡ zeroʳ → zeroʳ <ʳ c → (a *ʳ x) +ʳ c ≤ʳ zeroʳ → ⊥
row_contradicts a x c e p h =
    let alone : (a *ʳ x) +ʳ c ≡ c = ap (λ u. (u *ʳ x) +ʳ c) e ∙ ap (λ u. u +ʳ c) (zero-*ʳ x) ∙ zero-+ʳ c in
    <ʳ-not zeroʳ c p (subst (λ u. u ≤ʳ zeroʳ) alone h)

-- The multipliers with which two rows of opposite sign cancel the variable.
pub opposites_cancel : (a b : Rational) → (b *ʳ a) +ʳ (a *ʳ negʳ b) ≡ zeroʳ
opposites_cancel a b = ap (λ u. (b *ʳ a) +ʳ u) (*ʳ-negʳ a b ∙ ap negʳ (*ʳ_comm a b)) ∙ +ʳ-neg (b *ʳ a)

-- Two rows have no common solution if some multiples cancel the variable and leave a positive
-- constant.
pub rows_contradict : (k l a b x c d : Rational) → (a *ʳ x) +ʳ c ≤ʳ zeroʳ → (b *ʳ x) +ʳ d ≤ʳ zeroʳ → zeroʳ ≤ʳ k → zeroʳ ≤ʳ l → (k *ʳ a) +ʳ (l *ʳ b) ≡ zeroʳ → zeroʳ <ʳ (k *ʳ c) +ʳ (l *ʳ d) → ⊥
rows_contradict k l a b x c d h g p q e n = row_contradicts ((k *ʳ a) +ʳ (l *ʳ b)) x ((k *ʳ c) +ʳ (l *ʳ d)) e n (rows_added (k *ʳ a) (l *ʳ b) x (k *ʳ c) (l *ʳ d) (row_scaled k a x c p h) (row_scaled l b x d q g))

pub ruleset farkas = (rows_contradict, rows_added, row_scaled, opposites_cancel)
