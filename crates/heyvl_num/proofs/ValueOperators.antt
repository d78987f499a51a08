-- Laws of minimum, maximum, the two implications and the truncated difference. To import: `use
-- Rattle.heyvl_num.proofs.ValueOperators.{min_below_left}`.
use Rattle.std.proofs.Common.{◌≡◌, ◌↔◌, ◌⊎◌, inl, inr, refl, sym, subst, Bool, true, false}
use Rattle.heyvl_num.specs.Rational.{Rational, ◌-ʳ◌, ◌+ʳ◌, leqʳ, ◌≤ʳ◌}
use Rattle.heyvl_num.specs.Value.{Value, zeroᵛ, ◌+ᵛ◌, leqᵛ, ◌≤ᵛ◌}
use Rattle.heyvl_num.specs.Value.Value.{finite, infinite}
use Rattle.heyvl_num.specs.ValueOperators.{minᵛ, maxᵛ, impliesᵛ, coimpliesᵛ, monusᵛ}
use Rattle.heyvl_num.proofs.Rationals.{≤ʳ_total}
use Rattle.heyvl_num.proofs.Signs.{minus_at_most}
use Rattle.heyvl_num.proofs.Values.{≤ᵛ_refl, ≤ᵛ_trans, ≤ᵛ_antisym, ≤ᵛ_total, ≤ᵛ_infinite, infinite_above, finite_order, order_finite, finite-+, ≤ᵛ-+ᵛ_left}

-- The two cases of a test of the order.
tested : (x y : Value) (b : Bool) → leqᵛ x y ≡ b → ((leqᵛ x y ≡ true) × (x ≤ᵛ y)) ⊎ ((leqᵛ x y ≡ false) × (y ≤ᵛ x))
tested x y true e = inl (e, record { holds = e })
tested x y false e = inr (e, other (≤ᵛ_total x y))
  where
    other : (x ≤ᵛ y) ⊎ (y ≤ᵛ x) → y ≤ᵛ x
    other (inl h) = absurd (let k = h.holds in cc)
    other (inr h) = h

pub order_cases : (x y : Value) → ((leqᵛ x y ≡ true) × (x ≤ᵛ y)) ⊎ ((leqᵛ x y ≡ false) × (y ≤ᵛ x))
order_cases x y = tested x y (leqᵛ x y) refl

-- ---- Minimum

pub min_below_left : (x y : Value) → minᵛ x y ≤ᵛ x
unfolding minᵛ
min_below_left x y = go (order_cases x y)
  where
    go : ((leqᵛ x y ≡ true) × (x ≤ᵛ y)) ⊎ ((leqᵛ x y ≡ false) × (y ≤ᵛ x)) → minᵛ x y ≤ᵛ x
    go (inl h) = rw h.0 (≤ᵛ_refl x)
    go (inr h) = rw h.0 h.1

pub min_below_right : (x y : Value) → minᵛ x y ≤ᵛ y
unfolding minᵛ
min_below_right x y = go (order_cases x y)
  where
    go : ((leqᵛ x y ≡ true) × (x ≤ᵛ y)) ⊎ ((leqᵛ x y ≡ false) × (y ≤ᵛ x)) → minᵛ x y ≤ᵛ y
    go (inl h) = rw h.0 h.1
    go (inr h) = rw h.0 (≤ᵛ_refl y)

pub min_greatest : (x y z : Value) → z ≤ᵛ x → z ≤ᵛ y → z ≤ᵛ minᵛ x y
unfolding minᵛ
min_greatest x y z p q = go (order_cases x y)
  where
    go : ((leqᵛ x y ≡ true) × (x ≤ᵛ y)) ⊎ ((leqᵛ x y ≡ false) × (y ≤ᵛ x)) → z ≤ᵛ minᵛ x y
    go (inl h) = rw h.0 p
    go (inr h) = rw h.0 q

pub min_adjoint : (x y z : Value) → (z ≤ᵛ minᵛ x y) ↔ ((z ≤ᵛ x) × (z ≤ᵛ y))
min_adjoint x y z = (λ h. (≤ᵛ_trans z (minᵛ x y) x h (min_below_left x y), ≤ᵛ_trans z (minᵛ x y) y h (min_below_right x y)), λ h. min_greatest x y z h.0 h.1)

pub min_mono : (x x' y y' : Value) → x ≤ᵛ x' → y ≤ᵛ y' → minᵛ x y ≤ᵛ minᵛ x' y'
min_mono x x' y y' p q = min_greatest x' y' (minᵛ x y) (≤ᵛ_trans (minᵛ x y) x x' (min_below_left x y) p) (≤ᵛ_trans (minᵛ x y) y y' (min_below_right x y) q)

pub min_comm : (x y : Value) → minᵛ x y ≡ minᵛ y x
min_comm x y = ≤ᵛ_antisym (minᵛ x y) (minᵛ y x) (min_greatest y x (minᵛ x y) (min_below_right x y) (min_below_left x y)) (min_greatest x y (minᵛ y x) (min_below_right y x) (min_below_left y x))

-- ---- Maximum

pub max_above_left : (x y : Value) → x ≤ᵛ maxᵛ x y
unfolding maxᵛ
max_above_left x y = go (order_cases x y)
  where
    go : ((leqᵛ x y ≡ true) × (x ≤ᵛ y)) ⊎ ((leqᵛ x y ≡ false) × (y ≤ᵛ x)) → x ≤ᵛ maxᵛ x y
    go (inl h) = rw h.0 h.1
    go (inr h) = rw h.0 (≤ᵛ_refl x)

pub max_above_right : (x y : Value) → y ≤ᵛ maxᵛ x y
unfolding maxᵛ
max_above_right x y = go (order_cases x y)
  where
    go : ((leqᵛ x y ≡ true) × (x ≤ᵛ y)) ⊎ ((leqᵛ x y ≡ false) × (y ≤ᵛ x)) → y ≤ᵛ maxᵛ x y
    go (inl h) = rw h.0 (≤ᵛ_refl y)
    go (inr h) = rw h.0 h.1

pub max_least : (x y z : Value) → x ≤ᵛ z → y ≤ᵛ z → maxᵛ x y ≤ᵛ z
unfolding maxᵛ
max_least x y z p q = go (order_cases x y)
  where
    go : ((leqᵛ x y ≡ true) × (x ≤ᵛ y)) ⊎ ((leqᵛ x y ≡ false) × (y ≤ᵛ x)) → maxᵛ x y ≤ᵛ z
    go (inl h) = rw h.0 q
    go (inr h) = rw h.0 p

pub max_adjoint : (x y z : Value) → (maxᵛ x y ≤ᵛ z) ↔ ((x ≤ᵛ z) × (y ≤ᵛ z))
max_adjoint x y z = (λ h. (≤ᵛ_trans x (maxᵛ x y) z (max_above_left x y) h, ≤ᵛ_trans y (maxᵛ x y) z (max_above_right x y) h), λ h. max_least x y z h.0 h.1)

pub max_mono : (x x' y y' : Value) → x ≤ᵛ x' → y ≤ᵛ y' → maxᵛ x y ≤ᵛ maxᵛ x' y'
max_mono x x' y y' p q = max_least x y (maxᵛ x' y') (≤ᵛ_trans x x' (maxᵛ x' y') p (max_above_left x' y')) (≤ᵛ_trans y y' (maxᵛ x' y') q (max_above_right x' y'))

pub max_comm : (x y : Value) → maxᵛ x y ≡ maxᵛ y x
max_comm x y = ≤ᵛ_antisym (maxᵛ x y) (maxᵛ y x) (max_least x y (maxᵛ y x) (max_above_right y x) (max_above_left y x)) (max_least y x (maxᵛ x y) (max_above_right x y) (max_above_left x y))

-- ---- The two implications

pub implies_top : (x y : Value) → x ≤ᵛ y → impliesᵛ x y ≡ infinite
unfolding impliesᵛ
implies_top x y h = let e : leqᵛ x y ≡ true = h.holds in rw e

implies_cases : (x y : Value) → ((impliesᵛ x y ≡ infinite) × (x ≤ᵛ y)) ⊎ ((impliesᵛ x y ≡ y) × (leqᵛ x y ≡ false))
unfolding impliesᵛ
implies_cases x y = go (order_cases x y)
  where
    go : ((leqᵛ x y ≡ true) × (x ≤ᵛ y)) ⊎ ((leqᵛ x y ≡ false) × (y ≤ᵛ x)) → ((impliesᵛ x y ≡ infinite) × (x ≤ᵛ y)) ⊎ ((impliesᵛ x y ≡ y) × (leqᵛ x y ≡ false))
    go (inl h) = inl (rw h.0, h.1)
    go (inr h) = inr (rw h.0, h.0)

min_cases : (x y : Value) → (minᵛ x y ≡ x) ⊎ (minᵛ x y ≡ y)
unfolding minᵛ
min_cases x y = go (order_cases x y)
  where
    go : ((leqᵛ x y ≡ true) × (x ≤ᵛ y)) ⊎ ((leqᵛ x y ≡ false) × (y ≤ᵛ x)) → (minᵛ x y ≡ x) ⊎ (minᵛ x y ≡ y)
    go (inl h) = inl (rw h.0)
    go (inr h) = inr (rw h.0)

max_cases : (x y : Value) → (maxᵛ x y ≡ x) ⊎ (maxᵛ x y ≡ y)
unfolding maxᵛ
max_cases x y = go (order_cases x y)
  where
    go : ((leqᵛ x y ≡ true) × (x ≤ᵛ y)) ⊎ ((leqᵛ x y ≡ false) × (y ≤ᵛ x)) → (maxᵛ x y ≡ x) ⊎ (maxᵛ x y ≡ y)
    go (inl h) = inr (rw h.0)
    go (inr h) = inl (rw h.0)

untested : (x y : Value) → x ≤ᵛ y → leqᵛ x y ≡ false → ⊥
untested x y h e = let k = h.holds in cc

implies_in : (x y z : Value) → minᵛ z x ≤ᵛ y → z ≤ᵛ impliesᵛ x y
implies_in x y z k = go (implies_cases x y) (min_cases z x)
  where
    go : ((impliesᵛ x y ≡ infinite) × (x ≤ᵛ y)) ⊎ ((impliesᵛ x y ≡ y) × (leqᵛ x y ≡ false)) → (minᵛ z x ≡ z) ⊎ (minᵛ z x ≡ x) → z ≤ᵛ impliesᵛ x y
    go (inl h) m = rw h.0 (≤ᵛ_infinite z)
    go (inr h) (inl m) = subst (λ u. z ≤ᵛ u) (sym h.0) (subst (λ u. u ≤ᵛ y) m k)
    go (inr h) (inr m) = absurd (untested x y (subst (λ u. u ≤ᵛ y) m k) h.1)

implies_out : (x y z : Value) → z ≤ᵛ impliesᵛ x y → minᵛ z x ≤ᵛ y
implies_out x y z k = go (implies_cases x y)
  where
    go : ((impliesᵛ x y ≡ infinite) × (x ≤ᵛ y)) ⊎ ((impliesᵛ x y ≡ y) × (leqᵛ x y ≡ false)) → minᵛ z x ≤ᵛ y
    go (inl h) = ≤ᵛ_trans (minᵛ z x) x y (min_below_right z x) h.1
    go (inr h) = ≤ᵛ_trans (minᵛ z x) z y (min_below_left z x) (subst (λ u. z ≤ᵛ u) h.0 k)

pub implies_adjoint : (x y z : Value) → (z ≤ᵛ impliesᵛ x y) ↔ (minᵛ z x ≤ᵛ y)
implies_adjoint x y z = (implies_out x y z, implies_in x y z)

pub implies_mono : (x x' y y' : Value) → x' ≤ᵛ x → y ≤ᵛ y' → impliesᵛ x y ≤ᵛ impliesᵛ x' y'
implies_mono x x' y y' h k = implies_in x' y' (impliesᵛ x y) (≤ᵛ_trans (minᵛ (impliesᵛ x y) x') y y' (≤ᵛ_trans (minᵛ (impliesᵛ x y) x') (minᵛ (impliesᵛ x y) x) y (min_mono (impliesᵛ x y) (impliesᵛ x y) x' x (≤ᵛ_refl (impliesᵛ x y)) h) (implies_out x y (impliesᵛ x y) (≤ᵛ_refl (impliesᵛ x y)))) k)

pub coimplies_zero : (x y : Value) → y ≤ᵛ x → coimpliesᵛ x y ≡ zeroᵛ
unfolding coimpliesᵛ
coimplies_zero x y h = let e : leqᵛ y x ≡ true = h.holds in rw e

coimplies_cases : (x y : Value) → ((coimpliesᵛ x y ≡ zeroᵛ) × (y ≤ᵛ x)) ⊎ ((coimpliesᵛ x y ≡ y) × (leqᵛ y x ≡ false))
unfolding coimpliesᵛ
coimplies_cases x y = go (order_cases y x)
  where
    go : ((leqᵛ y x ≡ true) × (y ≤ᵛ x)) ⊎ ((leqᵛ y x ≡ false) × (x ≤ᵛ y)) → ((coimpliesᵛ x y ≡ zeroᵛ) × (y ≤ᵛ x)) ⊎ ((coimpliesᵛ x y ≡ y) × (leqᵛ y x ≡ false))
    go (inl h) = inl (rw h.0, h.1)
    go (inr h) = inr (rw h.0, h.0)

coimplies_in : (x y z : Value) → zeroᵛ ≤ᵛ z → y ≤ᵛ maxᵛ x z → coimpliesᵛ x y ≤ᵛ z
coimplies_in x y z p k = go (coimplies_cases x y) (max_cases x z)
  where
    go : ((coimpliesᵛ x y ≡ zeroᵛ) × (y ≤ᵛ x)) ⊎ ((coimpliesᵛ x y ≡ y) × (leqᵛ y x ≡ false)) → (maxᵛ x z ≡ x) ⊎ (maxᵛ x z ≡ z) → coimpliesᵛ x y ≤ᵛ z
    go (inl h) m = subst (λ u. u ≤ᵛ z) (sym h.0) p
    go (inr h) (inl m) = absurd (untested y x (subst (λ u. y ≤ᵛ u) m k) h.1)
    go (inr h) (inr m) = subst (λ u. u ≤ᵛ z) (sym h.0) (subst (λ u. y ≤ᵛ u) m k)

coimplies_out : (x y z : Value) → coimpliesᵛ x y ≤ᵛ z → y ≤ᵛ maxᵛ x z
coimplies_out x y z k = go (coimplies_cases x y)
  where
    go : ((coimpliesᵛ x y ≡ zeroᵛ) × (y ≤ᵛ x)) ⊎ ((coimpliesᵛ x y ≡ y) × (leqᵛ y x ≡ false)) → y ≤ᵛ maxᵛ x z
    go (inl h) = ≤ᵛ_trans y x (maxᵛ x z) h.1 (max_above_left x z)
    go (inr h) = ≤ᵛ_trans y z (maxᵛ x z) (subst (λ u. u ≤ᵛ z) h.0 k) (max_above_right x z)

pub coimplies_adjoint : (x y z : Value) → zeroᵛ ≤ᵛ z → (coimpliesᵛ x y ≤ᵛ z) ↔ (y ≤ᵛ maxᵛ x z)
coimplies_adjoint x y z p = (coimplies_out x y z, coimplies_in x y z p)

pub coimplies_nonnegative : (x y : Value) → zeroᵛ ≤ᵛ y → zeroᵛ ≤ᵛ coimpliesᵛ x y
coimplies_nonnegative x y p = go (coimplies_cases x y)
  where
    go : ((coimpliesᵛ x y ≡ zeroᵛ) × (y ≤ᵛ x)) ⊎ ((coimpliesᵛ x y ≡ y) × (leqᵛ y x ≡ false)) → zeroᵛ ≤ᵛ coimpliesᵛ x y
    go (inl h) = rw h.0 (≤ᵛ_refl zeroᵛ)
    go (inr h) = rw h.0 p

pub coimplies_mono : (x x' y y' : Value) → zeroᵛ ≤ᵛ y' → x' ≤ᵛ x → y ≤ᵛ y' → coimpliesᵛ x y ≤ᵛ coimpliesᵛ x' y'
coimplies_mono x x' y y' p h k = coimplies_in x y (coimpliesᵛ x' y') (coimplies_nonnegative x' y' p) (≤ᵛ_trans y y' (maxᵛ x (coimpliesᵛ x' y')) k (≤ᵛ_trans y' (maxᵛ x' (coimpliesᵛ x' y')) (maxᵛ x (coimpliesᵛ x' y')) (coimplies_out x' y' (coimpliesᵛ x' y') (≤ᵛ_refl (coimpliesᵛ x' y'))) (max_mono x' x (coimpliesᵛ x' y') (coimpliesᵛ x' y') h (≤ᵛ_refl (coimpliesᵛ x' y')))))

-- ---- The truncated difference

minus_order : (x y z : Rational) → (finite (x -ʳ y) ≤ᵛ finite z) ↔ (finite x ≤ᵛ finite z +ᵛ finite y)
minus_order x y z = (
  λ h. subst (λ u. finite x ≤ᵛ u) (sym (finite-+ z y)) (order_finite x (z +ʳ y) ((minus_at_most x y z).0 (finite_order (x -ʳ y) z h))),
  λ h. order_finite (x -ʳ y) z ((minus_at_most x y z).1 (finite_order x (z +ʳ y) (subst (λ u. finite x ≤ᵛ u) (finite-+ z y) h))),
)

minus_values : (x y : Rational) (z : Value) → (finite (x -ʳ y) ≤ᵛ z) ↔ (finite x ≤ᵛ z +ᵛ finite y)
unfolding ◌+ᵛ◌
minus_values x y (finite z) = minus_order x y z
minus_values x y infinite = (λ h. ≤ᵛ_infinite (finite x), λ h. ≤ᵛ_infinite (finite (x -ʳ y)))

monus_finite : (x y : Rational) (z : Value) (b : Bool) → zeroᵛ ≤ᵛ z → leqʳ y x ≡ b → (monusᵛ (finite x) (finite y) ≤ᵛ z) ↔ (finite x ≤ᵛ z +ᵛ finite y)
unfolding monusᵛ
monus_finite x y z true p e = rw e (minus_values x y z)
monus_finite x y z false p e = rw e (λ h. ≤ᵛ_trans (finite x) (finite y) (z +ᵛ finite y) (order_finite x y (below (≤ʳ_total x y))) (≤ᵛ-+ᵛ_left (finite y) z p), λ h. p)
  where
    below : (x ≤ʳ y) ⊎ (y ≤ʳ x) → x ≤ʳ y
    below (inl h) = h
    below (inr h) = absurd (let k = h.holds in cc)

pub monus_adjoint : (x y z : Value) → zeroᵛ ≤ᵛ z → (monusᵛ x y ≤ᵛ z) ↔ (x ≤ᵛ z +ᵛ y)
unfolding monusᵛ ◌+ᵛ◌
monus_adjoint (finite x) (finite y) z p = monus_finite x y z (leqʳ y x) p refl
monus_adjoint (finite x) infinite (finite z) p = (λ h. ≤ᵛ_infinite (finite x), λ h. p)
monus_adjoint (finite x) infinite infinite p = (λ h. ≤ᵛ_infinite (finite x), λ h. p)
monus_adjoint infinite (finite y) (finite z) p = (λ h. absurd (infinite_above z h), λ h. absurd (infinite_above (z +ʳ y) h))
monus_adjoint infinite (finite y) infinite p = (λ h. h, λ h. h)
monus_adjoint infinite infinite (finite z) p = (λ h. ≤ᵛ_refl infinite, λ h. p)
monus_adjoint infinite infinite infinite p = (λ h. ≤ᵛ_refl infinite, λ h. p)
