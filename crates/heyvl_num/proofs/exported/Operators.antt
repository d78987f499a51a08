-- For the proofs of other crates: order and signs of the operators on values.
use Rattle.std.proofs.Common.{◌≡◌, true, false, cond, ◌⊎◌, inl, inr}
use Rattle.heyvl_num.specs.Value.{Value, zeroᵛ, leqᵛ, ◌≤ᵛ◌}
use Rattle.heyvl_num.specs.ValueOperators.{coimpliesᵛ}
use Rattle.heyvl_num.proofs.Values.{≤ᵛ_refl, ≤ᵛ_trans}
pub use Rattle.heyvl_num.proofs.ValueOperators.{order_cases, min_below_left, min_below_right, min_greatest, min_adjoint, min_mono, min_comm, max_above_left, max_above_right, max_least, max_adjoint, max_mono, max_comm, implies_top, implies_adjoint, implies_mono, coimplies_zero, coimplies_adjoint, coimplies_nonnegative, coimplies_mono, monus_adjoint}

pub coimplies_up : (x y y' : Value) → zeroᵛ ≤ᵛ x → y ≤ᵛ y' → coimpliesᵛ x y ≤ᵛ coimpliesᵛ x y'
coimplies_up x y y' p h = go (order_cases y' x)
  where
    go : ((leqᵛ y' x ≡ true) × (y' ≤ᵛ x)) ⊎ ((leqᵛ y' x ≡ false) × (x ≤ᵛ y')) → coimpliesᵛ x y ≤ᵛ coimpliesᵛ x y'
    go (inl k) = rw (coimplies_zero x y (≤ᵛ_trans y y' x h k.1), coimplies_zero x y' k.1) (≤ᵛ_refl zeroᵛ)
    go (inr k) = coimplies_mono x x y y' (≤ᵛ_trans zeroᵛ x y' p k.1) (≤ᵛ_refl x) h

pub coimplies_from : (x y : Value) → zeroᵛ ≤ᵛ x → zeroᵛ ≤ᵛ coimpliesᵛ x y
unfolding coimpliesᵛ
coimplies_from x y p = go (order_cases y x)
  where
    go : ((leqᵛ y x ≡ true) × (y ≤ᵛ x)) ⊎ ((leqᵛ y x ≡ false) × (x ≤ᵛ y)) → zeroᵛ ≤ᵛ cond (leqᵛ y x) zeroᵛ y
    go (inl k) = rw k.0 (≤ᵛ_refl zeroᵛ)
    go (inr k) = rw k.0 (≤ᵛ_trans zeroᵛ x y p k.1)
