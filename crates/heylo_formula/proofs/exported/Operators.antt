-- For the proofs of other crates: validate and covalidate are monotone and nonnegative.
use Rattle.std.proofs.Common.{◌≡◌, refl, sym, ap, subst, Bool, true, false, cond, ◌⊎◌, inl, inr}
use Rattle.heyvl_num.specs.Rational.{zeroʳ}
use Rattle.heyvl_num.specs.Value.{Value, zeroᵛ, is_zeroʳ, ◌≤ᵛ◌}
use Rattle.heyvl_num.specs.Value.Value.{finite, infinite}
use Rattle.heyvl_num.proofs.exported.Values.{is_zero-zero, is_zero-is, ≤ᵛ_refl, ≤ᵛ_infinite, ≤ᵛ_antisym, infinite_above}
use Rattle.heylo_formula.specs.Operators.{validateᵛ, covalidateᵛ}
pub use Rattle.heylo_formula.proofs.TypedValues.{validate_nonnegative, covalidate_nonnegative}

pub covalidate_two : (x : Value) → (x ≡ zeroᵛ) ⊎ (covalidateᵛ x ≡ infinite)
unfolding covalidateᵛ zeroᵛ
covalidate_two infinite = inr refl
covalidate_two (finite q) = go (is_zeroʳ q) refl
  where
    go : (t : Bool) → is_zeroʳ q ≡ t → (finite q ≡ finite zeroʳ) ⊎ (cond (is_zeroʳ q) (finite zeroʳ) infinite ≡ infinite)
    go true e = inl (ap finite (is_zero-is q e))
    go false e = inr (rw e)

pub covalidate_zero : covalidateᵛ zeroᵛ ≡ zeroᵛ
unfolding covalidateᵛ zeroᵛ
covalidate_zero = rw is_zero-zero

pub covalidate_up : (x y : Value) → zeroᵛ ≤ᵛ x → x ≤ᵛ y → covalidateᵛ x ≤ᵛ covalidateᵛ y
covalidate_up x y p h = go (covalidate_two y)
  where
    go : (y ≡ zeroᵛ) ⊎ (covalidateᵛ y ≡ infinite) → covalidateᵛ x ≤ᵛ covalidateᵛ y
    go (inl e) = let f : x ≡ y = ≤ᵛ_antisym x y h (subst (λ u. u ≤ᵛ x) (sym e) p) in subst (λ u. covalidateᵛ x ≤ᵛ covalidateᵛ u) f (≤ᵛ_refl (covalidateᵛ x))
    go (inr e) = rw e (≤ᵛ_infinite (covalidateᵛ x))

pub validate_two : (x : Value) → (x ≡ infinite) ⊎ (validateᵛ x ≡ zeroᵛ)
unfolding validateᵛ
validate_two (finite q) = inr refl
validate_two infinite = inl refl

pub validate_infinite : validateᵛ infinite ≡ infinite
unfolding validateᵛ
validate_infinite = refl

pub validate_up : (x y : Value) → x ≤ᵛ y → validateᵛ x ≤ᵛ validateᵛ y
unfolding validateᵛ
validate_up (finite x) (finite y) h = ≤ᵛ_refl zeroᵛ
validate_up (finite x) infinite h = ≤ᵛ_infinite zeroᵛ
validate_up infinite (finite y) h = absurd (infinite_above y h)
validate_up infinite infinite h = ≤ᵛ_refl infinite
