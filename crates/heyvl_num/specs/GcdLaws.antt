-- Laws of the greatest common divisor.
use Rattle.std.proofs.Common.{◌≡◌, ℕ, ◌*◌, ◌/◌, ◌≤◌, ◌<◌, ◌%◌, refl, sym, ◌∙◌, subst, ap₂, arith}
use Prim.Native.Nat.{suc, zero, ◌∣◌}
use Rattle.std.specs.Int.{IsGcd}
use Rattle.std.proofs.lemmas.Nat.Gcd.{IsGcd-from_zero, IsGcd-from_mod, dvd_antisymm}
use Rattle.std.proofs.lemmas.Nat.Gcd.{same_from_IsGcd}
use Rattle.std.proofs.Math.Nat.{mod-lt, zero-lt-suc, div-mul_cancel, dvd_of_mul-dvd-mul_right}
use Rattle.std.proofs.Math.Nat.{mul-dvd-mul_right, dvd-mul_left, mul-div-mul_right}
use Rattle.std.proofs.Math.Nat.{pos_of_dvd_of_pos, eq_of_mul-eq-mul_right, one-mul}
use Rattle.heyvl_num.specs.Gcd.{gcd_steps, gcd}

gcd_steps-is : (f a b : ℕ) → b ≤ f → IsGcd a b (gcd_steps f a b)
unfolding gcd_steps
gcd_steps-is zero a b h = IsGcd-from_zero a b (omega arith)
gcd_steps-is (suc f) a zero h = IsGcd-from_zero a zero refl
gcd_steps-is (suc f) a (suc b) h = IsGcd-from_mod a (suc b) _
    (gcd_steps-is f (suc b) (a % suc b) (omega (arith, mod-lt a (zero-lt-suc b))))

-- Euclid's algorithm yields the greatest common divisor.
pub gcd-is : (a b : ℕ) → IsGcd a b (gcd a b)
unfolding gcd
gcd-is a b = gcd_steps-is b a b (omega arith)

-- A positive factor of both numbers is a factor of their greatest common divisor.
pub gcd-mul : (a b k : ℕ) → 0 < k → gcd (a * k) (b * k) ≡ gcd a b * k
gcd-mul a b k p =
    let h = gcd-is (a * k) (b * k) in
    let g = gcd-is a b in
    let d : k ∣ gcd (a * k) (b * k) = h.2 k (dvd-mul_left k a) (dvd-mul_left k b) in
    let e : gcd (a * k) (b * k) / k * k ≡ gcd (a * k) (b * k) = div-mul_cancel k d in
    dvd_antisymm
    (subst (λ (x : ℕ). x ∣ gcd a b * k) e
    (mul-dvd-mul_right (gcd (a * k) (b * k) / k)
    (g.2 _ (dvd_of_mul-dvd-mul_right {k = k} _ p (subst (λ (x : ℕ). x ∣ a * k) (sym e) h.0))
    (dvd_of_mul-dvd-mul_right {k = k} _ p (subst (λ (x : ℕ). x ∣ b * k) (sym e) h.1))) k))
    (h.2 _ (mul-dvd-mul_right (gcd a b) g.0 k) (mul-dvd-mul_right (gcd a b) g.1 k))

-- The greatest common divisor is positive if the second number is.
pub gcd-pos : (a b : ℕ) → 0 < b → 0 < gcd a b
gcd-pos a b p = pos_of_dvd_of_pos (gcd-is a b).1 p

-- The first number divided by the greatest common divisor, times the divisor, is the first number.
pub quotient_num : (a b : ℕ) → a / gcd a b * gcd a b ≡ a
quotient_num a b = div-mul_cancel (gcd a b) (gcd-is a b).0

-- The second number divided by the greatest common divisor, times the divisor, is the second
-- number.
pub quotient_den : (a b : ℕ) → b / gcd a b * gcd a b ≡ b
quotient_den a b = div-mul_cancel (gcd a b) (gcd-is a b).1

-- Divided by their greatest common divisor, two numbers have the greatest common divisor 1, if the
-- second one is positive.
pub gcd-quotients : (a b : ℕ) → 0 < b → gcd (a / gcd a b) (b / gcd a b) ≡ 1
gcd-quotients a b p = eq_of_mul-eq-mul_right (gcd a b) (gcd-pos a b p) _ _
    (sym (gcd-mul (a / gcd a b) (b / gcd a b) (gcd a b) (gcd-pos a b p)) ∙ ap₂ gcd
    (quotient_num a b) (quotient_den a b) ∙ sym (one-mul (gcd a b)))

factor_pos : (x y : ℕ) → 0 < x * y → 0 < x
factor_pos zero y h = absurd (omega arith)
factor_pos (suc x) y h = zero-lt-suc x

-- The second number divided by the greatest common divisor is positive if the number is.
pub quotient_den-pos : (a b : ℕ) → 0 < b → 0 < b / gcd a b
quotient_den-pos a b p = factor_pos (b / gcd a b) (gcd a b) (omega (arith, quotient_den a b))

-- Multiplying both numbers by `d` does not change the first one divided by their greatest common
-- divisor.
pub quotient_scale : (a b d : ℕ) → 0 < d → (a * d) / gcd (a * d) (b * d) ≡ a / gcd a b
quotient_scale a b d p = rw (gcd-mul a b d p) (mul-div-mul_right a (gcd a b) p)

-- Multiplying both numbers by `d` does not change the second one divided by their greatest common
-- divisor.
pub quotient_scale_den : (a b d : ℕ) → 0 < d → (b * d) / gcd (a * d) (b * d) ≡ b / gcd a b
quotient_scale_den a b d p = rw (gcd-mul a b d p) (mul-div-mul_right b (gcd a b) p)

-- One step of Euclid's algorithm does not change the greatest common divisor.
pub gcd-mod : (a b : ℕ) → gcd a b ≡ gcd b (a % b)
gcd-mod a b = same_from_IsGcd a b _ _ (gcd-is a b) (IsGcd-from_mod a b _ (gcd-is b (a % b)))

-- The greatest common divisor of a number and 0 is the number.
pub gcd-zero : (a : ℕ) → gcd a 0 ≡ a
gcd-zero a = same_from_IsGcd a 0 _ _ (gcd-is a 0) (IsGcd-from_zero a 0 refl)
