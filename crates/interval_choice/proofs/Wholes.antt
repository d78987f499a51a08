-- Integers as fractions.
use Prim.Native.Nat.{suc}
use Rattle.std.proofs.Common.{◌≡◌, ℕ, ◌<◌, refl, sym, Bool, true, false}
use Rattle.std.specs.Prelude.{pos, negsuc}
use Rattle.std.proofs.Math.Nat.{zero-lt-suc}
use Rattle.heyvl_num.specs.Rational.{Rational, zeroʳ, oneʳ, negʳ, leqʳ, ◌≤ʳ◌, ◌<ʳ◌}
use Rattle.heyvl_num.specs.Rounding.{whole}
use Rattle.heyvl_num.proofs.exported.Rationals.{ratio-neg}

pub whole-zero : whole (pos 0) ≡ zeroʳ
unfolding whole zeroʳ
whole-zero = refl

pub whole-negative : (n : ℕ) → whole (negsuc n) ≡ negʳ (whole (pos (suc n)))
unfolding whole
whole-negative n = sym (ratio-neg (pos (suc n)) 1 (zero-lt-suc 0))

pub whole-one : whole (pos 1) ≡ oneʳ
unfolding whole oneʳ
whole-one = refl

pub less_from : {x y : Rational} → (y ≤ʳ x → ⊥) → x <ʳ y
less_from {x} {y} n = record { holds = go (leqʳ y x) refl }
  where
    go : (b : Bool) → leqʳ y x ≡ b → leqʳ y x ≡ false
    go true e = absurd (n (record { holds = e }))
    go false e = e
