-- The inverse of a positive fraction. To import: `use Rattle.heyvl_num.proofs.Inverses.{inverse,
-- Inverse}`.
use Rattle.std.proofs.Common.{◌≡◌, ℕ, ◌*◌, ◌<◌, refl, sym, ap, ◌∙◌, arith, false}
use Rattle.std.specs.Prelude.{◌≤ℤ◌}
use Rattle.std.proofs.Math.IntN.{ℤ, pos, negsuc, ◌*ℤ◌}
use Rattle.std.proofs.Math.Nat.{mul-pos}
use borrow.Author.Differences.{ints}
use Prim.Native.Nat.{suc, zero}
use Rattle.heyvl_num.specs.Rational.{Rational, ratio, zeroʳ, oneʳ, ◌*ʳ◌, ◌≤ʳ◌}
use Rattle.heyvl_num.specs.Value.{is_zeroʳ, is_zero_num}
use Rattle.heyvl_num.proofs.Rationals.{ratio_parts, ratio-*, ratio_same, ratio_nonnegative, nonnegative_num}

-- A fraction whose product with `w` is 1.
pub record Inverse (w : Rational) : Type 0 where
  pub factor : Rational
  pub nonnegative : zeroʳ ≤ʳ factor
  pub undoes : factor *ʳ w ≡ oneʳ

turned : (n d : ℕ) → (pos d *ℤ pos n) *ℤ pos 1 ≡ pos 1 *ℤ pos (n * d)
turned n d = omega (arith, ints)

of_ratio : (n d : ℕ) → 0 < n → 0 < d → ratio (pos d) n *ʳ ratio (pos n) d ≡ oneʳ
unfolding oneʳ
of_ratio n d p q = ratio-* (pos d) n (pos n) d p q ∙ ratio_same _ _ _ _ (mul-pos p q) (omega arith) (turned n d)

pub inverse : (w : Rational) → zeroʳ ≤ʳ w → is_zeroʳ w ≡ false → Inverse w
unfolding is_zeroʳ
inverse w p e = go w.num refl (nonnegative_num w p) e
  where
    go : (n : ℤ) → w.num ≡ n → pos 0 ≤ℤ n → is_zero_num n ≡ false → Inverse w
    go (pos zero) h q f = absurd (cc)
    go (pos (suc n)) h q f = record {
      factor = ratio (pos w.den) (suc n);
      nonnegative = ratio_nonnegative (pos w.den) (suc n) (omega arith) (omega (arith, ints));
      undoes = ap (λ x. ratio (pos w.den) (suc n) *ʳ x) (sym (ratio_parts w) ∙ ap (λ m. ratio m w.den) h) ∙ of_ratio (suc n) w.den (omega arith) w.positive;
    }
    go (negsuc n) h q f = absurd (omega (arith, ints))
