-- The fraction 1/(e*m) times e*m is 1, for `e` and `m` above 0.
use Rattle.std.proofs.Common.{◌≡◌, ◌∙◌, ◌<◌, ◌*◌, ℕ, refl, sym, ap, subst, arith}
use Rattle.std.proofs.Math.IntN.{ℤ, pos, negsuc, ◌*ℤ◌}
use Rattle.std.proofs.Math.Nat.{mul-pos}
use Rattle.std.specs.Int.RustNames.{unsigned_abs}
use Rattle.std.specs.Prelude.{◌≤ℤ◌}
use borrow.Author.Differences.{ints}
use Prim.Native.Nat.{suc, zero}
use Rattle.heyvl_num.specs.Rational.{Rational, ratio, zeroʳ, oneʳ, ◌*ʳ◌, ◌≤ʳ◌, ◌<ʳ◌}
use Rattle.heyvl_num.proofs.exported.Rationals.{nonnegative_num, ratio-*, ratio_nonnegative, ratio_parts, ratio_same, ≤ʳ_refl}
use Rattle.heyvl_num.proofs.exported.Signs.{<ʳ-not, <ʳ-≤ʳ}
use Rattle.lower_rules.specs.Remainder.{one_part}

turned : (n d : ℕ) → (pos d *ℤ pos n) *ℤ pos 1 ≡ pos 1 *ℤ pos (n * d)
turned n d = omega (arith, ints)

of_ratio : (n d : ℕ) → 0 < n → 0 < d → ratio (pos d) n *ʳ ratio (pos n) d ≡ oneʳ
unfolding oneʳ
of_ratio n d p q = ratio-* (pos d) n (pos n) d p q ∙ ratio_same _ _ _ _ (mul-pos p q) (omega arith) (turned n d)

no_parts : (d : ℕ) → 0 < d → ratio (pos 0) d ≡ zeroʳ
unfolding zeroʳ
no_parts d p = ratio_same _ _ _ _ p (omega arith) (omega (arith, ints))

times : (n m : ℕ) → pos n *ℤ pos m ≡ pos (n * m)
times n m = omega (arith, ints)

whole_times : (e : Rational) (n m : ℕ) → e.num ≡ pos n → e *ʳ ratio (pos m) 1 ≡ ratio (pos (n * m)) e.den
whole_times e n m h =
    ap (λ x. x *ʳ ratio (pos m) 1) (sym (ratio_parts e) ∙ ap (λ k. ratio k e.den) h)
    ∙ (ratio-* (pos n) e.den (pos m) 1 e.positive (omega arith)
    ∙ (ap (λ k. ratio k (e.den * 1)) (times n m) ∙ ap (λ d. ratio (pos (n * m)) d) (omega arith)))

-- The part is not negative, and its product with the fraction and the number is 1.
pub record IsPart (e : Rational) (m : ℕ) (part : Rational) : Type 0 where
  pub nonnegative : zeroʳ ≤ʳ part
  pub undoes : part *ʳ (e *ʳ ratio (pos m) 1) ≡ oneʳ

pub part_of : (e : Rational) (m : ℕ) → zeroʳ <ʳ e → 0 < m → IsPart e m (one_part e m)
part_of e m above some = go e.num refl (nonnegative_num e (<ʳ-≤ʳ zeroʳ e above))
  where
    go : (n : ℤ) → e.num ≡ n → pos 0 ≤ℤ n → IsPart e m (ratio (pos e.den) (unsigned_abs n * m))
    go (pos zero) h q = absurd (<ʳ-not zeroʳ e above (subst (λ x. x ≤ʳ zeroʳ) (sym (sym (ratio_parts e) ∙ (ap (λ k. ratio k e.den) h ∙ no_parts e.den e.positive))) (≤ʳ_refl zeroʳ)))
    go (pos (suc k)) h q = record {
      nonnegative = ratio_nonnegative (pos e.den) (suc k * m) (mul-pos (omega arith) some) (omega (arith, ints));
      undoes = ap (λ x. ratio (pos e.den) (suc k * m) *ʳ x) (whole_times e (suc k) m h) ∙ of_ratio (suc k * m) e.den (mul-pos (omega arith) some) e.positive;
    }
    go (negsuc k) h q = absurd (omega (arith, ints))
