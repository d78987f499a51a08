-- The greatest common divisor of a sum's coefficients, and the sum divided by a number.
use Rattle.std.specs.Prelude.{ℕ, List, [], ◌∷◌, map, ℤ, pos, unsigned_abs}
use Rattle.std.specs.Int.RustNames.{int_div}
use Prim.Native.Nat.{zero, suc}
use Rattle.heyvl_num.specs.Gcd.{gcd}

-- `common ts n`: the greatest common divisor of `n` and all coefficients of `ts`; 0 if all of them
-- are 0.
unfoldable pub common : List (ℕ × ℤ) → ℕ → ℕ
common [] n = n
common (t ∷ ts) n = gcd (unsigned_abs t.1) (common ts n)

-- `or_one n`: `n`, but 1 in place of 0.
abbrev pub or_one : ℕ → ℕ
or_one zero = 1
or_one (suc n) = suc n

-- `divisor ts n`: the greatest common divisor of `n` and all coefficients of `ts`, or 1 if all of
-- them are 0. For `6*x - 9*y` and 12 it is 3.
abbrev pub divisor : List (ℕ × ℤ) → ℕ → ℕ
divisor ts n = or_one (common ts n)

-- `divided_terms g ts`: `ts` with each coefficient divided by `g`, rounded toward 0. For `g` = 3
-- and `6*x - 9*y` it is `2*x - 3*y`.
abbrev pub divided_terms : ℕ → List (ℕ × ℤ) → List (ℕ × ℤ)
divided_terms g ts = map (λ (t : ℕ × ℤ). (t.0, int_div t.1 (pos g))) ts
