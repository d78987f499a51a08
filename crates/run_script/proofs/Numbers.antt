-- Numbers that a script writes in digits, below a limit.
use Rattle.heyvl_num.specs.Exact.{exact_quotient, is_small, quotient, quotient_fits}
use Rattle.heyvl_num.specs.Rational.{ratio}
use Rattle.heyvl_syntax.specs.Literals.{with_digit}
use Rattle.run_script.specs.Lines.{below}
use Rattle.std.proofs.Common.{Bool, List, None, Some, [], arith, cond, drop, false, fold, get_or, length, if◌then◌else◌, nat_lt, pos, refl, of_z, to_z, true, unsigned_abs, ◌+◌, ◌<◌, ◌==◌, ◌^◌, ◌∷◌, ◌≡◌, ◌≤◌, ℕ, ℤ}
use Prim.Native.Nat.{suc, zero}
use Rattle.std.proofs.lemmas.Bool.Decides.{nat_tests}
use Rattle.std.proofs.lemmas.Bool.{lt-ltb}
use Rattle.std.proofs.lemmas.Int.{fits_signed_from_abs, to_z-of_z}
use Rattle.std.proofs.lemmas.List.{at_drop_more}
use Rattle.std.specs.Int.{w128}

pub grows : (n : ℕ) (digits : List ℕ) → n ≤ fold with_digit n digits
grows n [] = omega arith
grows n (d ∷ ds) = omega (arith, grows (with_digit n d) ds)

over : (limit n : ℕ) → below limit n ≡ None → limit ≤ n
over limit n h = pick (nat_lt n limit) refl h
  where
    pick : (small : Bool) → nat_lt n limit ≡ small → cond small (Some n) None ≡ None → limit ≤ n
    pick true e h = cc
    pick false e h = grind (arith, nat_tests)

none_over : (limit n : ℕ) → limit ≤ n → below limit n ≡ None
none_over limit n h = let e : nat_lt n limit ≡ false = grind (arith, nat_tests) in rw e refl

-- If the first digits make a number that is not below the limit, so do all digits.
pub over_early : (limit start n : ℕ) (digits : List ℕ) (k : ℕ) → k < length digits → fold with_digit start digits ≡ fold with_digit n (drop k digits) → below limit (with_digit n (get_or digits k 0)) ≡ None → below limit (fold with_digit start digits) ≡ None
over_early limit start n digits k lt e h =
    let step : fold with_digit n (drop k digits) ≡ fold with_digit (with_digit n (get_or digits k 0)) (drop (k + 1) digits) = at_drop_more (fold with_digit n) digits k 0 lt in
    let more = grows (with_digit n (get_or digits k 0)) (drop (k + 1) digits) in
    let large = over limit (with_digit n (get_or digits k 0)) h in
    none_over limit (fold with_digit start digits) (rw (e, step) (omega arith))

-- Small numbers make a fraction, unless the denominator is 0.
fraction_known : (a : ℤ) (d : ℕ) → unsigned_abs a < 2 ^ 126 → d < 2 ^ 126 → exact_quotient a (pos d) ≡ (if d == 0 then None else Some (ratio a d))
unfolding exact_quotient quotient_fits quotient
fraction_known a zero h k = refl
fraction_known a (suc d) h k =
    let first : is_small a ≡ true = lt-ltb (unsigned_abs a) (2 ^ 127) (omega arith) in
    let second : is_small (pos (suc d)) ≡ true = lt-ltb (suc d) (2 ^ 127) (omega arith) in
    let other : (suc d == 0) ≡ false = grind (arith, nat_tests) in
    rw (first, second, other) refl

pub fraction_exact : (a b : ℤ) (d : ℕ) → b ≡ pos d → unsigned_abs a < 2 ^ 126 → d < 2 ^ 126 → exact_quotient (to_z w128 (of_z w128 a)) (to_z w128 (of_z w128 b)) ≡ (if d == 0 then None else Some (ratio a d))
fraction_exact a b d e h k =
    rw (e, to_z-of_z w128 a (fits_signed_from_abs w128 a (omega arith)), to_z-of_z w128 (pos d) (fits_signed_from_abs w128 (pos d) (omega arith)))
    (fraction_known a d h k)
