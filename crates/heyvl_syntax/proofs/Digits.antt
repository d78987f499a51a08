-- Numbers as decimal digits, and the limit of literals.
use Rattle.heyvl_syntax.specs.internal.Fronts.{below_limit}
use Rattle.heyvl_syntax.specs.Literals.{fraction, is_too_large, whole, with_digit, without_last_zeros}
use Rattle.std.proofs.Common.{Bool, List, None, Some, [], ap, arith, cond, drop, false, fold, get_or, length, nat_eq, nat_le, nat_lt, refl, true, ◌&&◌, ◌++◌, ◌+◌, ◌<◌, ◌^◌, ◌∷◌, ◌≡◌, ◌≤◌, ℕ}
use Rattle.std.proofs.lemmas.Bool.Decides.{nat_tests}
use Rattle.std.proofs.lemmas.List.Sums.{fold-append}
use Rattle.std.proofs.lemmas.List.{at_drop_more}
use Rattle.std.specs.List.{list_all}

-- More digits never make a smaller number.
pub grows : (n : ℕ) (digits : List ℕ) → n ≤ fold with_digit n digits
grows n [] = omega arith
grows n (d ∷ ds) = omega (arith, grows (with_digit n d) ds)

pub kept-le : (n : ℕ) (digits : List ℕ) → fold with_digit n (without_last_zeros digits) ≤ fold with_digit n digits
kept-le n [] = omega arith
kept-le n (d ∷ ds) = pick (list_all (nat_eq 48) (d ∷ ds)) (kept-le (with_digit n d) ds)
  where
    pick : (all : Bool) → fold with_digit (with_digit n d) (without_last_zeros ds) ≤ fold with_digit (with_digit n d) ds → fold with_digit n (cond all [] (d ∷ without_last_zeros ds)) ≤ fold with_digit n (d ∷ ds)
    pick true h = grows n (d ∷ ds)
    pick false h = h

pub over_limit : (n : ℕ) → below_limit n ≡ None → 2 ^ 127 ≤ n
over_limit n h = pick (nat_lt n (2 ^ 127)) refl h
  where
    pick : (small : Bool) → nat_lt n (2 ^ 127) ≡ small → cond small (Some n) None ≡ None → 2 ^ 127 ≤ n
    pick true e h = cc
    pick false e h = grind (arith, nat_tests)

pub none_over_limit : (n : ℕ) → 2 ^ 127 ≤ n → below_limit n ≡ None
none_over_limit n h = let e : nat_lt n (2 ^ 127) ≡ false = grind (arith, nat_tests) in rw e refl

-- If the first `k` + 1 digits make a number beyond the limit, so do all.
pub over_early : (start n : ℕ) (digits : List ℕ) (k : ℕ) → k < length digits → fold with_digit start digits ≡ fold with_digit n (drop k digits) → below_limit (with_digit n (get_or digits k 0)) ≡ None → below_limit (fold with_digit start digits) ≡ None
over_early start n digits k lt e over =
    let step : fold with_digit n (drop k digits) ≡ fold with_digit (with_digit n (get_or digits k 0)) (drop (k + 1) digits) = at_drop_more (fold with_digit n) digits k 0 lt in
    let more = grows (with_digit n (get_or digits k 0)) (drop (k + 1) digits) in
    let large = over_limit (with_digit n (get_or digits k 0)) over in
    none_over_limit (fold with_digit start digits) (rw (e, step) (omega arith))

all_zeros-push : (digits : List ℕ) → list_all (nat_eq 48) (digits ++ 48 ∷ []) ≡ list_all (nat_eq 48) digits
all_zeros-push [] = refl
all_zeros-push (d ∷ ds) = ap (λ z. nat_eq 48 d && z) (all_zeros-push ds)

pub zero_falls : (digits : List ℕ) → without_last_zeros (digits ++ 48 ∷ []) ≡ without_last_zeros digits
zero_falls [] = refl
zero_falls (d ∷ ds) = rw (all_zeros-push ds, zero_falls ds) refl

not_all_zeros : (digits : List ℕ) (d : ℕ) → nat_eq 48 d ≡ false → list_all (nat_eq 48) (digits ++ d ∷ []) ≡ false
not_all_zeros [] d h = rw h refl
not_all_zeros (x ∷ xs) d h = pick (nat_eq 48 x) (not_all_zeros xs d h)
  where
    pick : (zero : Bool) → list_all (nat_eq 48) (xs ++ d ∷ []) ≡ false → (zero && list_all (nat_eq 48) (xs ++ d ∷ [])) ≡ false
    pick true e = e
    pick false e = refl

pub other_stays : (digits : List ℕ) (d : ℕ) → nat_eq 48 d ≡ false → without_last_zeros (digits ++ d ∷ []) ≡ digits ++ d ∷ []
other_stays [] d h = rw h refl
other_stays (x ∷ xs) d h =
    let rest = not_all_zeros (x ∷ xs) d h in
    rw (rest, other_stays xs d h) refl

pub in_limit : (n m : ℕ) → below_limit n ≡ Some m → (n ≡ m) × (n < 2 ^ 127)
in_limit n m h = pick (nat_lt n (2 ^ 127)) refl h
  where
    pick : (small : Bool) → nat_lt n (2 ^ 127) ≡ small → cond small (Some n) None ≡ Some m → (n ≡ m) × (n < 2 ^ 127)
    pick true e h = (cc, grind (arith, nat_tests))
    pick false e h = cc

-- If the digits before the point alone make a number beyond the limit, the text exceeds the limits.
pub too_large_whole : (text : List ℕ) → below_limit (fold with_digit 0 (whole text)) ≡ None → is_too_large text ≡ true
too_large_whole text h =
    let large = over_limit (fold with_digit 0 (whole text)) h in
    let more = grows (fold with_digit 0 (whole text)) (fraction text) in
    let all : fold with_digit 0 (whole text ++ fraction text) ≡ fold with_digit (fold with_digit 0 (whole text)) (fraction text) = fold-append with_digit 0 (whole text) (fraction text) in
    let e : nat_le (2 ^ 127) (fold with_digit 0 (whole text ++ fraction text)) ≡ true = grind (arith, nat_tests) in
    rw e refl

-- The digits without trailing zeros make no larger number than all digits.
pub kept_in_limit : (start m : ℕ) (digits : List ℕ) → below_limit (fold with_digit start digits) ≡ Some m → below_limit (fold with_digit start (without_last_zeros digits)) ≡ None → ⊥
kept_in_limit start m digits h none =
    let small = in_limit (fold with_digit start digits) m h in
    let large = over_limit (fold with_digit start (without_last_zeros digits)) none in
    let less = kept-le start digits in
    omega (arith, small.1)
