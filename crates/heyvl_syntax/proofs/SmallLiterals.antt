-- Literals within the limits.
use Rattle.heyvl_syntax.proofs.Digits.{kept-le}
use Rattle.heyvl_syntax.proofs.Runs.{and_left, and_right, run_ends, run_stops}
use Rattle.heyvl_syntax.specs.Bytes.{is_point}
use Rattle.heyvl_syntax.specs.Literals.{IsInLimits, IsNumber, fraction, is_too_large, literal, number, whole, with_digit, without_last_zeros}
use Rattle.std.proofs.Common.{Bool, List, [], arith, cond, false, fold, inl, inr, length, nat_eq, nat_le, nat_lt, not, refl, subst, suc, true, ◌%◌, ◌&&◌, ◌++◌, ◌+◌, ◌<◌, ◌^◌, ◌||◌, ◌∙◌, ◌∷◌, ◌≡◌, ◌≤◌, ap, ℕ}
use Rattle.std.proofs.Math.Seq.{drop-append-add}
use Rattle.std.proofs.lemmas.Bool.Decides.{nat_tests}
use Rattle.std.proofs.lemmas.List.Sums.{fold-append, fold_push}
use Rattle.std.proofs.lemmas.List.{append-nil, drop_all}
use Rattle.std.specs.Char.{is_ascii_digit}
use Rattle.std.specs.List.{list_all, position_or_len}

no_point : (b : ℕ) → is_ascii_digit b ≡ true → not (is_point b) ≡ true
no_point b h = grind (arith, nat_tests)

no_points : (text : List ℕ) → list_all is_ascii_digit text ≡ true → list_all (λ b. not (is_point b)) text ≡ true
no_points [] h = refl
no_points (b ∷ bs) h =
    let here = no_point b (and_left (is_ascii_digit b) (list_all is_ascii_digit bs) h) in
    rw (here, no_points bs (and_right (is_ascii_digit b) (list_all is_ascii_digit bs) h)) refl

-- The characters after the point are digits.
no_fraction : (text : List ℕ) → list_all is_ascii_digit text ≡ true → fraction text ≡ []
no_fraction text h =
    let point : position_or_len is_point text ≡ length text = subst (λ (z : List ℕ). position_or_len is_point z ≡ length text) (append-nil text) (run_ends (λ b. not (is_point b)) text (no_points text h)) in
    drop_all (position_or_len is_point text + 1) text (omega (arith, point))

fraction_behind : (front behind : List ℕ) → list_all is_ascii_digit front ≡ true → fraction (front ++ 46 ∷ behind) ≡ behind
fraction_behind front behind h =
    let point : position_or_len is_point (front ++ 46 ∷ behind) ≡ length front = run_stops (λ b. not (is_point b)) front behind 46 (no_points front h) refl in
    rw point (drop-append-add front (46 ∷ behind) 1)

fraction_digits : (text : List ℕ) → IsNumber text → list_all is_ascii_digit (fraction text) ≡ true
fraction_digits text (inl digits) = rw (no_fraction text digits.1) refl
fraction_digits text (inr (front, behind, digits, more, same)) = rw (same, fraction_behind front behind digits.1) more.1

-- Digits without trailing zeros are empty or end in another digit.
pub record EndsInDigit (digits : List ℕ) : Type 0 where
  pub front : List ℕ
  pub last : ℕ
  pub same : digits ≡ front ++ last ∷ []
  pub other : nat_eq 48 last ≡ false
  pub digit : is_ascii_digit last ≡ true

kept_shorter : (digits : List ℕ) → length (without_last_zeros digits) ≤ length digits
kept_shorter [] = omega arith
kept_shorter (d ∷ ds) = pick (list_all (nat_eq 48) (d ∷ ds)) (kept_shorter ds)
  where
    pick : (zeros : Bool) → length (without_last_zeros ds) ≤ length ds → length (cond zeros [] (d ∷ without_last_zeros ds)) ≤ suc (length ds)
    pick true h = omega arith
    pick false h = omega arith

all_zeros : (digits : List ℕ) → without_last_zeros digits ≡ [] → list_all (nat_eq 48) digits ≡ true
all_zeros [] h = refl
all_zeros (d ∷ ds) h = pick (list_all (nat_eq 48) (d ∷ ds)) h
  where
    pick : (zeros : Bool) → cond zeros [] (d ∷ without_last_zeros ds) ≡ [] → zeros ≡ true
    pick true e = refl
    pick false e = absurd (cc)

and_true : (x y : Bool) → x && y ≡ false → y ≡ true → x ≡ false
and_true true y h e = absurd (cc)
and_true false y h e = refl

more_digits : (d : ℕ) (digits : List ℕ) → EndsInDigit digits → EndsInDigit (d ∷ digits)
more_digits d digits ends = record { front = d ∷ ends.front; last = ends.last; same = ap (λ (z : List ℕ). d ∷ z) ends.same; other = ends.other; digit = ends.digit }

kept_ends : (digits : List ℕ) → list_all is_ascii_digit digits ≡ true → 0 < length (without_last_zeros digits) → EndsInDigit (without_last_zeros digits)
kept_ends [] all some = absurd (omega arith)
kept_ends (d ∷ ds) all some = pick (list_all (nat_eq 48) (d ∷ ds)) refl some (kept_ends ds (and_right (is_ascii_digit d) (list_all is_ascii_digit ds) all))
  where
    by_tail : (kept : List ℕ) → without_last_zeros ds ≡ kept → list_all (nat_eq 48) (d ∷ ds) ≡ false → (0 < length (without_last_zeros ds) → EndsInDigit (without_last_zeros ds)) → EndsInDigit (d ∷ without_last_zeros ds)
    by_tail [] e zeros later = record {
      front = [];
      last = d;
      same = ap (λ (z : List ℕ). d ∷ z) e;
      other = and_true (nat_eq 48 d) (list_all (nat_eq 48) ds) zeros (all_zeros ds e);
      digit = and_left (is_ascii_digit d) (list_all is_ascii_digit ds) all;
    }
    by_tail (k ∷ ks) e zeros later = more_digits d (without_last_zeros ds) (later (rw e (omega arith)))

    pick : (zeros : Bool) → list_all (nat_eq 48) (d ∷ ds) ≡ zeros → 0 < length (cond zeros [] (d ∷ without_last_zeros ds)) → (0 < length (without_last_zeros ds) → EndsInDigit (without_last_zeros ds)) → EndsInDigit (cond zeros [] (d ∷ without_last_zeros ds))
    pick true e some later = absurd (omega arith)
    pick false e some later = by_tail (without_last_zeros ds) refl e later

digit_from : (b : ℕ) → is_ascii_digit b ≡ true → 48 ≤ b
digit_from b h = grind (arith, nat_tests)

digit_to : (b : ℕ) → is_ascii_digit b ≡ true → b ≤ 57
digit_to b h = grind (arith, nat_tests)

not_zero : (b : ℕ) → nat_eq 48 b ≡ false → 48 ≡ b → ⊥
not_zero b h e = grind (arith, nat_tests)

last_counts : (n last : ℕ) → nat_eq 48 last ≡ false → is_ascii_digit last ≡ true → 0 < with_digit n last % 10
last_counts n last other digit =
    let low = digit_from last digit in
    let high = digit_to last digit in
    let apart = not_zero last other in
    omega arith

ends_counts : (front digits : List ℕ) → EndsInDigit digits → 0 < number (front ++ digits) % 10
ends_counts front digits ends =
    let all : number (front ++ digits) ≡ fold with_digit (number front) digits = fold-append with_digit 0 front digits in
    let push : fold with_digit (number front) digits ≡ with_digit (fold with_digit (number front) ends.front) ends.last = ap (fold with_digit (number front)) ends.same ∙ fold_push with_digit (number front) ends.front ends.last in
    rw (all, push) (last_counts (fold with_digit (number front) ends.front) ends.last ends.other ends.digit)

within_limits : (large : ℕ) (places : ℕ) → nat_le (2 ^ 127) large || nat_lt 38 places ≡ false → (large < 2 ^ 127) × (places ≤ 38)
within_limits large places h = pick (nat_le (2 ^ 127) large) (nat_lt 38 places) refl refl h
  where
    pick : (x y : Bool) → nat_le (2 ^ 127) large ≡ x → nat_lt 38 places ≡ y → x || y ≡ false → (large < 2 ^ 127) × (places ≤ 38)
    pick true y e f h = absurd (cc)
    pick false true e f h = absurd (cc)
    pick false false e f h = (grind (arith, nat_tests), grind (arith, nat_tests))

pub literal_in_limits : (text : List ℕ) → IsNumber text → is_too_large text ≡ false → IsInLimits (literal text)
literal_in_limits text is h =
    let limits = within_limits (number (whole text ++ fraction text)) (length (fraction text)) h in
    let kept : number (whole text ++ without_last_zeros (fraction text)) ≡ fold with_digit (number (whole text)) (without_last_zeros (fraction text)) = fold-append with_digit 0 (whole text) (without_last_zeros (fraction text)) in
    let all : number (whole text ++ fraction text) ≡ fold with_digit (number (whole text)) (fraction text) = fold-append with_digit 0 (whole text) (fraction text) in
    let le = kept-le (number (whole text)) (fraction text) in
    record {
      digits = number (whole text ++ without_last_zeros (fraction text));
      same = refl;
      small = omega (arith, limits.0, kept, all, le);
      short = omega (arith, limits.1, kept_shorter (fraction text));
      no_last_zero = λ some. ends_counts (whole text) (without_last_zeros (fraction text)) (kept_ends (fraction text) (fraction_digits text is) some);
    }
