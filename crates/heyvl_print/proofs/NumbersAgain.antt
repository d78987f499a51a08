-- The text of a number is read as the same number.
use Rattle.heyvl_print.specs.Numbers.{number_text, padded, pointed}
use Rattle.heyvl_syntax.proofs.exported.Digits.{other_stays}
use Rattle.heyvl_syntax.proofs.exported.Runs.{and_left, and_right, run_ends, run_stops}
use Rattle.heyvl_syntax.proofs.exported.TokenReads.{Reads, ends_number, number_reads}
use Rattle.heyvl_syntax.specs.Bytes.{is_point}
use Rattle.heyvl_syntax.specs.Literals.{IsInLimits, IsNumber, fraction, is_too_large, literal, number, whole, with_digit, without_last_zeros}
use Rattle.heyvl_syntax.specs.declared.literals.Lit.{Lit}
use Rattle.heyvl_syntax.specs.declared.tokens.TokenKind.TheVariants as kinds
use Rattle.std.proofs.Common.{List, [], ap, append_assoc, arith, drop, false, inl, inr, length, nat_eq, nat_le, nat_lt, not, pos, refl, replicate, subst, suc, sym, take, true, unsigned_abs, zero, ◌%◌, ◌++◌, ◌+◌, ◌-◌, ◌/◌, ◌<◌, ◌==◌, ◌^◌, ◌∙◌, ◌∷◌, ◌≡◌, ◌≤◌, ◌||◌, ℕ, ℤ}
use Rattle.std.proofs.Math.Seq.{drop-append-add, take-append_seam}
use Rattle.std.proofs.lemmas.Bool.Decides.{nat_tests}
use Rattle.std.proofs.lemmas.Fmt.{decimal_by_steps_wide}
use Rattle.std.proofs.lemmas.List.Sums.{fold-append}
use Rattle.std.proofs.lemmas.List.{append-nil, drop-append-le, drop_all, length-append, length-drop, length-replicate, length-take-le, take-append-drop, take_all}
use Rattle.std.specs.Char.{is_ascii_digit}
use Rattle.std.specs.Fmt.{decimal}
use Rattle.std.specs.List.{list_all, position_or_len}

-- `digits` are the decimal digits of `n`, possibly after zeros, and end in the last digit of `n`.
pub record Writes (n : ℕ) (digits : List ℕ) : Type 0 where
  pub value : number digits ≡ n
  pub all : list_all is_ascii_digit digits ≡ true
  pub front : List ℕ
  pub ends : digits ≡ front ++ (48 + n % 10) ∷ []

all_append : (xs ys : List ℕ) → list_all is_ascii_digit xs ≡ true → list_all is_ascii_digit ys ≡ true → list_all is_ascii_digit (xs ++ ys) ≡ true
all_append [] ys h k = k
all_append (x ∷ xs) ys h k =
    let here = and_left (is_ascii_digit x) (list_all is_ascii_digit xs) h in
    let later = all_append xs ys (and_right (is_ascii_digit x) (list_all is_ascii_digit xs) h) k in
    rw (here, later) refl

digit_is : (d : ℕ) → d < 10 → is_ascii_digit (48 + d) ≡ true
digit_is d h = grind (arith, nat_tests)

one_digit : (n : ℕ) → n < 10 → Writes n ((48 + n) ∷ [])
one_digit n h = record {
  value = omega arith;
  all = rw (digit_is n h) refl;
  front = [];
  ends = let e : 48 + n ≡ 48 + n % 10 = omega arith in ap (λ (z : ℕ). z ∷ []) e;
}

more_digits : (n : ℕ) (digits : List ℕ) → 10 ≤ n → Writes (n / 10) digits → Writes n (digits ++ ((48 + n % 10) ∷ []))
more_digits n digits h w = record {
  value = fold-append with_digit 0 digits ((48 + n % 10) ∷ []) ∙ (let v = w.value in omega (arith, v));
  all = all_append digits ((48 + n % 10) ∷ []) w.all (rw (digit_is (n % 10) (omega arith)) refl);
  front = digits;
  ends = refl;
}

pub decimal_writes : (n : ℕ) → n < 10 ^ 64 → Writes n (decimal n)
decimal_writes n h = decimal_by_steps_wide Writes one_digit more_digits n h

zeros_value : (k : ℕ) (digits : List ℕ) → number (replicate k 48 ++ digits) ≡ number digits
zeros_value zero digits = refl
zeros_value (suc k) digits = zeros_value k digits

zeros_all : (k : ℕ) (digits : List ℕ) → list_all is_ascii_digit digits ≡ true → list_all is_ascii_digit (replicate k 48 ++ digits) ≡ true
zeros_all zero digits h = h
zeros_all (suc k) digits h = zeros_all k digits h

zeros_write : (k n : ℕ) (digits : List ℕ) → Writes n digits → Writes n (replicate k 48 ++ digits)
zeros_write k n digits w = record {
  value = zeros_value k digits ∙ w.value;
  all = zeros_all k digits w.all;
  front = replicate k 48 ++ w.front;
  ends = ap (λ (z : List ℕ). replicate k 48 ++ z) w.ends ∙ sym (append_assoc (replicate k 48) w.front ((48 + n % 10) ∷ []));
}

-- Numbers without a point, and with a point.
no_point : (b : ℕ) → is_ascii_digit b ≡ true → not (is_point b) ≡ true
no_point b h = grind (arith, nat_tests)

no_points : (text : List ℕ) → list_all is_ascii_digit text ≡ true → list_all (λ b. not (is_point b)) text ≡ true
no_points [] h = refl
no_points (b ∷ bs) h =
    let here = no_point b (and_left (is_ascii_digit b) (list_all is_ascii_digit bs) h) in
    rw (here, no_points bs (and_right (is_ascii_digit b) (list_all is_ascii_digit bs) h)) refl

all_left : (xs ys : List ℕ) → list_all is_ascii_digit (xs ++ ys) ≡ true → list_all is_ascii_digit xs ≡ true
all_left [] ys h = refl
all_left (x ∷ xs) ys h = rw (and_left (is_ascii_digit x) (list_all is_ascii_digit (xs ++ ys)) h, all_left xs ys (and_right (is_ascii_digit x) (list_all is_ascii_digit (xs ++ ys)) h)) refl

all_right : (xs ys : List ℕ) → list_all is_ascii_digit (xs ++ ys) ≡ true → list_all is_ascii_digit ys ≡ true
all_right [] ys h = h
all_right (x ∷ xs) ys h = all_right xs ys (and_right (is_ascii_digit x) (list_all is_ascii_digit (xs ++ ys)) h)

-- The parts of the text of a number.
record Shape (text : List ℕ) (n places : ℕ) : Type 0 where
  is_number : IsNumber text
  value : number (whole text ++ fraction text) ≡ n
  kept : without_last_zeros (fraction text) ≡ fraction text
  places_are : length (fraction text) ≡ places

plain_shape : (n : ℕ) (digits : List ℕ) → 0 < length digits → Writes n digits → Shape digits n 0
plain_shape n digits some w =
    let point : position_or_len is_point digits ≡ length digits = subst (λ (z : List ℕ). position_or_len is_point z ≡ length digits) (append-nil digits) (run_ends (λ b. not (is_point b)) digits (no_points digits w.all)) in
    let no_fraction : fraction digits ≡ [] = drop_all (position_or_len is_point digits + 1) digits (omega (arith, point)) in
    let all : whole digits ≡ digits = rw point (take_all (length digits) digits (omega arith)) in
    record {
      is_number = inl (some, w.all);
      value = ap (λ (z : List ℕ). number (whole digits ++ z)) no_fraction ∙ ap number (append-nil (whole digits)) ∙ ap number all ∙ w.value;
      kept = subst (λ (z : List ℕ). without_last_zeros z ≡ z) (sym no_fraction) refl;
      places_are = ap length no_fraction;
    }

last_stays : (front : List ℕ) (d k : ℕ) → k ≤ length front → nat_eq 48 d ≡ false → without_last_zeros (drop k (front ++ d ∷ [])) ≡ drop k (front ++ d ∷ [])
last_stays front d k h other = rw (drop-append-le k front (d ∷ []) h) (other_stays (drop k front) d other)

not_zero : (d : ℕ) → 0 < d → nat_eq 48 (48 + d) ≡ false
not_zero d h = grind (arith, nat_tests)

point_shape : (n k places : ℕ) (digits : List ℕ) → 0 < k → k + places ≡ length digits → 0 < places → 0 < n % 10 → Writes n digits → Shape (take k digits ++ 46 ∷ drop k digits) n places
point_shape n k places digits some len more last w =
    let front = take k digits in
    let back = drop k digits in
    let text = front ++ 46 ∷ back in
    let halves : front ++ back ≡ digits = take-append-drop k digits in
    let both : list_all is_ascii_digit (front ++ back) ≡ true = subst (λ (z : List ℕ). list_all is_ascii_digit z ≡ true) (sym halves) w.all in
    let left = all_left front back both in
    let right = all_right front back both in
    let front_len : length front ≡ k = length-take-le k digits (omega (arith, len)) in
    let back_len : length back ≡ places = omega (arith, len, length-drop k digits) in
    let point : position_or_len is_point text ≡ length front = run_stops (λ b. not (is_point b)) front back 46 (no_points front left) refl in
    let whole_is : whole text ≡ front = rw point (take-append_seam front (46 ∷ back)) in
    let fraction_is : fraction text ≡ back = rw point (drop-append-add front (46 ∷ back) 1) in
    let ends_len : length digits ≡ length w.front + 1 = ap length w.ends ∙ length-append w.front ((48 + n % 10) ∷ []) in
    let kept : without_last_zeros back ≡ back = subst (λ (z : List ℕ). without_last_zeros (drop k z) ≡ drop k z) (sym w.ends) (last_stays w.front (48 + n % 10) k (omega (arith, ends_len, len)) (not_zero (n % 10) last)) in
    record {
      is_number = inr (front, back, (omega (arith, front_len), left), (omega (arith, back_len), right), refl);
      value = ap (λ (z : List ℕ). number (z ++ fraction text)) whole_is ∙ ap (λ (z : List ℕ). number (front ++ z)) fraction_is ∙ ap number halves ∙ w.value;
      kept = subst (λ (z : List ℕ). without_last_zeros z ≡ z) (sym fraction_is) kept;
      places_are = ap length fraction_is ∙ back_len;
    }

padded_len : (places : ℕ) (digits : List ℕ) → places < length (padded places digits)
padded_len places digits = omega (arith, length-append (replicate (places + 1 - length digits) 48) digits, length-replicate {A = ℕ} (places + 1 - length digits) 48)

with_point : (places : ℕ) (digits : List ℕ) → 0 < places → take (length digits - places) digits ++ 46 ∷ drop (length digits - places) digits ≡ pointed places digits
with_point places digits some = let no : places == 0 ≡ false = grind (arith, nat_tests) in rw no refl

shape : (n places : ℕ) → n < 2 ^ 127 → (0 < places → 0 < n % 10) → Shape (pointed places (padded places (decimal n))) n places
shape n zero h last =
    let w = zeros_write (0 + 1 - length (decimal n)) n (decimal n) (decimal_writes n (omega arith)) in
    plain_shape n (padded 0 (decimal n)) (padded_len 0 (decimal n)) w
shape n (suc p) h last =
    let places = suc p in
    let w = zeros_write (places + 1 - length (decimal n)) n (decimal n) (decimal_writes n (omega arith)) in
    let long = padded_len places (decimal n) in
    subst (λ (z : List ℕ). Shape z n places) (with_point places (padded places (decimal n)) (omega arith))
    (point_shape n (length (padded places (decimal n)) - places) places (padded places (decimal n)) (omega (arith, long)) (omega (arith, long)) (omega arith) (last (omega arith)) w)

lit_shape : (lit : Lit) (h : IsInLimits lit) → Shape (number_text lit) h.digits lit.places
lit_shape lit h =
    subst (λ (z : ℤ). Shape (pointed lit.places (padded lit.places (decimal (unsigned_abs z)))) h.digits lit.places) (sym h.same) (shape h.digits lit.places h.small h.no_last_zero)

pub printed_is_number : (lit : Lit) → IsInLimits lit → IsNumber (number_text lit)
printed_is_number lit h = (lit_shape lit h).is_number

literal_is : (lit : Lit) (n m places : ℕ) → lit.digits ≡ pos n → m ≡ n → places ≡ lit.places → Path Lit (record { digits = pos m; places = places }) lit
literal_is lit n m places e f g = λ i. record { digits = (ap (λ (z : ℕ). pos z) f ∙ sym e) i; places = g i }

pub printed_literal : (lit : Lit) → IsInLimits lit → literal (number_text lit) ≡ lit
printed_literal lit h =
    let s = lit_shape lit h in
    let value : number (whole (number_text lit) ++ without_last_zeros (fraction (number_text lit))) ≡ h.digits = rw s.kept s.value in
    let places : length (without_last_zeros (fraction (number_text lit))) ≡ lit.places = rw s.kept s.places_are in
    literal_is lit h.digits (number (whole (number_text lit) ++ without_last_zeros (fraction (number_text lit)))) (length (without_last_zeros (fraction (number_text lit)))) h.same value places

small_number : (n places : ℕ) → n < 2 ^ 127 → places ≤ 38 → nat_le (2 ^ 127) n || nat_lt 38 places ≡ false
small_number n places h k = grind (arith, nat_tests)

pub printed_is_small : (lit : Lit) → IsInLimits lit → is_too_large (number_text lit) ≡ false
printed_is_small lit h =
    let s = lit_shape lit h in
    rw (s.value, s.places_are) (small_number h.digits lit.places h.small h.short)

pub printed_number_reads : (lit : Lit) (rest : List ℕ) → IsInLimits lit → ends_number rest ≡ true → Reads (kinds.Number lit) (number_text lit) rest
printed_number_reads lit rest h ends =
    subst (λ (l : Lit). Reads (kinds.Number l) (number_text lit) rest) (printed_literal lit h) (number_reads (number_text lit) rest (printed_is_number lit h) (printed_is_small lit h) ends)
