-- Decimal numbers and their texts.
use Prim.Native.Nat.{zero, suc}
use Rattle.std.proofs.Common.{◌≡◌, ◌≢◌, ℕ, ℤ, pos, negsuc, neg_ℤ, ◌<◌, ◌≤◌, ◌^◌, List, [], ◌∷◌, Result, Ok, decimal, length, get_or, unsigned_abs, refl, ap, ◌∙◌, subst, sym, arith, to_z, of_z}
use Rattle.std.proofs.lemmas.Fmt.{IsAscii-decimal, IsAscii-signed, decimal_is_IsNumeral, decimal_digit, first_decimal, decimal-digits_value}
use Rattle.std.proofs.lemmas.Str.Parse.{IsNumeralModel, numerals_by_value, tells_digits, not_in_digits, parse_plain}
use Rattle.std.specs.Str.Parse.{AllDigits, digits_value, ParsesUnsigned}
use Rattle.std.specs.Fmt.{signed_decimal}
use Rattle.std.specs.Int.{w64}
use Rattle.std.specs.Int.Signed.{mag}
use Rattle.std.proofs.lemmas.Int.{to_z-of_z, fits_signed_from_abs}
use Rattle.std.proofs.lemmas.Str.{IsUtf8-from_ascii}
use Rattle.std.specs.Str.{IsUtf8}

pub decimal_is_text : (n : ℕ) (bs : List ℕ) → n < 2 ^ 64 → bs ≡ decimal n → IsUtf8 bs
decimal_is_text n bs small e = let P : List ℕ → Type 0 = λ xs. IsUtf8 xs in subst P (sym e) (IsUtf8-from_ascii (decimal n) (IsAscii-decimal n small))

-- An integer below 2^62 without its sign is below 2^63, for both definitions of the absolute value.
pub below_half : (m : ℤ) → unsigned_abs m < 2 ^ 62 → mag m < 2 ^ 63
below_half (pos n) h = omega arith
below_half (negsuc n) h = omega arith

pub below_top : (m : ℤ) → unsigned_abs m < 2 ^ 63 → mag m < 2 ^ 63
below_top (pos n) h = h
below_top (negsuc n) h = omega arith

pub signed_is_text : (m : ℤ) (bs : List ℕ) → unsigned_abs m < 2 ^ 63 → bs ≡ signed_decimal m → IsUtf8 bs
signed_is_text m bs small e = let P : List ℕ → Type 0 = λ xs. IsUtf8 xs in subst P (sym e) (IsUtf8-from_ascii (signed_decimal m) (IsAscii-signed m (below_top m small)))

-- An integer below 2^63 without its sign survives the conversion to 64 bits and back.
pub bits_stand : (n m : ℤ) → n ≡ m → unsigned_abs m < 2 ^ 63 → to_z w64 (of_z w64 n) ≡ m
bits_stand n m e small = ap (λ (z : ℤ). to_z w64 (of_z w64 z)) e ∙ to_z-of_z w64 m (fits_signed_from_abs w64 m small)

pub own : IsNumeralModel (AllDigits 10) (digits_value 10)
own = numerals_by_value (AllDigits 10) tells_digits

abbrev first_of : List ℕ → ℕ
first_of bs = get_or bs 0 0

pub decimal_has_one : (n : ℕ) → n < 2 ^ 64 → 0 < length (decimal n)
decimal_has_one n small = (decimal_is_IsNumeral n small).0.0

pub signed_has_one : (m : ℤ) → unsigned_abs m < 2 ^ 63 → 0 < length (signed_decimal m)
signed_has_one (pos n) small = decimal_has_one n (omega arith)
signed_has_one (negsuc n) small = omega arith

-- Only the digits of 0 begin with `0`.
pub zero_alone : (n first : ℕ) (behind : List ℕ) → first ≡ 48 → n < 2 ^ 64 → first ∷ behind ≡ decimal n → (n ≡ 0) × (behind ≡ [])
zero_alone zero first behind f small e = let t : first ∷ behind ≡ 48 ∷ [] = e ∙ decimal_digit 0 (omega arith) in (refl, cc)
zero_alone (suc n) first behind f small e =
    let l = first_decimal (suc n) (omega arith) small in
    let g : first ≡ first_of (decimal (suc n)) = ap first_of e in
    absurd (omega arith)

pub zero_text : (first : ℕ) (bs behind : List ℕ) → bs ≡ first ∷ behind → first ≡ 48 → length behind ≡ 0 → bs ≡ decimal 0
zero_text first bs [] e f none = e ∙ ap (λ (b : ℕ). b ∷ []) f ∙ sym (decimal_digit 0 (omega arith))
zero_text first bs (b ∷ behind) e f none = absurd (omega arith)

pub begins_with_digit : (mark n first : ℕ) (behind : List ℕ) → (48 ≤ mark → mark ≤ 57 → ⊥) → n < 2 ^ 64 → first ∷ behind ≡ decimal n → first ≢ mark
begins_with_digit mark n first behind apart small e is =
    let g : first ≡ first_of (decimal n) = ap first_of e in
    not_in_digits own (decimal n) mark (decimal_is_IsNumeral n small).0.1 (λ r. apart r.0 r.1) 0 (decimal_has_one n small) (sym g ∙ is)

-- The number that `parse` reads in a text has this text, if it begins neither with `0` nor with a
-- sign.
pub read_back : {E : Type 0} (n : ℕ) (bs : List ℕ) (first : ℕ) (behind : List ℕ) (r : Result ℕ E) → bs ≡ first ∷ behind → first ≢ 48 → first ≢ 43 → r ≡ Ok n → ParsesUnsigned 64 10 bs r → bs ≡ decimal n
read_back n bs first behind r e z p is h =
    let f : first_of bs ≡ first = ap first_of e in
    let k = parse_plain own 64 bs r h (λ q. p (sym f ∙ q)) in
    let j : (AllDigits 10 bs × (0 < length bs) × (digits_value 10 bs < 2 ^ 64)) × (n ≡ digits_value 10 bs) = rw is at k in
    let d = decimal-digits_value own bs j.0.0 j.0.1 (λ q. absurd (z (sym f ∙ q))) j.0.2 in
    sym d ∙ ap decimal (sym j.1)

-- The digits of an integer begin with a minus if it is negative.
pub minus_text : (n : ℕ) (z : ℤ) (bs behind : List ℕ) (first : ℕ) → bs ≡ first ∷ behind → first ≡ 45 → behind ≡ decimal n → 0 < n → z ≡ neg_ℤ (pos n) → bs ≡ signed_decimal z
minus_text zero z bs behind first e f d some is = absurd (omega arith)
minus_text (suc n) z bs behind first e f d some is =
    e ∙ ap (λ (b : ℕ). b ∷ behind) f ∙ ap (λ (cs : List ℕ). 45 ∷ cs) d ∙ ap signed_decimal (sym is)

pub negative_is : (z : ℤ) (first : ℕ) (behind : List ℕ) → first ≡ 45 → unsigned_abs z < 2 ^ 63 → first ∷ behind ≡ signed_decimal z
    → (0 < unsigned_abs z) × (behind ≡ decimal (unsigned_abs z)) × (neg_ℤ (pos (unsigned_abs z)) ≡ z)
negative_is (pos n) first behind f small e = absurd (begins_with_digit 45 n first behind (λ a b. omega arith) (omega arith) e f)
negative_is (negsuc n) first behind f small e = (omega arith, cc, refl)

pub natural_is : (z : ℤ) (first : ℕ) (behind : List ℕ) → first ≢ 45 → first ∷ behind ≡ signed_decimal z → (first ∷ behind ≡ decimal (unsigned_abs z)) × (pos (unsigned_abs z) ≡ z)
natural_is (pos n) first behind f e = (e, refl)
natural_is (negsuc n) first behind f e = let g : first ≡ 45 = cc in absurd (f g)
