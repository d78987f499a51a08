-- The bytes of a number, by the number of digits after its point.
use Rattle.heyvl_print.specs.Numbers.{number_text, padded, pointed}
use Rattle.heyvl_syntax.specs.declared.literals.Lit.{Lit}
use Rattle.std.proofs.Common.{List, [], append_assoc, arith, drop, false, length, refl, replicate, suc, take, unsigned_abs, ◌++◌, ◌+◌, ◌-◌, ◌<◌, ◌==◌, ◌∷◌, ◌≡◌, ◌≤◌, ◌^◌, ℕ}
use Rattle.std.proofs.lemmas.Bool.Decides.{nat_tests}
use Rattle.std.proofs.lemmas.Fmt.{decimal_is_IsNumeral_wide}
use Rattle.std.proofs.lemmas.List.{length-append, length-replicate}
use Rattle.std.specs.Fmt.{decimal}

pub decimal_some : (n : ℕ) → n ≤ 2 ^ 127 → 0 < length (decimal n)
decimal_some n h = (decimal_is_IsNumeral_wide n (omega arith)).0.0

no_more : (places : ℕ) (digits : List ℕ) → places < length digits → padded places digits ≡ digits
no_more places digits h =
    let none : places + 1 - length digits ≡ 0 = omega arith in
    rw none refl

pub whole_text : (places : ℕ) (digits : List ℕ) → places ≡ 0 → 0 < length digits → pointed places (padded places digits) ≡ digits
whole_text places digits z h = rw (z, no_more 0 digits h) refl

no_zero : (places : ℕ) → 0 < places → places == 0 ≡ false
no_zero places h = grind (arith, nat_tests)

pub inner_text : (places : ℕ) (digits : List ℕ) → 0 < places → places < length digits →
    pointed places (padded places digits) ≡ take (length digits - places) digits ++ 46 ∷ drop (length digits - places) digits
inner_text places digits some h = rw (no_more places digits h, no_zero places some) refl

pub short_text : (places : ℕ) (digits : List ℕ) → 0 < places → length digits ≤ places →
    pointed places (padded places digits) ≡ 48 ∷ 46 ∷ replicate (places - length digits) 48 ++ digits
short_text places digits some h =
    let zeros : places + 1 - length digits ≡ suc (places - length digits) = omega arith in
    let len : length (replicate (suc (places - length digits)) 48 ++ digits) - places ≡ 1 = omega (arith, length-append (replicate (suc (places - length digits)) 48) digits, length-replicate {A = ℕ} (suc (places - length digits)) 48) in
    rw (zeros, no_zero places some, len) refl

-- The bytes that the program appends are the text of the number.
pub prints_whole : (lit : Lit) (digits t0 t1 : List ℕ) → digits ≡ decimal (unsigned_abs lit.digits) → unsigned_abs lit.digits ≤ 2 ^ 127 → lit.places ≡ 0 → t1 ≡ t0 ++ digits → t1 ≡ t0 ++ number_text lit
prints_whole lit digits t0 t1 d h z e = rw (e, d, whole_text lit.places (decimal (unsigned_abs lit.digits)) z (decimal_some (unsigned_abs lit.digits) h)) refl

pub prints_inner : (lit : Lit) (digits front behind t0 t1 t2 t3 : List ℕ) → digits ≡ decimal (unsigned_abs lit.digits) → 0 < lit.places → lit.places < length digits → front ≡ take (length digits - lit.places) digits → behind ≡ drop (length digits - lit.places) digits → t1 ≡ t0 ++ front → t2 ≡ t1 ++ 46 ∷ [] → t3 ≡ t2 ++ behind → t3 ≡ t0 ++ number_text lit
prints_inner lit digits front behind t0 t1 t2 t3 d some h a b e f g =
    rw (← d, inner_text lit.places digits some h, g, f, e, a, b) (simp append_assoc)

pub prints_short : (lit : Lit) (digits t0 t1 t2 t3 : List ℕ) → digits ≡ decimal (unsigned_abs lit.digits) → 0 < lit.places → length digits ≤ lit.places → t1 ≡ t0 ++ 48 ∷ 46 ∷ [] → t2 ≡ t1 ++ replicate (lit.places - length digits) 48 → t3 ≡ t2 ++ digits → t3 ≡ t0 ++ number_text lit
prints_short lit digits t0 t1 t2 t3 d some h e f g =
    rw (← d, short_text lit.places digits some h, g, f, e) (simp append_assoc)
