-- The longest token that begins with a byte.
use Rattle.heyvl_syntax.proofs.Runs.{and_left, and_right, not_true, passes-le_run, run_passes, run_stops}
use Rattle.heyvl_syntax.proofs.Starts.{BeginsBy, digit_no_white, digit_opens_no_word, letter_opens_word, opens_word, token_begins, word_no_white}
use Rattle.heyvl_syntax.specs.Bytes.{is_point, is_white, is_word_byte}
use Rattle.heyvl_syntax.specs.internal.Fronts.{fraction_len, number_len, with_point}
use Rattle.heyvl_syntax.specs.Literals.{IsDigits, IsNumber}
use Rattle.heyvl_syntax.specs.Marks.{mark_text}
use Rattle.heyvl_syntax.specs.Tokens.{IsToken}
use Rattle.heyvl_syntax.specs.declared.marks.Mark.{Mark}
use Rattle.heyvl_syntax.specs.declared.tokens.TokenKind.TheVariants as kinds
use Rattle.heyvl_syntax.specs.declared.tokens.TokenKind.{TokenKind}
use Rattle.std.proofs.Common.{Bool, List, [], ap, append_assoc, arith, cond, drop, false, inl, inr, length, nat_eq, not, refl, subst, suc, sym, take, true, zero, ◌&&◌, ◌++◌, ◌+◌, ◌<◌, ◌∷◌, ◌≡◌, ◌≤◌, ℕ}
use Rattle.std.proofs.Math.Seq.{drop-append_seam, take-append_seam}
use Rattle.std.proofs.lemmas.Bool.Decides.{nat_tests}
use Rattle.std.proofs.lemmas.List.{append-nil, length-append, length-drop}
use Rattle.std.proofs.lemmas.List.Sums.{prefix_len-le-length}
use Rattle.std.proofs.lemmas.List.Folds.{length-prefix_len}
use Rattle.std.specs.Char.{is_ascii_digit}
use Rattle.std.specs.Cmp.Lexicographic.{other_text, pointwise}
use Rattle.std.specs.List.{list_all, prefix_len, starts_with}

-- A token that begins with a letter, `_` or `\` continues with letters, digits and `_`.
by_word : (kind : TokenKind) (c : ℕ) (cs : List ℕ) → opens_word c ≡ true → BeginsBy kind c cs → list_all is_word_byte cs ≡ true
by_word (kinds.Word name) c cs o h = h.1
by_word (kinds.Number lit) c cs o h = let no = digit_opens_no_word c h in absurd (cc)
by_word (kinds.Key key) c cs o h = h.1
by_word (kinds.Mark mark) c cs o h =
    let no = not_true (opens_word c) (and_left (not (opens_word c)) (not (is_ascii_digit c) && not (is_white c)) h) in
    absurd (cc)

pub word_tail : (kind : TokenKind) (text rest : List ℕ) (b : ℕ) (bs : List ℕ) → opens_word b ≡ true → IsToken kind text rest → text ++ rest ≡ b ∷ bs → (cs : List ℕ) × (text ≡ b ∷ cs) × (cs ++ rest ≡ bs) × (list_all is_word_byte cs ≡ true)
word_tail kind text rest b bs o token all =
    let begins = token_begins kind text rest token in
    let split : begins.byte ∷ (begins.behind ++ rest) ≡ b ∷ bs = subst (λ (z : List ℕ). z ++ rest ≡ b ∷ bs) begins.same all in
    let first : begins.byte ≡ b = cc in
    let later : begins.behind ++ rest ≡ bs = cc in
    let opens : opens_word begins.byte ≡ true = rw first o in
    (begins.behind, rw (← first) begins.same, later, by_word kind begins.byte begins.behind opens begins.by_kind)

tail_le : (b : ℕ) (text cs rest bs : List ℕ) → text ≡ b ∷ cs → cs ++ rest ≡ bs → list_all is_word_byte cs ≡ true → length text ≤ suc (prefix_len is_word_byte bs)
tail_le b text cs rest bs same later word =
    let le : length cs ≤ prefix_len is_word_byte bs = rw (← later) (passes-le_run is_word_byte cs rest word) in
    rw same (omega arith)

pub word_le : (kind : TokenKind) (text rest : List ℕ) (b : ℕ) (bs : List ℕ) → opens_word b ≡ true → IsToken kind text rest → text ++ rest ≡ b ∷ bs → length text ≤ suc (prefix_len is_word_byte bs)
word_le kind text rest b bs o token all =
    let (cs, same, later, word) = word_tail kind text rest b bs o token all in
    tail_le b text cs rest bs same later word

-- Only numbers begin with a digit.
by_digit : (kind : TokenKind) (c : ℕ) (cs : List ℕ) → is_ascii_digit c ≡ true → BeginsBy kind c cs → (text rest : List ℕ) → IsToken kind text rest → IsNumber text
by_digit (kinds.Word name) c cs d h text rest token =
    let yes = letter_opens_word c h.0 in
    let no = digit_opens_no_word c d in
    absurd (cc)
by_digit (kinds.Number lit) c cs d h text rest token = token.1
by_digit (kinds.Key key) c cs d h text rest token = let no = digit_opens_no_word c d in let yes = h.0 in absurd (cc)
by_digit (kinds.Mark mark) c cs d h text rest token =
    let both = and_right (not (opens_word c)) (not (is_ascii_digit c) && not (is_white c)) h in
    let no = not_true (is_ascii_digit c) (and_left (not (is_ascii_digit c)) (not (is_white c)) both) in
    absurd (cc)

pub same_first : (kind : TokenKind) (text rest : List ℕ) (b : ℕ) (bs : List ℕ) → IsToken kind text rest → text ++ rest ≡ b ∷ bs → (cs : List ℕ) × (text ≡ b ∷ cs) × BeginsBy kind b cs
same_first kind text rest b bs token all =
    let begins = token_begins kind text rest token in
    let split : begins.byte ∷ (begins.behind ++ rest) ≡ b ∷ bs = subst (λ (z : List ℕ). z ++ rest ≡ b ∷ bs) begins.same all in
    let first : begins.byte ≡ b = cc in
    (begins.behind, rw (← first) begins.same, subst (λ (z : ℕ). BeginsBy kind z begins.behind) first begins.by_kind)

pub digit_number : (kind : TokenKind) (text rest : List ℕ) (b : ℕ) (bs : List ℕ) → is_ascii_digit b ≡ true → IsToken kind text rest → text ++ rest ≡ b ∷ bs → IsNumber text
digit_number kind text rest b bs d token all =
    let (cs, same, by) = same_first kind text rest b bs token all in
    by_digit kind b cs d by text rest token

-- No number is longer than the one that the code reads.
digits-le : (text rest : List ℕ) → IsDigits text → length text ≤ number_len (text ++ rest)
digits-le text rest digits =
    let le = passes-le_run is_ascii_digit text rest digits.1 in
    omega arith

with_point-is : (n : ℕ) → 0 < n → with_point n ≡ suc n
with_point-is zero h = absurd (omega arith)
with_point-is (suc n) h = refl

point_number-le : (whole fraction rest : List ℕ) → IsDigits whole → IsDigits fraction → length whole + suc (length fraction) ≤ number_len (whole ++ 46 ∷ (fraction ++ rest))
point_number-le whole fraction rest digits more =
    let run = run_stops is_ascii_digit whole (fraction ++ rest) 46 digits.1 refl in
    let behind = drop-append_seam whole (46 ∷ (fraction ++ rest)) in
    let le = passes-le_run is_ascii_digit fraction rest more.1 in
    let point : with_point (prefix_len is_ascii_digit (fraction ++ rest)) ≡ suc (prefix_len is_ascii_digit (fraction ++ rest)) = with_point-is (prefix_len is_ascii_digit (fraction ++ rest)) (omega (arith, more.0)) in
    rw (run, behind, point) (omega arith)

pub number-le : (text rest : List ℕ) → IsNumber text → length text ≤ number_len (text ++ rest)
number-le text rest (inl digits) = digits-le text rest digits
number-le text rest (inr (whole, fraction, digits, more, same)) =
    let le = point_number-le whole fraction rest digits more in
    let len : length text ≡ length whole + suc (length fraction) = rw same (length-append whole (46 ∷ fraction)) in
    let all : text ++ rest ≡ whole ++ 46 ∷ (fraction ++ rest) = rw same (append_assoc whole (46 ∷ fraction) rest) in
    rw (all, len) le

-- The text that the code reads is a number.
point_is : (b : ℕ) → is_point b ≡ true → b ≡ 46
point_is b h = grind (arith, nat_tests)

fraction_is : (whole : List ℕ) (c : ℕ) (cs : List ℕ) (n : ℕ) → IsDigits whole → c ≡ 46 → prefix_len is_ascii_digit cs ≡ n → IsNumber (whole ++ take (with_point n) (c ∷ cs))
fraction_is whole c cs zero digits point run = inl (rw (append-nil whole) digits)
fraction_is whole c cs (suc n) digits point run =
    let len : length (take (suc n) cs) ≡ suc n = rw (← run) (length-prefix_len is_ascii_digit cs) in
    let all : list_all is_ascii_digit (take (suc n) cs) ≡ true = rw (← run) (run_passes is_ascii_digit cs) in
    inr (whole, take (suc n) cs, digits, (omega (arith, len), all), ap (λ (z : ℕ). whole ++ z ∷ take (suc n) cs) point)

number_with_tail : (whole tail : List ℕ) → IsDigits whole → IsNumber (whole ++ take (fraction_len tail) tail)
number_with_tail whole [] digits = inl (rw (append-nil whole) digits)
number_with_tail whole (c ∷ cs) digits = pick (is_point c) refl
  where
    pick : (x : Bool) → is_point c ≡ x → IsNumber (whole ++ take (cond x (with_point (prefix_len is_ascii_digit cs)) 0) (c ∷ cs))
    pick true e = fraction_is whole c cs (prefix_len is_ascii_digit cs) digits (point_is c e) refl
    pick false e = inl (rw (append-nil whole) digits)

take_two : (n k : ℕ) (xs : List ℕ) → n ≤ length xs → take (n + k) xs ≡ take n xs ++ take k (drop n xs)
take_two zero k xs h = let e : 0 + k ≡ k = omega arith in rw e refl
take_two (suc n) k [] h = absurd (omega arith)
take_two (suc n) k (x ∷ xs) h =
    let e : suc n + k ≡ suc (n + k) = omega arith in
    rw (e, take_two n k xs (omega arith)) refl

take_number : (n : ℕ) (bytes : List ℕ) → n ≤ length bytes → IsDigits (take n bytes) → IsNumber (take (n + fraction_len (drop n bytes)) bytes)
take_number n bytes h digits = rw (take_two n (fraction_len (drop n bytes)) bytes h) (number_with_tail (take n bytes) (drop n bytes) digits)

pub number_read : (b : ℕ) (bs : List ℕ) → is_ascii_digit b ≡ true → IsNumber (take (number_len (b ∷ bs)) (b ∷ bs))
number_read b bs d =
    let some : 0 < prefix_len is_ascii_digit (b ∷ bs) = rw d (omega arith) in
    take_number (prefix_len is_ascii_digit (b ∷ bs)) (b ∷ bs) (prefix_len-le-length is_ascii_digit (b ∷ bs)) (omega (arith, length-prefix_len is_ascii_digit (b ∷ bs)), run_passes is_ascii_digit (b ∷ bs))

fraction_len-le : (tail : List ℕ) → fraction_len tail ≤ length tail
fraction_len-le [] = omega arith
fraction_len-le (c ∷ cs) = pick (is_point c)
  where
    within : (n : ℕ) → n ≤ length cs → with_point n ≤ suc (length cs)
    within zero h = omega arith
    within (suc n) h = omega arith

    pick : (x : Bool) → cond x (with_point (prefix_len is_ascii_digit cs)) 0 ≤ suc (length cs)
    pick true = within (prefix_len is_ascii_digit cs) (prefix_len-le-length is_ascii_digit cs)
    pick false = omega arith

pub number_len-le : (bytes : List ℕ) → number_len bytes ≤ length bytes
number_len-le bytes = omega (arith, fraction_len-le (drop (prefix_len is_ascii_digit bytes) bytes), length-drop (prefix_len is_ascii_digit bytes) bytes, prefix_len-le-length is_ascii_digit bytes)

-- A token that begins neither an identifier, a keyword nor a number is a symbol.
by_mark : (kind : TokenKind) (c : ℕ) (cs : List ℕ) → opens_word c ≡ false → is_ascii_digit c ≡ false → BeginsBy kind c cs → (text rest : List ℕ) → IsToken kind text rest → (mark : Mark) × (kind ≡ kinds.Mark mark) × (text ≡ mark_text mark)
by_mark (kinds.Word name) c cs o d h text rest token = let yes = letter_opens_word c h.0 in absurd (cc)
by_mark (kinds.Number lit) c cs o d h text rest token = absurd (cc)
by_mark (kinds.Key key) c cs o d h text rest token = let yes = h.0 in absurd (cc)
by_mark (kinds.Mark mark) c cs o d h text rest token = (mark, refl, token)

pub mark_token : (kind : TokenKind) (text rest : List ℕ) (b : ℕ) (bs : List ℕ) → opens_word b ≡ false → is_ascii_digit b ≡ false → IsToken kind text rest → text ++ rest ≡ b ∷ bs → (mark : Mark) × (kind ≡ kinds.Mark mark) × (text ≡ mark_text mark)
mark_token kind text rest b bs o d token all =
    let (cs, same, by) = same_first kind text rest b bs token all in
    by_mark kind b cs o d by text rest token

-- If the bytes begin with a text, the test says so.
same_passes : (xs ys : List ℕ) (x : Bool) → pointwise nat_eq xs ys ≡ x → xs ≡ ys → x ≡ true
same_passes xs ys true e h = refl
same_passes xs ys false e h = absurd (other_text xs ys (sym e) h)

pub starts : (text rest bytes : List ℕ) → text ++ rest ≡ bytes → starts_with nat_eq bytes text ≡ true
starts text rest bytes all =
    let front : take (length text) bytes ≡ text = rw (← all) (take-append_seam text rest) in
    same_passes text (take (length text) bytes) (pointwise nat_eq text (take (length text) bytes)) refl (sym front)

-- No token begins with white space.
no_white : (kind : TokenKind) (c : ℕ) (cs : List ℕ) → BeginsBy kind c cs → is_white c ≡ false
no_white (kinds.Word name) c cs h = word_no_white c (letter_opens_word c h.0)
no_white (kinds.Number lit) c cs h = digit_no_white c h
no_white (kinds.Key key) c cs h = word_no_white c h.0
no_white (kinds.Mark mark) c cs h =
    not_true (is_white c) (and_right (not (is_ascii_digit c)) (not (is_white c)) (and_right (not (opens_word c)) (not (is_ascii_digit c) && not (is_white c)) h))

pub token_no_white : (kind : TokenKind) (text rest : List ℕ) (b : ℕ) (bs : List ℕ) → IsToken kind text rest → text ++ rest ≡ b ∷ bs → is_white b ≡ false
token_no_white kind text rest b bs token all =
    let (cs, same, by) = same_first kind text rest b bs token all in
    no_white kind b cs by
