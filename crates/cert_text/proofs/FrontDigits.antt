-- Numbers at the start of a text.
use Rattle.std.proofs.Common.{◌≡◌, ℕ, ℤ, ◌+◌, ◌-◌, ◌*◌, ◌/◌, ◌%◌, ◌<◌, ◌^◌, List, [], ◌∷◌, ◌++◌, decimal, sym, ap, ◌∙◌, arith}
use Rattle.std.proofs.lemmas.Fmt.{decimal_digit, decimal_step}
use Rattle.std.proofs.lemmas.List.{append_assoc}
use Rattle.std.specs.Fmt.{signed_decimal}
use Rattle.std.specs.Int.{IsInRange}
use Rattle.cert_text.specs.Lines.{line_text, whole}

last_digit : (n c : ℕ) → 0 < n → IsInRange 48 57 c → n * 10 + (c - 48) < 2 ^ 64 → decimal (n * 10 + (c - 48)) ≡ decimal n ++ c ∷ []
last_digit n c some r small =
    let a = r.0 in
    let b = r.1 in
    let d : (n * 10 + (c - 48)) / 10 ≡ n = omega arith in
    let m : 48 + (n * 10 + (c - 48)) % 10 ≡ c = omega arith in
    decimal_step (n * 10 + (c - 48)) (omega arith) small ∙ ap (λ (k : ℕ). decimal k ++ (48 + (n * 10 + (c - 48)) % 10) ∷ []) d ∙ ap (λ (k : ℕ). decimal n ++ k ∷ []) m

pub digit_more : (all : List ℕ) (n c m : ℕ) (rest behind : List ℕ) → all ≡ decimal n ++ rest → rest ≡ c ∷ behind → 0 < n → IsInRange 48 57 c → m ≡ n * 10 + (c - 48) → m < 2 ^ 64 → all ≡ decimal m ++ behind
digit_more all n c m rest behind e f some r is small =
    let l : n * 10 + (c - 48) < 2 ^ 64 = omega arith in
    e ∙ ap (λ (bs : List ℕ). decimal n ++ bs) f ∙ sym (append_assoc (decimal n) (c ∷ []) behind) ∙ ap (λ (bs : List ℕ). bs ++ behind) (sym (last_digit n c some r l)) ∙ ap (λ (k : ℕ). decimal k ++ behind) (sym is)

pub digit_first : (c n : ℕ) (text behind : List ℕ) → text ≡ c ∷ behind → IsInRange 48 57 c → n ≡ c - 48 → text ≡ decimal n ++ behind
digit_first c n text behind e r is =
    let a = r.0 in
    let b = r.1 in
    let d : decimal n ≡ (48 + n) ∷ [] = decimal_digit n (omega arith) in
    let s : 48 + n ≡ c = omega arith in
    e ∙ ap (λ (k : ℕ). k ∷ behind) (sym s) ∙ ap (λ (bs : List ℕ). bs ++ behind) (sym d)

pub zero_first : (first : ℕ) (text behind : List ℕ) → text ≡ first ∷ behind → first ≡ 48 → text ≡ decimal 0 ++ behind
zero_first first text behind e f = e ∙ ap (λ (k : ℕ). k ∷ behind) f ∙ ap (λ (bs : List ℕ). bs ++ behind) (sym (decimal_digit 0 (omega arith)))

-- The parts of the line of an integer split.
pub split_text : (x y : ℕ) (m n : ℤ) (all one two three four behind : List ℕ) → x ≡ y → m ≡ n → all ≡ 105 ∷ 32 ∷ one → one ≡ decimal y ++ two → two ≡ 32 ∷ three
    → three ≡ signed_decimal n ++ four → four ≡ 10 ∷ behind → all ≡ line_text (whole x m) ++ 10 ∷ behind
split_text x y m n all one two three four behind f g a b c d e =
    a ∙ ap (λ (bs : List ℕ). 105 ∷ 32 ∷ bs) (b ∙ ap (λ (bs : List ℕ). decimal y ++ bs) (c ∙ ap (λ (bs : List ℕ). 32 ∷ bs) (d ∙ ap (λ (bs : List ℕ). signed_decimal n ++ bs) e))
    ∙ sym (append_assoc (decimal y) (32 ∷ signed_decimal n) (10 ∷ behind))) ∙ ap (λ (k : ℕ). line_text (whole k n) ++ 10 ∷ behind) (sym f) ∙ ap (λ (k : ℤ). line_text (whole x k) ++ 10 ∷ behind) (sym g)

pub more_than_none : (n c m : ℕ) → 0 < n → m ≡ n * 10 + (c - 48) → 0 < m
more_than_none n c m some is = omega arith
