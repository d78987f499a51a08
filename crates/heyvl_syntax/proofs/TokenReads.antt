-- Identifiers, keywords, symbols and numbers are read if the bytes after them do not continue them.
use Rattle.heyvl_syntax.proofs.FrontIs.{block_first, line_first}
use Rattle.heyvl_syntax.proofs.Runs.{run_ends, run_stops, word_run_stops}
use Rattle.heyvl_syntax.proofs.Starts.{digit_no_white, digit_opens_no_word, letter_opens_word, opens_word, token_begins, word_no_white}
use Rattle.heyvl_syntax.proofs.Steps.{front_was, lexes_token, made}
use Rattle.heyvl_syntax.proofs.Tables.{key_read, key_text_of}
use Rattle.heyvl_syntax.specs.Bytes.{ends_word, is_letter, is_point, is_white, is_word_byte}
use Rattle.heyvl_syntax.specs.Comments.{opens_block, opens_line}
use Rattle.heyvl_syntax.specs.internal.Fronts.{front_of, key_of, fraction_len, number_front, number_len, number_text, with_point, word_front, word_text}
use Rattle.heyvl_syntax.specs.Grammar.{prefix}
use Rattle.heyvl_syntax.specs.Keys.{key_text}
use Rattle.heyvl_syntax.specs.Literals.{IsNumber, is_too_large, literal}
use Rattle.heyvl_syntax.specs.Marks.{mark_text}
use Rattle.heyvl_syntax.specs.Tokens.{IsWord, Lexes}
use Rattle.heyvl_syntax.specs.internal.Found as fronts
use Rattle.heyvl_syntax.specs.internal.Found.{Found}
use Rattle.heyvl_syntax.specs.declared.keys.Key.{Key}
use Rattle.heyvl_syntax.specs.declared.marks.Mark.TheVariants as marks
use Rattle.heyvl_syntax.specs.declared.marks.Mark.{Mark}
use Rattle.heyvl_syntax.specs.declared.operators.UnaryOp.TheVariants as prefixes
use Rattle.heyvl_syntax.specs.declared.operators.UnaryOp.{UnaryOp}
use Rattle.heyvl_syntax.specs.declared.tokens.Token.{Token}
use Rattle.heyvl_syntax.specs.declared.tokens.TokenKind.TheVariants as kinds
use Rattle.heyvl_syntax.specs.declared.tokens.TokenKind.{TokenKind}
use Rattle.std.proofs.Common.{Bool, List, None, Option, Some, [], ap, append_assoc, arith, cond, false, inl, inr, length, nat_eq, not, refl, subst, suc, sym, true, zero, ◌&&◌, ◌++◌, ◌+◌, ◌<◌, ◌==◌, ◌∙◌, ◌∷◌, ◌≡◌, ℕ}
use Rattle.std.proofs.Math.Seq.{drop-append_seam, take-append_seam}
use Rattle.std.proofs.lemmas.Bool.Decides.{nat_tests}
use Rattle.std.proofs.lemmas.List.{length-append}
use Rattle.std.specs.Char.{is_ascii_digit}
use Rattle.std.specs.List.{list_all, prefix_len}

-- `Reads kind text rest`: `text`, followed by `rest`, is read as a token of kind `kind`.
abbrev pub Reads : TokenKind → List ℕ → List ℕ → Type 0
Reads kind text rest = front_of (text ++ rest) ≡ fronts.Token kind (length text)

-- Bytes that begin with a token that is read are split into it and the tokens of the rest.
pub lexes_read : (place : ℕ) (kind : TokenKind) (text rest : List ℕ) → Reads kind text rest → (tokens : List Token) → Lexes (place + length text) rest tokens →
    Lexes place (text ++ rest) (made kind place (length text) ∷ tokens)
lexes_read place kind text rest reads tokens lexes =
    lexes_token place (length text) kind (text ++ rest) (front_was (text ++ rest) (front_of (text ++ rest)) (fronts.Token kind (length text)) refl reads) tokens
    (subst (λ (z : List ℕ). Lexes (place + length text) z tokens) (sym (drop-append_seam text rest)) lexes)

-- Identifiers and keywords.
no_line : (b : ℕ) (bs : List ℕ) → opens_word b ≡ true → opens_line (b ∷ bs) ≡ false
no_line b bs o = pick (opens_line (b ∷ bs)) refl
  where
    pick : (x : Bool) → opens_line (b ∷ bs) ≡ x → x ≡ false
    pick true h = let e = line_first b bs h in let no : opens_word 47 ≡ true = subst (λ (z : ℕ). opens_word z ≡ true) e o in absurd (cc)
    pick false h = refl

no_block : (b : ℕ) (bs : List ℕ) → opens_word b ≡ true → opens_block (b ∷ bs) ≡ false
no_block b bs o = pick (opens_block (b ∷ bs)) refl
  where
    pick : (x : Bool) → opens_block (b ∷ bs) ≡ x → x ≡ false
    pick true h = let e = block_first b bs h in let no : opens_word 47 ≡ true = subst (λ (z : ℕ). opens_word z ≡ true) e o in absurd (cc)
    pick false h = refl

word_text_is : (b : ℕ) (cs rest : List ℕ) → list_all is_word_byte cs ≡ true → ends_word rest ≡ true → word_text (b ∷ (cs ++ rest)) ≡ b ∷ cs
word_text_is b cs rest all ends = rw (word_run_stops cs rest all ends, take-append_seam cs rest) refl

word_front_is : (b : ℕ) (cs rest : List ℕ) → opens_word b ≡ true → list_all is_word_byte cs ≡ true → ends_word rest ≡ true →
    front_of (b ∷ (cs ++ rest)) ≡ word_front (is_letter b) (b ∷ cs) (key_of (b ∷ cs))
word_front_is b cs rest o all ends =
    let bs = cs ++ rest in
    let w = word_no_white b o in
    let l = no_line b bs o in
    let k = no_block b bs o in
    rw (w, l, k, o) (ap (λ (z : List ℕ). word_front (is_letter b) z (key_of z)) (word_text_is b cs rest all ends))

pub key_reads : (k : Key) (rest : List ℕ) → ends_word rest ≡ true → Reads (kinds.Key k) (key_text k) rest
key_reads k rest ends =
    let begins = token_begins (kinds.Key k) (key_text k) rest (refl, ends) in
    let front = word_front_is begins.byte begins.behind rest begins.by_kind.0 begins.by_kind.1 ends in
    subst (λ (z : List ℕ). front_of (z ++ rest) ≡ fronts.Token (kinds.Key k) (length z)) (sym begins.same)
    (front ∙ known begins.byte begins.behind (sym begins.same))
  where
    known : (b : ℕ) (cs : List ℕ) → b ∷ cs ≡ key_text k → word_front (is_letter b) (b ∷ cs) (key_of (b ∷ cs)) ≡ fronts.Token (kinds.Key k) (length (b ∷ cs))
    known b cs e =
        let found : key_of (b ∷ cs) ≡ Some k = subst (λ (z : List ℕ). key_of z ≡ Some k) (sym e) (key_read k) in
        rw found refl

no_key : (x : List ℕ) → ((key : Key) → key_text key ≡ x → ⊥) → key_of x ≡ None
no_key x other = pick (key_of x) refl
  where
    pick : (found : Option Key) → key_of x ≡ found → found ≡ None
    pick None h = refl
    pick (Some key) h = absurd (other key (sym (key_text_of x key h)))

pub word_reads : (x rest : List ℕ) → IsWord x → ((key : Key) → key_text key ≡ x → ⊥) → ends_word rest ≡ true → Reads (kinds.Word x) x rest
word_reads [] rest word other ends = absurd word
word_reads (b ∷ cs) rest word other ends =
    word_front_is b cs rest (letter_opens_word b word.0) word.1 ends ∙ (rw (no_key (b ∷ cs) other, word.0) refl)

-- Symbols that no byte after them continues.
abbrev pub is_free : Mark → Bool
is_free marks.ParenLeft = true
is_free marks.ParenRight = true
is_free marks.BraceLeft = true
is_free marks.BraceRight = true
is_free marks.BracketLeft = true
is_free marks.BracketRight = true
is_free marks.Comma = true
is_free marks.Colon = true
is_free marks.Semi = true
is_free marks.Dot = true
is_free marks.Question = true
is_free marks.AtSign = true
is_free _ = false

pub free_reads : (m : Mark) (rest : List ℕ) → is_free m ≡ true → Reads (kinds.Mark m) (mark_text m) rest
free_reads marks.ParenLeft rest h = refl
free_reads marks.ParenRight rest h = refl
free_reads marks.BraceLeft rest h = refl
free_reads marks.BraceRight rest h = refl
free_reads marks.BracketLeft rest h = refl
free_reads marks.BracketRight rest h = refl
free_reads marks.Comma rest h = refl
free_reads marks.Colon rest h = refl
free_reads marks.Semi rest h = refl
free_reads marks.Dot rest h = refl
free_reads marks.Question rest h = refl
free_reads marks.AtSign rest h = refl
free_reads _ rest h = absurd (cc)

pub spaced_reads : (m : Mark) (rest : List ℕ) → Reads (kinds.Mark m) (mark_text m) (32 ∷ rest)
spaced_reads marks.ParenLeft rest = refl
spaced_reads _ rest = refl

-- Texts whose first byte continues no prefix of a symbol.
abbrev pub opens : List ℕ → Bool
opens [] = true
opens (b ∷ bs) = not (b == 61) && not (b == 62)

no_equals : (b : ℕ) → not (b == 61) && not (b == 62) ≡ true → nat_eq 61 b ≡ false
no_equals b h = grind (arith, nat_tests)

no_greater : (b : ℕ) → not (b == 61) && not (b == 62) ≡ true → nat_eq 62 b ≡ false
no_greater b h = grind (arith, nat_tests)

pub prefix_reads : (op : UnaryOp) (rest : List ℕ) → opens rest ≡ true → Reads (kinds.Mark (prefix op)) (mark_text (prefix op)) rest
prefix_reads prefixes.Tilde rest h = refl
prefix_reads prefixes.Not [] h = refl
prefix_reads prefixes.Not (b ∷ bs) h = let e : nat_eq 61 b ≡ false = no_equals b h in rw e refl
prefix_reads prefixes.Minus [] h = refl
prefix_reads prefixes.Minus (b ∷ bs) h = let e : nat_eq 62 b ≡ false = no_greater b h in rw e refl

-- Numbers. The rest does not begin with a letter, a digit, `_` or a point.
abbrev pub ends_number : List ℕ → Bool
ends_number [] = true
ends_number (b ∷ bs) = not (is_word_byte b) && not (is_point b)

no_digit : (b : ℕ) → not (is_word_byte b) && not (is_point b) ≡ true → is_ascii_digit b ≡ false
no_digit b h = grind (arith, nat_tests)

no_point : (b : ℕ) → not (is_word_byte b) && not (is_point b) ≡ true → is_point b ≡ false
no_point b h = grind (arith, nat_tests)

digits_run : (digits rest : List ℕ) → list_all is_ascii_digit digits ≡ true → ends_number rest ≡ true → prefix_len is_ascii_digit (digits ++ rest) ≡ length digits
digits_run digits [] all ends = run_ends is_ascii_digit digits all
digits_run digits (b ∷ bs) all ends = run_stops is_ascii_digit digits bs b all (no_digit b ends)

no_fraction_len : (rest : List ℕ) → ends_number rest ≡ true → fraction_len rest ≡ 0
no_fraction_len [] ends = refl
no_fraction_len (b ∷ bs) ends = rw (no_point b ends) refl

number_len_is : (text rest : List ℕ) → IsNumber text → ends_number rest ≡ true → number_len (text ++ rest) ≡ length text
number_len_is text rest (inl digits) ends =
    let run = digits_run text rest digits.1 ends in
    rw (run, drop-append_seam text rest, no_fraction_len rest ends) (omega arith)
number_len_is text rest (inr (whole, fraction, digits, more, same)) ends =
    let all : text ++ rest ≡ whole ++ 46 ∷ (fraction ++ rest) = rw (same) (append_assoc whole (46 ∷ fraction) rest) in
    let run : prefix_len is_ascii_digit (whole ++ 46 ∷ (fraction ++ rest)) ≡ length whole = run_stops is_ascii_digit whole (fraction ++ rest) 46 digits.1 refl in
    let behind = digits_run fraction rest more.1 ends in
    let len : length text ≡ length whole + suc (length fraction) = rw same (length-append whole (46 ∷ fraction)) in
    rw (all, run, drop-append_seam whole (46 ∷ (fraction ++ rest)), behind, len) (pointed (length whole) (length fraction) more.0)
  where
    pointed : (m n : ℕ) → 0 < n → m + with_point n ≡ m + suc n
    pointed m zero h = absurd (omega arith)
    pointed m (suc n) h = refl

no_line_digit : (b : ℕ) (bs : List ℕ) → is_ascii_digit b ≡ true → opens_line (b ∷ bs) ≡ false
no_line_digit b bs d = pick (opens_line (b ∷ bs)) refl
  where
    pick : (x : Bool) → opens_line (b ∷ bs) ≡ x → x ≡ false
    pick true h = let e = line_first b bs h in let no : is_ascii_digit 47 ≡ true = subst (λ (z : ℕ). is_ascii_digit z ≡ true) e d in absurd (cc)
    pick false h = refl

no_block_digit : (b : ℕ) (bs : List ℕ) → is_ascii_digit b ≡ true → opens_block (b ∷ bs) ≡ false
no_block_digit b bs d = pick (opens_block (b ∷ bs)) refl
  where
    pick : (x : Bool) → opens_block (b ∷ bs) ≡ x → x ≡ false
    pick true h = let e = block_first b bs h in let no : is_ascii_digit 47 ≡ true = subst (λ (z : ℕ). is_ascii_digit z ≡ true) e d in absurd (cc)
    pick false h = refl

skip : (x : Bool) (a c r : Found) → x ≡ false → c ≡ r → cond x a c ≡ r
skip x a c r e f = rw e f

take_it : (x : Bool) (a c r : Found) → x ≡ true → a ≡ r → cond x a c ≡ r
take_it x a c r e f = rw e f

small_front : (text : List ℕ) → is_too_large text ≡ false → number_front text ≡ fronts.Token (kinds.Number (literal text)) (length text)
small_front text small = rw small refl

number_front_is : (b : ℕ) (bs text : List ℕ) → is_ascii_digit b ≡ true → number_text (b ∷ bs) ≡ text → is_too_large text ≡ false →
    front_of (b ∷ bs) ≡ fronts.Token (kinds.Number (literal text)) (length text)
number_front_is b bs text d same small =
    skip (is_white b) (fronts.Blank 1) _ _ (digit_no_white b d)
    (skip (opens_line (b ∷ bs)) _ _ _ (no_line_digit b bs d)
    (skip (opens_block (b ∷ bs)) _ _ _ (no_block_digit b bs d)
    (skip (opens_word b) _ _ _ (digit_opens_no_word b d)
    (take_it (is_ascii_digit b) (number_front (number_text (b ∷ bs))) _ _ d (ap number_front same ∙ small_front text small)))))

pub number_reads : (text rest : List ℕ) → IsNumber text → is_too_large text ≡ false → ends_number rest ≡ true → Reads (kinds.Number (literal text)) text rest
number_reads text rest number small ends =
    let begins = token_begins (kinds.Number (literal text)) text rest (refl, number) in
    let b = begins.byte in
    let bs = begins.behind in
    let same : text ≡ b ∷ bs = begins.same in
    let digit : is_ascii_digit b ≡ true = begins.by_kind in
    let front : number_text (text ++ rest) ≡ text = rw (number_len_is text rest number ends) (take-append_seam text rest) in
    let all : text ++ rest ≡ b ∷ (bs ++ rest) = subst (λ (z : List ℕ). z ++ rest ≡ b ∷ (bs ++ rest)) (sym same) refl in
    let front' : number_text (b ∷ (bs ++ rest)) ≡ text = subst (λ (z : List ℕ). number_text z ≡ text) all front in
    subst (λ (z : List ℕ). front_of z ≡ fronts.Token (kinds.Number (literal text)) (length text)) (sym all) (number_front_is b (bs ++ rest) text digit front' small)
