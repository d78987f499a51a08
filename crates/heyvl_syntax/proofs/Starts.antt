-- The first byte of each token, and the largest length of a token that begins with it.
use Rattle.heyvl_syntax.proofs.Runs.{and_left, and_right}
use Rattle.heyvl_syntax.specs.Bytes.{is_letter, is_white, is_word_byte}
use Rattle.heyvl_syntax.specs.Keys.{key_text}
use Rattle.heyvl_syntax.specs.Literals.{IsDigits, IsNumber}
use Rattle.heyvl_syntax.specs.Marks.{mark_text}
use Rattle.heyvl_syntax.specs.Tokens.{IsToken}
use Rattle.heyvl_syntax.specs.declared.keys.Key.TheVariants as keys
use Rattle.heyvl_syntax.specs.declared.keys.Key.{Key}
use Rattle.heyvl_syntax.specs.declared.marks.Mark.TheVariants as marks
use Rattle.heyvl_syntax.specs.declared.marks.Mark.{Mark}
use Rattle.heyvl_syntax.specs.declared.tokens.TokenKind.TheVariants as kinds
use Rattle.heyvl_syntax.specs.declared.tokens.TokenKind.{TokenKind}
use Rattle.std.proofs.Common.{Bool, List, [], ap, arith, false, inl, inr, not, refl, sym, true, ◌&&◌, ◌++◌, ◌==◌, ◌||◌, ◌∙◌, ◌∷◌, ◌≡◌, ℕ}
use Rattle.std.proofs.lemmas.Bool.Decides.{nat_tests}
use Rattle.std.specs.Char.{is_ascii_digit}
use Rattle.std.specs.List.{list_all}

-- The first byte of an identifier or a keyword.
abbrev pub opens_word : ℕ → Bool
opens_word b = is_letter b || b == 92

-- The first byte of a symbol.
abbrev pub opens_mark : ℕ → Bool
opens_mark b = not (opens_word b) && (not (is_ascii_digit b) && not (is_white b))

abbrev pub BeginsBy : TokenKind → ℕ → List ℕ → Type 0
BeginsBy (kinds.Word name) b bs = (is_letter b ≡ true) × (list_all is_word_byte bs ≡ true)
BeginsBy (kinds.Number lit) b bs = is_ascii_digit b ≡ true
BeginsBy (kinds.Key key) b bs = (opens_word b ≡ true) × (list_all is_word_byte bs ≡ true)
BeginsBy (kinds.Mark mark) b bs = opens_mark b ≡ true

-- The text has a first byte with which a token of kind `kind` may begin.
pub record Begins (kind : TokenKind) (text : List ℕ) : Type 0 where
  pub byte : ℕ
  pub behind : List ℕ
  pub same : text ≡ byte ∷ behind
  pub by_kind : BeginsBy kind byte behind

abbrev begins_key : List ℕ → Bool
begins_key [] = false
begins_key (b ∷ bs) = opens_word b && list_all is_word_byte bs

key_begins : (key : Key) → begins_key (key_text key) ≡ true
key_begins keys.Proc = refl
key_begins _ = refl

abbrev begins_mark : List ℕ → Bool
begins_mark [] = false
begins_mark (b ∷ bs) = opens_mark b

mark_begins : (mark : Mark) → begins_mark (mark_text mark) ≡ true
mark_begins marks.ParenLeft = refl
mark_begins _ = refl

digits_begin : (text rest : List ℕ) → IsDigits text → (b : ℕ) × (bs : List ℕ) × (text ++ rest ≡ b ∷ bs) × (is_ascii_digit b ≡ true)
digits_begin [] rest (some, all) = absurd (omega arith)
digits_begin (b ∷ bs) rest (some, all) = (b, bs ++ rest, refl, and_left (is_ascii_digit b) (list_all is_ascii_digit bs) all)

pub append_nil : (xs : List ℕ) → xs ++ [] ≡ xs
append_nil [] = refl
append_nil (x ∷ xs) = ap (λ (z : List ℕ). x ∷ z) (append_nil xs)

number_begins : (text : List ℕ) → IsNumber text → (b : ℕ) × (bs : List ℕ) × (text ≡ b ∷ bs) × (is_ascii_digit b ≡ true)
number_begins text (inl digits) =
    let (b, bs, e, d) = digits_begin text [] digits in
    (b, bs, sym (append_nil text) ∙ e, d)
number_begins text (inr (whole, fraction, digits, more, same)) =
    let (b, bs, e, d) = digits_begin whole (46 ∷ fraction) digits in
    (b, bs, same ∙ e, d)

key_begins_by : (key : Key) (text : List ℕ) → begins_key text ≡ true → Begins (kinds.Key key) text
key_begins_by key [] h = absurd (cc)
key_begins_by key (b ∷ bs) h = record { byte = b; behind = bs; same = refl; by_kind = (and_left (opens_word b) (list_all is_word_byte bs) h, and_right (opens_word b) (list_all is_word_byte bs) h) }

mark_begins_by : (mark : Mark) (text : List ℕ) → begins_mark text ≡ true → Begins (kinds.Mark mark) text
mark_begins_by mark [] h = absurd (cc)
mark_begins_by mark (b ∷ bs) h = record { byte = b; behind = bs; same = refl; by_kind = h }

pub token_begins : (kind : TokenKind) (text rest : List ℕ) → IsToken kind text rest → Begins kind text
token_begins (kinds.Word name) [] rest (same, word, other) = absurd word
token_begins (kinds.Word name) (b ∷ bs) rest (same, word, other) = record { byte = b; behind = bs; same = refl; by_kind = word }
token_begins (kinds.Number lit) text rest (same, number) =
    let (b, bs, e, d) = number_begins text number in
    record { byte = b; behind = bs; same = e; by_kind = d }
token_begins (kinds.Key key) text rest (same, ends) = key_begins_by key text (rw same (key_begins key))
token_begins (kinds.Mark mark) text rest same = mark_begins_by mark text (rw same (mark_begins mark))

pub digit_opens_no_word : (b : ℕ) → is_ascii_digit b ≡ true → opens_word b ≡ false
digit_opens_no_word b h = grind (arith, nat_tests)

pub digit_no_white : (b : ℕ) → is_ascii_digit b ≡ true → is_white b ≡ false
digit_no_white b h = grind (arith, nat_tests)

pub word_no_white : (b : ℕ) → opens_word b ≡ true → is_white b ≡ false
word_no_white b h = grind (arith, nat_tests)

pub letter_opens_word : (b : ℕ) → is_letter b ≡ true → opens_word b ≡ true
letter_opens_word b h = rw h refl
