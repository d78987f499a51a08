-- The names that the translation introduces are printable identifiers.
use Rattle.heyvl_print.specs.Printable.{IsPrintable}
use Rattle.heyvl_syntax.specs.Bytes.{is_letter, is_word_byte}
use Rattle.heyvl_syntax.specs.Keys.{key_text}
use Rattle.heyvl_syntax.specs.Tokens.{IsWord}
use Rattle.heyvl_syntax.specs.declared.keys.Key.TheVariants as keys
use Rattle.heyvl_syntax.specs.declared.keys.Key.{Key}
use Rattle.heyvl_syntax.specs.declared.tokens.TokenKind.TheVariants as kinds
use Rattle.guarded_commands.specs.Translation.{input_name, pick_name}
use Rattle.std.proofs.Common.{Bool, List, [], ap, arith, codes, false, nat_eq, refl, suc, true, zero, ◌%◌, ◌/◌, ◌<◌, ◌==◌, ◌∷◌, ◌≡◌, ◌||◌, if◌then◌else◌, ℕ}
use Rattle.std.proofs.lemmas.Bool.Decides.{nat_tests}
use Rattle.std.specs.Char.{is_ascii_digit}
use Rattle.std.specs.Cmp.Lexicographic.{pointwise}
use Rattle.std.specs.Fmt.{decimal, digit_glyph, digits, digits_onto}
use Rattle.std.specs.List.{list_all, starts_with}

-- No keyword begins with `init_` or `pick_`.
init_no_key : (key : Key) → starts_with nat_eq (key_text key) (codes "init_") ≡ false
init_no_key keys.Proc = refl
init_no_key _ = refl

pick_no_key : (key : Key) → starts_with nat_eq (key_text key) (codes "pick_") ≡ false
pick_no_key keys.Proc = refl
pick_no_key _ = refl

-- `main` is not a keyword.
main_no_key : (key : Key) → pointwise nat_eq (key_text key) (codes "main") ≡ false
main_no_key keys.Proc = refl
main_no_key _ = refl

invariant_no_key : (key : Key) → pointwise nat_eq (key_text key) (codes "invariant") ≡ false
invariant_no_key keys.Proc = refl
invariant_no_key _ = refl

differ : (test : List ℕ → Bool) (x : List ℕ) → test x ≡ true → ((key : Key) → test (key_text key) ≡ false) → (key : Key) → key_text key ≡ x → ⊥
differ test x holds fails key e = let same : test (key_text key) ≡ test x = ap test e in let f = fails key in absurd (cc)

pub main_printable : IsPrintable (kinds.Word (codes "main"))
main_printable = ((refl, refl), differ (λ w. pointwise nat_eq w (codes "main")) (codes "main") refl main_no_key)

pub invariant_printable : IsPrintable (kinds.Word (codes "invariant"))
invariant_printable = ((refl, refl), differ (λ w. pointwise nat_eq w (codes "invariant")) (codes "invariant") refl invariant_no_key)

letter_is_word_byte : (b : ℕ) → is_letter b ≡ true → is_word_byte b ≡ true
letter_is_word_byte b h = ap (λ (z : Bool). z || is_ascii_digit b) h

all_word_bytes : (x : List ℕ) → IsWord x → list_all is_word_byte x ≡ true
all_word_bytes [] h = absurd h
all_word_bytes (b ∷ bs) h = rw (letter_is_word_byte b h.0) h.1

pub input_printable : (x : List ℕ) → IsWord x → IsPrintable (kinds.Word (input_name x))
input_printable x h = ((refl, all_word_bytes x h), differ (λ w. starts_with nat_eq w (codes "init_")) (input_name x) refl init_no_key)

-- Digits are bytes of identifiers.
glyph_is_word_byte : (d : ℕ) → d < 10 → is_word_byte (digit_glyph false d) ≡ true
glyph_is_word_byte d h = grind (arith, nat_tests)

one_more : (n : ℕ) (acc : List ℕ) → list_all is_word_byte acc ≡ true → list_all is_word_byte (digit_glyph false (n % 10) ∷ acc) ≡ true
one_more n acc h = rw (glyph_is_word_byte (n % 10) (omega arith)) h

either : (b : Bool) (xs ys : List ℕ) → list_all is_word_byte xs ≡ true → list_all is_word_byte ys ≡ true → list_all is_word_byte (if b then xs else ys) ≡ true
either true xs ys h k = h
either false xs ys h k = k

digits_are_word_bytes : (k n : ℕ) (acc : List ℕ) → list_all is_word_byte acc ≡ true → list_all is_word_byte (digits_onto k 10 false n acc) ≡ true
digits_are_word_bytes zero n acc h = h
digits_are_word_bytes (suc k) n acc h =
    let more = one_more n acc h in
    either (n / 10 == 0) (digit_glyph false (n % 10) ∷ acc) (digits_onto k 10 false (n / 10) (digit_glyph false (n % 10) ∷ acc)) more (digits_are_word_bytes k (n / 10) (digit_glyph false (n % 10) ∷ acc) more)

decimal_is_word_bytes : (n : ℕ) → list_all is_word_byte (decimal n) ≡ true
unfolding digits
decimal_is_word_bytes n = digits_are_word_bytes 64 n [] refl

pub pick_printable : (j : ℕ) → IsPrintable (kinds.Word (pick_name j))
pick_printable j = ((refl, decimal_is_word_bytes j), differ (λ w. starts_with nat_eq w (codes "pick_")) (pick_name j) refl pick_no_key)
