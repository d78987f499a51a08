-- The identifiers of the generated lines have the form of identifiers, and no two procedures have
-- one name.
use Rattle.generated_files.proofs.Pieces.{IsPlain}
use Rattle.generated_files.specs.Texts.{name}
use Rattle.heyvl_syntax.specs.Bytes.{is_word_byte}
use Rattle.heyvl_syntax.specs.Keys.{key_text}
use Rattle.heyvl_syntax.specs.Tokens.{IsWord}
use Rattle.heyvl_syntax.specs.declared.keys.Key.TheVariants as keys
use Rattle.heyvl_syntax.specs.declared.keys.Key.{Key}
use Rattle.std.proofs.Common.{Bool, List, [], ap, arith, codes, drop, false, refl, true, ◌%◌, ◌+◌, ◌<◌, ◌++◌, ◌∷◌, ◌^◌, ◌≡◌, ◌≤◌, ℕ}
use Rattle.std.proofs.lemmas.Bool.Decides.{nat_tests}
use Rattle.std.proofs.lemmas.Fmt.{decimal_by_steps, decimal_injective}
use Rattle.std.proofs.lemmas.List.Folds.{list_all-append}
use Rattle.std.proofs.lemmas.Slice.Eq.{bytes_eq-Decides}
use Rattle.std.specs.Fmt.{decimal}
use Rattle.std.specs.List.{list_all}
use Rattle.std.specs.Str.{bytes_eq}

digit_in_word : (d : ℕ) → d < 10 → is_word_byte (48 + d) ≡ true
digit_in_word d h = grind (arith, nat_tests)

one_digit : (n : ℕ) → n < 10 → list_all is_word_byte ((48 + n) ∷ []) ≡ true
one_digit n h = rw (digit_in_word n h) refl

more_digits : (n : ℕ) (ds : List ℕ) → 10 ≤ n → list_all is_word_byte ds ≡ true → list_all is_word_byte (ds ++ ((48 + n % 10) ∷ [])) ≡ true
more_digits n ds h all = let d : n % 10 < 10 = omega arith in rw (list_all-append is_word_byte ds ((48 + n % 10) ∷ []), all, digit_in_word (n % 10) d) refl

digits_in_word : (i : ℕ) → i < 2 ^ 64 → list_all is_word_byte (decimal i) ≡ true
digits_in_word i h = decimal_by_steps (λ n ds. list_all is_word_byte ds ≡ true) one_digit more_digits i h

-- An identifier that equals no keyword.
plain : (x : List ℕ) → IsWord x → ((key : Key) → bytes_eq (key_text key) x ≡ false) → IsPlain x
plain x is other = record { word = is; other = λ key e. absurd (unequal (bytes_eq (key_text key) x) ((bytes_eq-Decides (key_text key) x).1 e) (other key)) }
  where
    unequal : (b : Bool) → b ≡ true → b ≡ false → ⊥
    unequal b e f = cc

b_other : (key : Key) → bytes_eq (key_text key) (codes "b") ≡ false
b_other keys.Proc = refl
b_other _ = refl

pub b_plain : IsPlain (codes "b")
b_plain = plain (codes "b") (refl, refl) b_other

c_other : (key : Key) → bytes_eq (key_text key) (codes "c") ≡ false
c_other keys.Proc = refl
c_other _ = refl

pub c_plain : IsPlain (codes "c")
c_plain = plain (codes "c") (refl, refl) c_other

init_other : (key : Key) → bytes_eq (key_text key) (codes "init_c") ≡ false
init_other keys.Proc = refl
init_other _ = refl

pub init_plain : IsPlain (codes "init_c")
init_plain = plain (codes "init_c") (refl, refl) init_other

cont_other : (key : Key) → bytes_eq (key_text key) (codes "cont") ≡ false
cont_other keys.Proc = refl
cont_other _ = refl

pub cont_plain : IsPlain (codes "cont")
cont_plain = plain (codes "cont") (refl, refl) cont_other

stop_other : (key : Key) → bytes_eq (key_text key) (codes "stop") ≡ false
stop_other keys.Proc = refl
stop_other _ = refl

pub stop_plain : IsPlain (codes "stop")
stop_plain = plain (codes "stop") (refl, refl) stop_other

invariant_other : (key : Key) → bytes_eq (key_text key) (codes "invariant") ≡ false
invariant_other keys.Proc = refl
invariant_other _ = refl

pub invariant_plain : IsPlain (codes "invariant")
invariant_plain = plain (codes "invariant") (refl, refl) invariant_other

name_other : (ds : List ℕ) (key : Key) → bytes_eq (key_text key) (103 ∷ ds) ≡ false
name_other ds keys.Proc = refl
name_other ds _ = refl

pub name_plain : (i : ℕ) → i < 2 ^ 64 → IsPlain (name i)
name_plain i h = plain (name i) (refl, digits_in_word i h) (name_other (decimal i))

-- ---- Different names

pub same_name : (x : List ℕ) → bytes_eq x x ≡ true
same_name x = (bytes_eq-Decides x x).1 refl

pub other_name : (i j : ℕ) → i < 2 ^ 64 → j < i → bytes_eq (name i) (name j) ≡ false
other_name i j h less = pick (bytes_eq (name i) (name j)) refl
  where
    pick : (x : Bool) → bytes_eq (name i) (name j) ≡ x → x ≡ false
    pick false e = refl
    pick true e =
        let same : name i ≡ name j = (bytes_eq-Decides (name i) (name j)).0 e in
        let digits : decimal i ≡ decimal j = ap (drop 1) same in
        let equal : i ≡ j = decimal_injective i j h (omega arith) digits in
        absurd (omega arith)
