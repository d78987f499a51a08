-- The number of elements with a property at the beginning of a list, which is split into a text and
-- its rest.
use Rattle.heyvl_syntax.specs.Bytes.{ends_word, is_word_byte}
use Rattle.std.proofs.Common.{Bool, List, [], arith, cond, drop, false, length, not, refl, suc, sym, take, true, ◌&&◌, ◌++◌, ◌+◌, ◌∷◌, ◌≡◌, ◌≤◌, ℕ}
use Rattle.std.specs.List.{list_all, prefix_len}

pub one-add : (n : ℕ) → 1 + n ≡ suc n
one-add n = omega arith

pub and_left : (x y : Bool) → x && y ≡ true → x ≡ true
and_left true y h = refl
and_left false y h = h

pub and_right : (x y : Bool) → x && y ≡ true → y ≡ true
and_right true y h = h
and_right false y h = cc

-- All elements of the run have the property.
pub run_passes : (p : ℕ → Bool) (bs : List ℕ) → list_all p (take (prefix_len p bs) bs) ≡ true
run_passes p [] = refl
run_passes p (b ∷ bs) = pick (p b) refl (run_passes p bs)
  where
    pick : (x : Bool) → p b ≡ x → list_all p (take (prefix_len p bs) bs) ≡ true → list_all p (take (cond x (1 + prefix_len p bs) 0) (b ∷ bs)) ≡ true
    pick true e h = rw (one-add (prefix_len p bs), e, h) refl
    pick false e h = refl

-- A text whose elements have the property is no longer than the run.
pub passes-le_run : (p : ℕ → Bool) (text rest : List ℕ) → list_all p text ≡ true → length text ≤ prefix_len p (text ++ rest)
passes-le_run p [] rest h = omega arith
passes-le_run p (b ∷ bs) rest h =
    let more = passes-le_run p bs rest (and_right (p b) (list_all p bs) h) in
    rw (and_left (p b) (list_all p bs) h) (omega arith)

-- A text whose elements have the property, before an element that has it not, is the run.
pub run_stops : (p : ℕ → Bool) (text rest : List ℕ) (b : ℕ) → list_all p text ≡ true → p b ≡ false → prefix_len p (text ++ b ∷ rest) ≡ length text
run_stops p [] rest b h f = rw f refl
run_stops p (x ∷ xs) rest b h f =
    let more = run_stops p xs rest b (and_right (p x) (list_all p xs) h) f in
    rw (and_left (p x) (list_all p xs) h, more) (omega arith)

pub run_ends : (p : ℕ → Bool) (text : List ℕ) → list_all p text ≡ true → prefix_len p (text ++ []) ≡ length text
run_ends p [] h = refl
run_ends p (x ∷ xs) h =
    let more = run_ends p xs (and_right (p x) (list_all p xs) h) in
    rw (and_left (p x) (list_all p xs) h, more) (omega arith)

pub not_true : (x : Bool) → not x ≡ true → x ≡ false
not_true true h = sym h
not_true false h = refl

pub word_run_stops : (text rest : List ℕ) → list_all is_word_byte text ≡ true → ends_word rest ≡ true → prefix_len is_word_byte (text ++ rest) ≡ length text
word_run_stops text [] h e = run_ends is_word_byte text h
word_run_stops text (b ∷ bs) h e = run_stops is_word_byte text bs b h (not_true (is_word_byte b) e)

-- No letter, digit or `_` follows the run of an identifier.
pub word_run_ends : (bs : List ℕ) → ends_word (drop (prefix_len is_word_byte bs) bs) ≡ true
word_run_ends [] = refl
word_run_ends (b ∷ bs) = pick (is_word_byte b) refl (word_run_ends bs)
  where
    pick : (x : Bool) → is_word_byte b ≡ x → ends_word (drop (prefix_len is_word_byte bs) bs) ≡ true → ends_word (drop (cond x (1 + prefix_len is_word_byte bs) 0) (b ∷ bs)) ≡ true
    pick true e h = rw (one-add (prefix_len is_word_byte bs)) h
    pick false e h = rw e refl
