-- Bytes that are reported, after one more read or write.
use Rattle.std.proofs.Common.{◌≡◌, ℕ, ◌+◌, List, [], ◌++◌, take, drop, Option, Some, None, refl, sym, ◌∙◌, ap, arith}
use Rattle.std.proofs.lemmas.List.{append_assoc, take-take, take-append-drop, drop-take, drop-drop}
use Rattle.heyvl_io.specs.Bytes.{before_rest, with_appended, HandsOut}

pub take_further : (n m : ℕ) (xs : List ℕ) → take n xs ++ take m (drop n xs) ≡ take (n + m) xs
take_further n m xs =
    ap (λ (ys : List ℕ). take n xs ++ ys) (sym (drop-take n m xs))
    ∙ ap (λ (ys : List ℕ). ys ++ drop n (take (n + m) xs)) (sym (take-take n (n + m) xs (omega arith)))
    ∙ take-append-drop n (take (n + m) xs)

pub appended_twice : (written : Option (List ℕ)) (xs ys zs : List ℕ) → xs ++ ys ≡ zs → with_appended (with_appended written xs) ys ≡ with_appended written zs
appended_twice None xs ys zs whole = refl
appended_twice (Some bytes) xs ys zs whole = ap Some (append_assoc bytes xs ys ∙ ap (λ (l : List ℕ). bytes ++ l) whole)

pub before_twice : (xs ys : List ℕ) (left : Option (List ℕ)) → before_rest xs (before_rest ys left) ≡ before_rest (xs ++ ys) left
before_twice xs ys None = refl
before_twice xs ys (Some rest) = ap Some (sym (append_assoc xs ys rest))

-- The first `n` bytes after a place. There are none only if nothing is left.
pub hands_out_at : (bytes buffer : List ℕ) (place n : ℕ) → take n buffer ≡ take n (drop place bytes) → (n ≡ 0 → drop place bytes ≡ []) → HandsOut (Some (drop place bytes)) (Some (drop (place + n) bytes)) buffer n
hands_out_at bytes buffer place n copied end = record {
  front =
      ap Some (sym (take-append-drop n (drop place bytes))
      ∙ ap (λ (l : List ℕ). take n (drop place bytes) ++ l) (drop-drop n place bytes)
      ∙ ap (λ (l : List ℕ). l ++ drop (place + n) bytes) (sym copied));
  end = end;
}
