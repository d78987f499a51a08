-- The numbers from one on.
use Rattle.std.proofs.Common.{◌≡◌, ℕ, ◌+◌, ◌-◌, ◌<◌, ap, sym, ◌∙◌, append_assoc, arith, List, [], ◌∷◌, ◌++◌}
use Rattle.heyvl_acts.specs.Rules.{counted}
use Prim.Native.Nat.{suc}

pub next_number : (before after : List ℕ) (k n : ℕ) → k < n → after ≡ before ++ k ∷ [] → after ++ counted (k + 1) (n - (k + 1)) ≡ before ++ counted k (n - k)
next_number before after k n lt h =
    ap (λ l. l ++ counted (k + 1) (n - (k + 1))) h
    ∙ (append_assoc before (k ∷ []) (counted (k + 1) (n - (k + 1)))
    ∙ ap (λ l. before ++ l) (first k (n - k) (n - (k + 1)) (omega (arith, lt))))
  where
    one_more : (i : ℕ) → i + 1 ≡ suc i
    one_more i = omega arith

    first : (i m r : ℕ) → m ≡ suc r → i ∷ counted (i + 1) r ≡ counted i m
    first i m r e = ap (λ j. i ∷ counted j r) (one_more i) ∙ ap (counted i) (sym e)
