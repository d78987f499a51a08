-- Acts that are appended, and one more copy.
use Rattle.std.proofs.Common.{◌≡◌, ℕ, ◌+◌, ◌≤◌, ap, ◌∙◌, refl, List, [], ◌∷◌, ◌++◌, arith, add-one}
use Prim.Native.Nat.{zero, suc}
use Rattle.std.specs.Prelude.{Bool}
use Rattle.heyvl_places.specs.declared.spans.Span.{Span}
use Rattle.heylo_formula.specs.Formula.{Form, Cond}
use Rattle.heyvl_acts.specs.declared.acts.Act as A
use Rattle.heyvl_acts.specs.Acts.{Act, Acts, join}
use Rattle.heyvl_acts.specs.PlainActs.{act_of, acts_of}
use Rattle.k_induction.specs.Copies.{copies, another_copy, if_holds}

pub two_more : (body : Acts) (p q : Act) (xs ys zs : List A.Act) (a b : A.Act) → acts_of xs ≡ body → act_of a ≡ p → act_of b ≡ q → ys ≡ xs ++ a ∷ [] → zs ≡ ys ++ b ∷ [] → acts_of zs ≡ join body (Acts.next p (Acts.next q Acts.done))
two_more body p q xs ys zs a b e f g h i = ap acts_of (i ∙ ap (λ l. l ++ b ∷ []) h) ∙ (shown xs ∙ (ap (λ l. join l (Acts.next (act_of a) (Acts.next (act_of b) Acts.done))) e ∙ (ap (λ x. join body (Acts.next x (Acts.next (act_of b) Acts.done))) f ∙ ap (λ x. join body (Acts.next p (Acts.next x Acts.done))) g)))
  where
    shown : (xs : List A.Act) → acts_of ((xs ++ a ∷ []) ++ b ∷ []) ≡ join (acts_of xs) (Acts.next (act_of a) (Acts.next (act_of b) Acts.done))
    shown [] = refl
    shown (x ∷ xs) = ap (λ r. Acts.next (act_of x) r) (shown xs)

pub one_more_copy : (up : Bool) (span : Span) (g : Cond) (inv : Form) (body : Acts) (n : ℕ) → 1 ≤ n → copies up span g inv body (n + 1) ≡ another_copy up span inv body (if_holds span g (copies up span g inv body n))
one_more_copy up span g inv body zero h = absurd (omega arith)
one_more_copy up span g inv body (suc n) h = ap (λ m. copies up span g inv body m) (add-one (suc n))
