-- The procedure that a name calls, after a procedure is added to the callable ones.
use Rattle.heyvl_syntax.specs.Procedures.{Procedure}
use Rattle.std.proofs.Common.{Bool, List, None, Option, Some, [], ap, arith, false, length, refl, true, ◌++◌, ◌+◌, ◌∙◌, ◌∷◌, ◌≡◌, ℕ, suc}
use Rattle.std.specs.Prelude.{if◌then◌else◌}
use Rattle.std.specs.Str.{bytes_eq}
use Rattle.typed_expressions.specs.Signatures.{Called, Signature, find_call, signature, with_signature, with_signatures}

behind_first : (e : List ℕ × Signature) (es fs : Called) (y : List ℕ) (o : Option Signature) → (find_call es y ≡ o → find_call fs y ≡ o) → find_call (e ∷ es) y ≡ o → find_call (e ∷ fs) y ≡ o
behind_first e es fs y o more = pick (bytes_eq y e.0)
  where
    pick : (b : Bool) → (if b then Some e.1 else find_call es y) ≡ o → (if b then Some e.1 else find_call fs y) ≡ o
    pick true h = h
    pick false h = more h

-- If the first one has the new name, nothing changes.
put_behind : (b : Bool) (e : List ℕ × Signature) (es fs : Called) (y : List ℕ) (o : Option Signature) → find_call (e ∷ es) y ≡ o → find_call (e ∷ fs) y ≡ o → find_call (if b then e ∷ es else e ∷ fs) y ≡ o
put_behind true e es fs y o h g = h
put_behind false e es fs y o h g = g

pub found_stays : (x : List ℕ) (p : Signature) (c : Called) (y : List ℕ) (q : Signature) → find_call c y ≡ Some q → find_call (with_signature x p c) y ≡ Some q
found_stays x p [] y q h = absurd (cc)
found_stays x p (e ∷ es) y q h =
    put_behind (bytes_eq x e.0) e es (with_signature x p es) y (Some q) h (behind_first e es (with_signature x p es) y (Some q) (found_stays x p es y q) h)

pub none_stays : (x : List ℕ) (p : Signature) (c : Called) (y : List ℕ) → bytes_eq y x ≡ false → find_call c y ≡ None → find_call (with_signature x p c) y ≡ None
none_stays x p [] y other h = rw other refl
none_stays x p (e ∷ es) y other h =
    put_behind (bytes_eq x e.0) e es (with_signature x p es) y None h (behind_first e es (with_signature x p es) y None (none_stays x p es y other) h)

new_behind : (x : List ℕ) (p : Signature) (e : List ℕ × Signature) (es fs : Called) → (find_call es x ≡ None → find_call fs x ≡ Some p) → find_call (e ∷ es) x ≡ None → find_call (if bytes_eq x e.0 then e ∷ es else e ∷ fs) x ≡ Some p
new_behind x p e es fs more h = pick (bytes_eq x e.0) refl h
  where
    pick : (b : Bool) → bytes_eq x e.0 ≡ b → (if b then Some e.1 else find_call es x) ≡ None → find_call (if b then e ∷ es else e ∷ fs) x ≡ Some p
    pick true is g = absurd (cc)
    pick false is g = rw is (more g)

pub new_found : (x : List ℕ) (p : Signature) (c : Called) → bytes_eq x x ≡ true → find_call c x ≡ None → find_call (with_signature x p c) x ≡ Some p
new_found x p [] same h = rw same refl
new_found x p (e ∷ es) same h = new_behind x p e es (with_signature x p es) (new_found x p es same) h

-- One more procedure at the end.
pub signatures_append : (n : ℕ) (c : Called) (ps : List Procedure) (p : Procedure) → with_signatures n c (ps ++ p ∷ []) ≡ with_signature p.name (signature (n + length ps) p) (with_signatures n c ps)
signatures_append n c [] p = let e : n + 0 ≡ n = omega arith in rw e refl
signatures_append n c (q ∷ qs) p =
    let e : suc n + length qs ≡ n + suc (length qs) = omega arith in
    signatures_append (suc n) (with_signature q.name (signature n q) c) qs p ∙ ap (λ (k : ℕ). with_signature p.name (signature k p) (with_signatures (suc n) (with_signature q.name (signature n q) c) qs)) e
