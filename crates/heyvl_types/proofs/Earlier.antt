-- The first procedure with a name, and whether one comes before an index.
use Rattle.heyvl_syntax.specs.Procedures.{Procedure}
use Rattle.typed_expressions.specs.Signatures.{Called, Signature, called, find_call, signature, with_signature, with_signatures}
use Rattle.heyvl_types.specs.internal.Earlier.{is_before}
use Rattle.std.proofs.Common.{Bool, List, None, Option, Some, [], ap, arith, false, map, refl, sym, take, true, ◌+◌, ◌<◌, ◌∙◌, ◌≡◌, ◌≤◌, ◌∷◌, ℕ}
use Rattle.std.proofs.lemmas.Bool.{lt-ltb}
use Rattle.std.proofs.lemmas.Bool.Decides.{nat_tests}
use Rattle.std.proofs.lemmas.Slice.Eq.{bytes_eq-Decides}
use Rattle.std.specs.List.{list_any}
use Rattle.std.specs.Option.{option_or}
use Rattle.std.specs.Prelude.{if◌then◌else◌, nat_lt, suc, zero, ◌||◌}
use Rattle.std.specs.Str.{bytes_eq}

-- The first of the procedures with the name `x`; the first of all has the number `n`.
abbrev pub first_named : ℕ → List Procedure → List ℕ → Option Signature
first_named n [] x = None
first_named n (p ∷ ps) x = if bytes_eq x p.name then Some (signature n p) else first_named (suc n) ps x

abbrev one_named : List ℕ → List ℕ → Signature → Option Signature
one_named x y s = if bytes_eq x y then Some s else None

same_name : (x y : List ℕ) → bytes_eq x y ≡ true → x ≡ y
same_name x y h = (bytes_eq-Decides x y).0 h

or_none : (r : Option Signature) → r ≡ option_or r None
or_none None = refl
or_none (Some s) = refl

found_one : (x y : List ℕ) (s : Signature) (c : Called) → find_call (with_signature y s c) x ≡ option_or (find_call c x) (one_named x y s)
found_one x y s [] = refl
found_one x y s (e ∷ es) = go (bytes_eq y e.0) (bytes_eq x e.0) (same_name y e.0) refl refl (found_one x y s es)
  where
    go : (b a : Bool) → (b ≡ true → y ≡ e.0) → bytes_eq y e.0 ≡ b → bytes_eq x e.0 ≡ a → find_call (with_signature y s es) x ≡ option_or (find_call es x) (one_named x y s) → find_call (if b then e ∷ es else e ∷ with_signature y s es) x ≡ option_or (if a then Some e.1 else find_call es x) (one_named x y s)
    go true true f p q r = ap (λ t. if t then Some e.1 else find_call es x) q
    go true false f p q r =
        ap (λ t. if t then Some e.1 else find_call es x) q ∙ or_none (find_call es x)
        ∙ ap (λ t. option_or (find_call es x) (if t then Some s else None)) (sym (ap (bytes_eq x) (f refl) ∙ q))
    go false true f p q r = ap (λ t. if t then Some e.1 else find_call (with_signature y s es) x) q
    go false false f p q r = ap (λ t. if t then Some e.1 else find_call (with_signature y s es) x) q ∙ r

passed : (a : Option Signature) (b : Bool) (s : Signature) (r : Option Signature) → option_or (option_or a (if b then Some s else None)) r ≡ option_or a (if b then Some s else r)
passed None true s r = refl
passed None false s r = refl
passed (Some a) b s r = refl

found : (x : List ℕ) (n : ℕ) (c : Called) (ps : List Procedure) → find_call (with_signatures n c ps) x ≡ option_or (find_call c x) (first_named n ps x)
found x n c [] = or_none (find_call c x)
found x n c (p ∷ ps) =
    found x (suc n) (with_signature p.name (signature n p) c) ps
    ∙ ap (λ a. option_or a (first_named (suc n) ps x)) (found_one x p.name (signature n p) c)
    ∙ passed (find_call c x) (bytes_eq x p.name) (signature n p) (first_named (suc n) ps x)

not_below : (m n : ℕ) → m ≤ n → nat_lt n m ≡ false
not_below m n h = grind (arith, nat_tests)

none_below : (x : List ℕ) (m n : ℕ) (ps : List Procedure) → m ≤ n → is_before m (first_named n ps x) ≡ false
none_below x m n [] h = refl
none_below x m n (p ∷ ps) h = go (bytes_eq x p.name) (none_below x m (suc n) ps (omega arith))
  where
    go : (b : Bool) → is_before m (first_named (suc n) ps x) ≡ false → is_before m (if b then Some (signature n p) else first_named (suc n) ps x) ≡ false
    go true r = not_below m n h
    go false r = r

further : (n i : ℕ) → n + suc i ≡ suc n + i
further n i = omega arith

earlier : (x : List ℕ) (n i : ℕ) (ps : List Procedure) → is_before (n + i) (first_named n ps x) ≡ list_any (bytes_eq x) (map (λ p. p.name) (take i ps))
earlier x n zero ps = none_below x (n + 0) n ps (omega arith)
earlier x n (suc i) [] = refl
earlier x n (suc i) (p ∷ ps) = go (bytes_eq x p.name) (ap (λ m. is_before m (first_named (suc n) ps x)) (further n i) ∙ earlier x (suc n) i ps)
  where
    go : (b : Bool) → is_before (n + suc i) (first_named (suc n) ps x) ≡ list_any (bytes_eq x) (map (λ q. q.name) (take i ps)) → is_before (n + suc i) (if b then Some (signature n p) else first_named (suc n) ps x) ≡ (b || list_any (bytes_eq x) (map (λ q. q.name) (take i ps)))
    go true r = lt-ltb n (n + suc i) (omega arith)
    go false r = r

pub earlier_named : (x : List ℕ) (i : ℕ) (ps : List Procedure) → is_before i (find_call (called ps) x) ≡ list_any (bytes_eq x) (map (λ p. p.name) (take i ps))
earlier_named x i ps = ap (is_before i) (found x 0 [] ps) ∙ (ap (λ m. is_before m (first_named 0 ps x)) (omega arith) ∙ earlier x 0 i ps)
