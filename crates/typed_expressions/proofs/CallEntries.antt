-- The callable procedures, as entries of a table of names.
use Rattle.typed_expressions.specs.Signatures.{Called, Signature, find_call, with_signature}
use Rattle.typed_expressions.specs.Views.{called_of, signature_of}
use Rattle.typed_expressions.specs.declared.calls.Signature as held
use Rattle.indexmap.specs.IndexMap.{insert_entry}
use Rattle.std.proofs.Common.{Bool, List, None, Option, Some, Vec, [], ap, false, option_map, refl, sym, true, ◌∙◌, ◌∷◌, ◌≡◌, ℕ}
use Rattle.std.specs.Borrow.{Bor}
use Rattle.std.specs.Cmp.Lexicographic.{pointwise}
use Rattle.std.specs.Map.{lookup}
use Rattle.std.specs.Option.{is_none, is_some, option_copied}
use Rattle.std.specs.Prelude.{if◌then◌else◌, nat_eq, not}
use Rattle.std.specs.Str.{bytes_eq}
use Rattle.std.specs.declared.alloc.Global.{Global}

abbrev Bytes : Type 0
Bytes = Vec ℕ Global

abbrev same : Bytes → Bytes → Bool
same a b = pointwise nat_eq a.items b.items

if_map : {A B : Type 0} (f : A → B) (b : Bool) (x y : A) → f (if b then x else y) ≡ (if b then f x else f y)
if_map f true x y = refl
if_map f false x y = refl

pub find_entries : (x : List ℕ) (es : List (Bytes × held.Signature)) → option_map signature_of (lookup (λ k. pointwise nat_eq x k.items) es) ≡ find_call (called_of es) x
find_entries x [] = refl
find_entries x (e ∷ es) = go (bytes_eq x e.0.items) (find_entries x es)
  where
    go : (b : Bool) → option_map signature_of (lookup (λ k. pointwise nat_eq x k.items) es) ≡ find_call (called_of es) x → option_map signature_of (if b then Some e.1 else lookup (λ k. pointwise nat_eq x k.items) es) ≡ (if b then Some (signature_of e.1) else find_call (called_of es) x)
    go true h = refl
    go false h = h

-- A procedure with a new name is inserted at the end.
pub insert_entries : (k : Bytes) (s : held.Signature) (es : List (Bytes × held.Signature)) → is_none (find_call (called_of es) k.items) ≡ true → called_of (insert_entry same es k s) ≡ with_signature k.items (signature_of s) (called_of es)
insert_entries k s [] h = refl
insert_entries k s (e ∷ es) h = go (same k e.0) (insert_entries k s es) h
  where
    go : (b : Bool) → (is_none (find_call (called_of es) k.items) ≡ true → called_of (insert_entry same es k s) ≡ with_signature k.items (signature_of s) (called_of es)) → is_none (if b then Some (signature_of e.1) else find_call (called_of es) k.items) ≡ true → called_of (if b then (e.0, s) ∷ es else e ∷ insert_entry same es k s) ≡ (if b then (e.0.items, signature_of e.1) ∷ called_of es else (e.0.items, signature_of e.1) ∷ with_signature k.items (signature_of s) (called_of es))
    go true r h = absurd (cc)
    go false r h = ap (λ l. (e.0.items, signature_of e.1) ∷ l) (r h)

-- A procedure whose name is not new changes nothing.
pub kept : (x : List ℕ) (p : Signature) (c : Called) → is_none (find_call c x) ≡ false → with_signature x p c ≡ c
kept x p [] h = absurd (cc)
kept x p (e ∷ es) h = go (bytes_eq x e.0) (kept x p es) h
  where
    go : (b : Bool) → (is_none (find_call es x) ≡ false → with_signature x p es ≡ es) → is_none (if b then Some e.1 else find_call es x) ≡ false → (if b then e ∷ es else e ∷ with_signature x p es) ≡ e ∷ es
    go true r h = refl
    go false r h = ap (λ l. e ∷ l) (r h)

pub copied_signature : (r : Option (Bor held.Signature)) → option_map (λ f. signature_of f.now) r ≡ option_map signature_of (option_copied r)
copied_signature None = refl
copied_signature (Some f) = refl

is_none_map : {A B : Type 0} (f : A → B) (r : Option A) → is_none (option_map f r) ≡ is_none r
is_none_map f None = refl
is_none_map f (Some x) = refl

none_is : {A : Type 0} (r : Option A) (b : Bool) → is_some r ≡ not b → is_none r ≡ b
none_is None true e = refl
none_is None false e = absurd (cc)
none_is (Some x) true e = absurd (cc)
none_is (Some x) false e = refl

-- Whether a procedure is found, as the program tests it.
pub found : (r : Option (Bor held.Signature)) (o : Option Signature) (b c : Bool) → option_map (λ f. signature_of f.now) r ≡ o → is_some r ≡ not b → b ≡ c → is_none o ≡ c
found r o b c e f g = ap is_none (sym e) ∙ is_none_map (λ (f : Bor held.Signature). signature_of f.now) r ∙ none_is r b f ∙ g

pub declared : (k : Bytes) (s : held.Signature) (es fs : List (Bytes × held.Signature)) (x : List ℕ) (p : Signature) (c : Called) → fs ≡ insert_entry same es k s → called_of es ≡ c → k.items ≡ x → signature_of s ≡ p → is_none (find_call c x) ≡ true → called_of fs ≡ with_signature x p c
declared k s es fs x p c e v i j h =
    let n : is_none (find_call (called_of es) k.items) ≡ true = ap (λ d. is_none (find_call d k.items)) v ∙ ap (λ y. is_none (find_call c y)) i ∙ h in
    ap called_of e ∙ insert_entries k s es n ∙ ap (λ d. with_signature k.items (signature_of s) d) v ∙ ap (λ y. with_signature y (signature_of s) c) i ∙ ap (λ q. with_signature x q c) j
