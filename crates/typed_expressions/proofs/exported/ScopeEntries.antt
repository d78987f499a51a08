-- Scopes, as entries of tables of names.
use Rattle.typed_expressions.specs.Scopes.{Scope, find, is_visible, numbers, with_local}
use Rattle.typed_expressions.specs.Views.{entries_of}
use Rattle.typed_expressions.specs.declared.scopes.Local.{Local}
use Rattle.indexmap.specs.IndexMap.{insert_entry}
use Rattle.std.proofs.Common.{Bool, List, Some, Vec, [], ap, false, map, refl, sym, take, true, ◌++◌, ◌∙◌, ◌≡◌, ◌∷◌, ℕ}
use Rattle.std.specs.Cmp.Lexicographic.{pointwise}
use Rattle.std.specs.List.{AllZip}
use Rattle.std.specs.Map.{lookup, values_of}
use Rattle.std.proofs.lemmas.List.{take-map}
use Rattle.std.specs.Option.{is_some}
use Rattle.std.specs.Prelude.{if◌then◌else◌, nat_eq}
use Rattle.std.specs.Str.{bytes_eq}
use Rattle.std.specs.Vec.{vec_len}
use Rattle.std.specs.declared.alloc.Global.{Global}

abbrev Bytes : Type 0
Bytes = Vec ℕ Global

abbrev same : Bytes → Bytes → Bool
same a b = pointwise nat_eq a.items b.items

pub find_entries : (x : List ℕ) (es : List (Bytes × Local)) → lookup (λ k. pointwise nat_eq x k.items) es ≡ find (entries_of es) x
find_entries x [] = refl
find_entries x (e ∷ es) = ap (λ r. if bytes_eq x e.0.items then Some e.1 else r) (find_entries x es)

if_map : {A B : Type 0} (f : A → B) (b : Bool) (x y : A) → f (if b then x else y) ≡ (if b then f x else f y)
if_map f true x y = refl
if_map f false x y = refl

pub insert_entries : (k : Bytes) (l : Local) (es : List (Bytes × Local)) → entries_of (insert_entry same es k l) ≡ with_local k.items l (entries_of es)
insert_entries k l [] = refl
insert_entries k l (e ∷ es) = if_map entries_of (same k e.0) _ _ ∙ ap (λ r. if same k e.0 then (e.0.items, l) ∷ entries_of es else (e.0.items, e.1) ∷ r) (insert_entries k l es)

pub last_local : (x : List ℕ) (l : Local) (sc : Scope) → is_visible sc x ≡ false → with_local x l sc ≡ sc ++ (x, l) ∷ []
last_local x l [] e = refl
last_local x l (f ∷ fs) e = go (bytes_eq x f.0) (last_local x l fs) e
  where
    go : (b : Bool) → (is_visible fs x ≡ false → with_local x l fs ≡ fs ++ (x, l) ∷ []) → is_some (if b then Some f.1 else find fs x) ≡ false → (if b then (f.0, l) ∷ fs else f ∷ with_local x l fs) ≡ f ∷ (fs ++ (x, l) ∷ [])
    go true r h = absurd (cc)
    go false r h = ap (λ r. f ∷ r) (r h)

pub take_entries : (n : ℕ) (es : List (Bytes × Local)) → entries_of (take n es) ≡ take n (entries_of es)
take_entries n es = sym (take-map (λ e. (e.0.items, e.1)) n es)

equal_items : (xs ys : List ℕ) → AllZip (λ a b. b ≡ a) xs ys → ys ≡ xs
equal_items [] [] h = refl
equal_items [] (y ∷ ys) h = absurd h
equal_items (x ∷ xs) [] h = absurd h
equal_items (x ∷ xs) (y ∷ ys) h = let t = equal_items xs ys h.1 in let e : y ≡ x = h.0 in cc

pub equal_entries : (es fs : List (Bytes × Local)) → AllZip (λ p q. (AllZip (λ a b. b ≡ a) p.0.items q.0.items × (vec_len q.0 ≡ vec_len p.0)) × (q.1 ≡ p.1)) es fs → entries_of fs ≡ entries_of es
equal_entries [] [] h = refl
equal_entries [] (f ∷ fs) h = absurd h
equal_entries (e ∷ es) [] h = absurd h
equal_entries (e ∷ es) (f ∷ fs) h =
    let i = equal_items e.0.items f.0.items h.0.0.0 in
    ap (λ r. r ∷ entries_of fs) (ap (λ r. (r, f.1)) i ∙ ap (λ r. (e.0.items, r)) h.0.1) ∙ ap (λ r. (e.0.items, e.1) ∷ r) (equal_entries es fs h.1)

pub numbers_entries : (es : List (Bytes × Local)) → map (λ l. l.number) (values_of es) ≡ numbers (entries_of es)
numbers_entries [] = refl
numbers_entries (e ∷ es) = ap (λ r. e.1.number ∷ r) (numbers_entries es)
