-- Properties of each item of a list, and of each act in the order of the text.
use Rattle.heyvl_acts.specs.Acts.{Act, Acts, join}
use Rattle.heyvl_acts.specs.Places.{in_order, inside}
use Rattle.heyvl_acts.specs.Rules.{Each}
use Rattle.std.proofs.Common.{List, [], append_assoc, map, refl, subst, sym, ◌∷◌, ◌++◌, ◌≡◌}

in_order_join : (a b : Acts) → in_order (join a b) ≡ in_order a ++ in_order b
in_order_join Acts.done b = refl
in_order_join (Acts.next x more) b = rw (in_order_join more b, append_assoc) refl

module _ {A : Type 0} (P : A → Type 0) where
  pub each_both : (xs ys : List A) → Each P xs → Each P ys → Each P (xs ++ ys)
  each_both [] ys p q = q
  each_both (x ∷ xs) ys p q = (p.0, each_both xs ys p.1 q)

  pub each_front : (xs ys : List A) → Each P (xs ++ ys) → Each P xs
  each_front [] ys p = tt
  each_front (x ∷ xs) ys p = (p.0, each_front xs ys p.1)

  pub each_back : (xs ys : List A) → Each P (xs ++ ys) → Each P ys
  each_back [] ys p = p
  each_back (x ∷ xs) ys p = each_back xs ys p.1

pub each_weaker : {A : Type 0} (P Q : A → Type 0) → ((x : A) → P x → Q x) → (xs : List A) → Each P xs → Each Q xs
each_weaker P Q f [] p = tt
each_weaker P Q f (x ∷ xs) p = (f x p.0, each_weaker P Q f xs p.1)

pub each_mapped : {A B : Type 0} (f : A → B) (P : B → Type 0) (xs : List A) → Each (λ x. P (f x)) xs → Each P (map f xs)
each_mapped f P [] p = tt
each_mapped f P (x ∷ xs) p = (p.0, each_mapped f P xs p.1)

pub each_two : {A : Type 0} (P Q : A → Type 0) (xs : List A) → Each P xs → Each Q xs → Each (λ x. P x × Q x) xs
each_two P Q [] p q = tt
each_two P Q (x ∷ xs) p q = ((p.0, q.0), each_two P Q xs p.1 q.1)

pub each_join : (P : Act → Type 0) (a b : Acts) → Each P (in_order a) → Each P (in_order b) → Each P (in_order (join a b))
each_join P a b p q = subst (Each P) (sym (in_order_join a b)) (each_both P (in_order a) (in_order b) p q)

pub each_one : (P : Act → Type 0) (a : Act) → P a → Each P (inside a) → Each P (in_order (Acts.next a Acts.done))
each_one P a p q = (p, each_both P (inside a) [] q tt)
