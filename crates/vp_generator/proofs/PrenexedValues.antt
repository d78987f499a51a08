-- The values of a prenexed form over all values of its new variables are those of the form over all
-- choices.
use Rattle.std.proofs.Common.{◌≡◌, ℕ, ◌+◌, refl, sym, ap, ap₂, ◌∙◌, subst, arith, Bool, true, false, not, cond, ◌==◌, ◌||◌, ◌&&◌, List, [], ◌∷◌, ◌++◌}
use Rattle.std.proofs.Math.ListN.{length}
use Rattle.std.proofs.lemmas.List.{length-append}
use Prim.Native.Nat.{suc}
use mathlib.Core.Path.{fun_ext}
use Rattle.heyvl_num.specs.Value.{Value, zeroᵛ, oneᵛ, leqᵛ, ◌+ᵛ◌, ◌*ᵛ◌}
use Rattle.heyvl_num.specs.Value.Value.{finite, infinite}
use Rattle.heyvl_num.specs.ValueOperators.{minᵛ, maxᵛ, impliesᵛ, coimpliesᵛ, monusᵛ}
use Rattle.heylo_formula.specs.Operators.{differenceᵛ, validateᵛ, covalidateᵛ, lessᵛ, equalᵛ, agree}
use Rattle.heylo_formula.specs.State.{Env, put, has}
use Rattle.heylo_formula.specs.Choices.{Choices, here, left, right}
use Rattle.heylo_formula.specs.Formula.{Form, Cond}
use Rattle.heylo_formula.specs.Meaning.{value, holds}
use Rattle.heylo_formula.specs.declared.types.Ty.{Ty}
use Rattle.heylo_formula.specs.declared.values.Val.{Val}
use Rattle.heylo_formula.specs.declared.values.Val.TheVariants.{Truth}
use Rattle.heylo_formula.proofs.exported.Agreement.{three}
use Rattle.heylo_formula.proofs.exported.States.{fit_same}
use Rattle.heylo_formula.specs.State.{IsTyped}
use Rattle.heylo_formula.proofs.exported.States.{fit_has}
use Rattle.vp_generator.specs.PrenexLaws.{IsFrom, TypedFrom, Found}
use Rattle.heylo_formula.specs.BinderNames.{Binder, binders, binders_in}
use Rattle.vp_generator.specs.PrenexedForms.{Numbering, renumbered, unbound, unbound_in, chosen, chosen_in, new_types}

split : (us vs : List Val) (n : ℕ) (r : Env) → IsFrom n (us ++ vs) r → IsFrom n us r × IsFrom (n + length us) vs r
split [] vs n r h = (tt, subst (λ k. IsFrom k vs r) (omega arith) h)
split (u ∷ us) vs n r h = let k = split us vs (suc n) r h.1 in ((h.0, k.0), subst (λ m. IsFrom m vs r) (omega arith) k.1)

split_types : (us vs : List Binder) (n : ℕ) (r : Env) → TypedFrom n (us ++ vs) r → TypedFrom n us r × TypedFrom (n + length us) vs r
split_types [] vs n r h = (tt, subst (λ k. TypedFrom k vs r) (omega arith) h)
split_types (u ∷ us) vs n r h = let k = split_types us vs (suc n) r h.1 in ((h.0, k.0), subst (λ m. TypedFrom m vs r) (omega arith) k.1)

append_lengths : (us vs : List Val) (xs ys : List Binder) → length us ≡ length xs → length vs ≡ length ys → length (us ++ vs) ≡ length (xs ++ ys)
append_lengths us vs xs ys e f = length-append us vs ∙ ap₂ (λ (m : ℕ) n. m + n) e f ∙ sym (length-append xs ys)

pub renumbered_env : (x n : ℕ) (m : Numbering) (r : Env) → (λ y. r (renumbered x n m y)) ≡ put x (r n) (λ y. r (m y))
renumbered_env x n m r = fun_ext (λ y. go y (x == y))
  where
    go : (y : ℕ) (b : Bool) → r (cond b n (m y)) ≡ cond b (r n) (r (m y))
    go y true = refl
    go y false = refl

-- Each occurrence of a binder has one value.
mutual
  pub as_many : (f : Form) (c : Choices) → length (chosen f c) ≡ length (binders f)
  as_many (Form.number v) c = refl
  as_many (Form.variable x) c = refl
  as_many (Form.sum a b) c = append_lengths _ _ _ _ (as_many a (left c)) (as_many b (right c))
  as_many (Form.difference a b) c = append_lengths _ _ _ _ (as_many a (left c)) (as_many b (right c))
  as_many (Form.cut a b) c = append_lengths _ _ _ _ (as_many a (left c)) (as_many b (right c))
  as_many (Form.product a b span) c = append_lengths _ _ _ _ (as_many a (left c)) (as_many b (right c))
  as_many (Form.min a b) c = append_lengths _ _ _ _ (as_many a (left c)) (as_many b (right c))
  as_many (Form.max a b) c = append_lengths _ _ _ _ (as_many a (left c)) (as_many b (right c))
  as_many (Form.imply a b) c = append_lengths _ _ _ _ (as_many a (left c)) (as_many b (right c))
  as_many (Form.co_imply a b) c = append_lengths _ _ _ _ (as_many a (left c)) (as_many b (right c))
  as_many (Form.scale w a) c = as_many a c
  as_many (Form.validate a) c = as_many a c
  as_many (Form.co_validate a) c = as_many a c
  as_many (Form.embed g) c = as_many_in g c
  as_many (Form.iverson g) c = as_many_in g c
  as_many (Form.select g a b) c = append_lengths _ _ _ _ (as_many_in g (left c)) (append_lengths _ _ _ _ (as_many a (right c)) (as_many b (right c)))
  as_many (Form.bind up x name ty a) c = ap suc (as_many a (left c))

  pub as_many_in : (g : Cond) (c : Choices) → length (chosen_in g c) ≡ length (binders_in g)
  as_many_in (Cond.constant b) c = refl
  as_many_in (Cond.flag x) c = refl
  as_many_in (Cond.not g) c = as_many_in g c
  as_many_in (Cond.and g h) c = append_lengths _ _ _ _ (as_many_in g (left c)) (as_many_in h (right c))
  as_many_in (Cond.or g h) c = append_lengths _ _ _ _ (as_many_in g (left c)) (as_many_in h (right c))
  as_many_in (Cond.same g h) c = append_lengths _ _ _ _ (as_many_in g (left c)) (as_many_in h (right c))
  as_many_in (Cond.le g h) c = append_lengths _ _ _ _ (as_many g (left c)) (as_many h (right c))
  as_many_in (Cond.lt g h) c = append_lengths _ _ _ _ (as_many g (left c)) (as_many h (right c))
  as_many_in (Cond.equal g h) c = append_lengths _ _ _ _ (as_many g (left c)) (as_many h (right c))
  as_many_in (Cond.ite g h k) c = append_lengths _ _ _ _ (as_many_in g (left c)) (append_lengths _ _ _ _ (as_many_in h (right c)) (as_many_in k (right c)))

two : (us vs : List Val) (xs : List Binder) (n : ℕ) (r : Env) → IsFrom n (us ++ vs) r → length us ≡ length xs → IsFrom n us r × IsFrom (n + length xs) vs r
two us vs xs n r h e = let k = split us vs n r h in (k.0, subst (λ m. IsFrom (n + m) vs r) e k.1)

-- The value for choices is the one for the values that they give.
mutual
  pub given_value : (f : Form) (m : Numbering) (n : ℕ) (r : Env) (c : Choices) → IsFrom n (chosen f c) r → value (unbound m n f) r Choices.stop ≡ value f (λ y. r (m y)) c
  given_value (Form.number v) m n r c h = refl
  given_value (Form.variable x) m n r c h = refl
  given_value (Form.sum a b) m n r c h = let k = two (chosen a (left c)) (chosen b (right c)) (binders a) n r h (as_many a (left c)) in ap₂ (λ p q. p +ᵛ q) (given_value a m n r (left c) k.0) (given_value b m (n + length (binders a)) r (right c) k.1)
  given_value (Form.difference a b) m n r c h = let k = two (chosen a (left c)) (chosen b (right c)) (binders a) n r h (as_many a (left c)) in ap₂ (λ p q. differenceᵛ p q) (given_value a m n r (left c) k.0) (given_value b m (n + length (binders a)) r (right c) k.1)
  given_value (Form.cut a b) m n r c h = let k = two (chosen a (left c)) (chosen b (right c)) (binders a) n r h (as_many a (left c)) in ap₂ (λ p q. monusᵛ p q) (given_value a m n r (left c) k.0) (given_value b m (n + length (binders a)) r (right c) k.1)
  given_value (Form.product a b span) m n r c h = let k = two (chosen a (left c)) (chosen b (right c)) (binders a) n r h (as_many a (left c)) in ap₂ (λ p q. p *ᵛ q) (given_value a m n r (left c) k.0) (given_value b m (n + length (binders a)) r (right c) k.1)
  given_value (Form.min a b) m n r c h = let k = two (chosen a (left c)) (chosen b (right c)) (binders a) n r h (as_many a (left c)) in ap₂ (λ p q. minᵛ p q) (given_value a m n r (left c) k.0) (given_value b m (n + length (binders a)) r (right c) k.1)
  given_value (Form.max a b) m n r c h = let k = two (chosen a (left c)) (chosen b (right c)) (binders a) n r h (as_many a (left c)) in ap₂ (λ p q. maxᵛ p q) (given_value a m n r (left c) k.0) (given_value b m (n + length (binders a)) r (right c) k.1)
  given_value (Form.imply a b) m n r c h = let k = two (chosen a (left c)) (chosen b (right c)) (binders a) n r h (as_many a (left c)) in ap₂ (λ p q. impliesᵛ p q) (given_value a m n r (left c) k.0) (given_value b m (n + length (binders a)) r (right c) k.1)
  given_value (Form.co_imply a b) m n r c h = let k = two (chosen a (left c)) (chosen b (right c)) (binders a) n r h (as_many a (left c)) in ap₂ (λ p q. coimpliesᵛ p q) (given_value a m n r (left c) k.0) (given_value b m (n + length (binders a)) r (right c) k.1)
  given_value (Form.scale w a) m n r c h = ap (λ p. finite w *ᵛ p) (given_value a m n r c h)
  given_value (Form.validate a) m n r c h = ap (λ p. validateᵛ p) (given_value a m n r c h)
  given_value (Form.co_validate a) m n r c h = ap (λ p. covalidateᵛ p) (given_value a m n r c h)
  given_value (Form.embed g) m n r c h = ap (λ p. cond p infinite zeroᵛ) (given_truth g m n r c h)
  given_value (Form.iverson g) m n r c h = ap (λ p. cond p oneᵛ zeroᵛ) (given_truth g m n r c h)
  given_value (Form.select g a b) m n r c h =
      let k = two (chosen_in g (left c)) (chosen a (right c) ++ chosen b (right c)) (binders_in g) n r h (as_many_in g (left c)) in
      let l = two (chosen a (right c)) (chosen b (right c)) (binders a) (n + length (binders_in g)) r k.1 (as_many a (right c)) in
      three (given_truth g m n r (left c) k.0) (given_value a m (n + length (binders_in g)) r (right c) l.0) (given_value b m (n + length (binders_in g) + length (binders a)) r (right c) l.1)
  given_value (Form.bind up x name ty a) m n r c h = given_value a (renumbered x n m) (suc n) r (left c) h.1 ∙ ap (λ s. value a s (left c)) (renumbered_env x n m r ∙ ap (λ v. put x v (λ y. r (m y))) h.0)

  pub given_truth : (g : Cond) (m : Numbering) (n : ℕ) (r : Env) (c : Choices) → IsFrom n (chosen_in g c) r → holds (unbound_in m n g) r Choices.stop ≡ holds g (λ y. r (m y)) c
  given_truth (Cond.constant b) m n r c h = refl
  given_truth (Cond.flag x) m n r c h = refl
  given_truth (Cond.not g) m n r c h = ap (λ p. not p) (given_truth g m n r c h)
  given_truth (Cond.and g h) m n r c i = let k = two (chosen_in g (left c)) (chosen_in h (right c)) (binders_in g) n r i (as_many_in g (left c)) in ap₂ (λ p q. p && q) (given_truth g m n r (left c) k.0) (given_truth h m (n + length (binders_in g)) r (right c) k.1)
  given_truth (Cond.or g h) m n r c i = let k = two (chosen_in g (left c)) (chosen_in h (right c)) (binders_in g) n r i (as_many_in g (left c)) in ap₂ (λ p q. p || q) (given_truth g m n r (left c) k.0) (given_truth h m (n + length (binders_in g)) r (right c) k.1)
  given_truth (Cond.same g h) m n r c i = let k = two (chosen_in g (left c)) (chosen_in h (right c)) (binders_in g) n r i (as_many_in g (left c)) in ap₂ (λ p q. agree p q) (given_truth g m n r (left c) k.0) (given_truth h m (n + length (binders_in g)) r (right c) k.1)
  given_truth (Cond.le g h) m n r c i = let k = two (chosen g (left c)) (chosen h (right c)) (binders g) n r i (as_many g (left c)) in ap₂ (λ p q. leqᵛ p q) (given_value g m n r (left c) k.0) (given_value h m (n + length (binders g)) r (right c) k.1)
  given_truth (Cond.lt g h) m n r c i = let k = two (chosen g (left c)) (chosen h (right c)) (binders g) n r i (as_many g (left c)) in ap₂ (λ p q. lessᵛ p q) (given_value g m n r (left c) k.0) (given_value h m (n + length (binders g)) r (right c) k.1)
  given_truth (Cond.equal g h) m n r c i = let k = two (chosen g (left c)) (chosen h (right c)) (binders g) n r i (as_many g (left c)) in ap₂ (λ p q. equalᵛ p q) (given_value g m n r (left c) k.0) (given_value h m (n + length (binders g)) r (right c) k.1)
  given_truth (Cond.ite g h j) m n r c i =
      let k = two (chosen_in g (left c)) (chosen_in h (right c) ++ chosen_in j (right c)) (binders_in g) n r i (as_many_in g (left c)) in
      let l = two (chosen_in h (right c)) (chosen_in j (right c)) (binders_in h) (n + length (binders_in g)) r k.1 (as_many_in h (right c)) in
      three (given_truth g m n r (left c) k.0) (given_truth h m (n + length (binders_in g)) r (right c) l.0) (given_truth j m (n + length (binders_in g) + length (binders_in h)) r (right c) l.1)

both : {A B C : Type 0} (op : A → B → C) (f : Choices → A) (g : Choices → B) (v : A) (w : B) → Found A f v → Found B g w → Found C (λ c. op (f (left c)) (g (right c))) (op v w)
both op f g v w h k = record { choices = Choices.choose (Truth false) h.choices k.choices; same = ap₂ op h.same k.same }

one : {A B : Type 0} (op : A → B) (f : Choices → A) (v : A) → Found A f v → Found B (λ c. op (f c)) (op v)
one op f v h = record { choices = h.choices; same = ap op h.same }

branch : {A : Type 0} (t : Choices → Bool) (f g : Choices → A) (b : Bool) (v w : A) → Found Bool t b → Found A f v → Found A g w → Found A (λ c. cond (t (left c)) (f (right c)) (g (right c))) (cond b v w)
branch t f g true v w h k l = record { choices = Choices.choose (Truth false) h.choices k.choices; same = k.same ∙ ap (λ b. cond b (f k.choices) (g k.choices)) h.same }
branch t f g false v w h k l = record { choices = Choices.choose (Truth false) h.choices l.choices; same = l.same ∙ ap (λ b. cond b (f l.choices) (g l.choices)) h.same }

under : (up : Bool) (x n name : ℕ) (ty : Ty) (a : Form) (m : Numbering) (r : Env) (v : Value) → has ty (r n) ≡ true → Found Value (λ c. value a (λ y. r (renumbered x n m y)) c) v → Found Value (λ c. value (Form.bind up x name ty a) (λ y. r (m y)) c) v
under up x n name ty a m r v e h = record { choices = Choices.choose (r n) h.choices Choices.stop; same = h.same ∙ ap (λ s. value a s h.choices) (renumbered_env x n m r ∙ ap (λ w. put x w (λ y. r (m y))) (sym (fit_same ty (r n) e))) }

-- Values of the new variables, each of its type, are given by some choices.
mutual
  pub found_value : (f : Form) (m : Numbering) (n : ℕ) (r : Env) → TypedFrom n (binders f) r → Found Value (λ c. value f (λ y. r (m y)) c) (value (unbound m n f) r Choices.stop)
  found_value (Form.number v) m n r h = record { choices = Choices.stop; same = refl }
  found_value (Form.variable x) m n r h = record { choices = Choices.stop; same = refl }
  found_value (Form.sum a b) m n r h = let k = split_types (binders a) (binders b) n r h in both (λ p q. p +ᵛ q) _ _ _ _ (found_value a m n r k.0) (found_value b m (n + length (binders a)) r k.1)
  found_value (Form.difference a b) m n r h = let k = split_types (binders a) (binders b) n r h in both (λ p q. differenceᵛ p q) _ _ _ _ (found_value a m n r k.0) (found_value b m (n + length (binders a)) r k.1)
  found_value (Form.cut a b) m n r h = let k = split_types (binders a) (binders b) n r h in both (λ p q. monusᵛ p q) _ _ _ _ (found_value a m n r k.0) (found_value b m (n + length (binders a)) r k.1)
  found_value (Form.product a b span) m n r h = let k = split_types (binders a) (binders b) n r h in both (λ p q. p *ᵛ q) _ _ _ _ (found_value a m n r k.0) (found_value b m (n + length (binders a)) r k.1)
  found_value (Form.min a b) m n r h = let k = split_types (binders a) (binders b) n r h in both (λ p q. minᵛ p q) _ _ _ _ (found_value a m n r k.0) (found_value b m (n + length (binders a)) r k.1)
  found_value (Form.max a b) m n r h = let k = split_types (binders a) (binders b) n r h in both (λ p q. maxᵛ p q) _ _ _ _ (found_value a m n r k.0) (found_value b m (n + length (binders a)) r k.1)
  found_value (Form.imply a b) m n r h = let k = split_types (binders a) (binders b) n r h in both (λ p q. impliesᵛ p q) _ _ _ _ (found_value a m n r k.0) (found_value b m (n + length (binders a)) r k.1)
  found_value (Form.co_imply a b) m n r h = let k = split_types (binders a) (binders b) n r h in both (λ p q. coimpliesᵛ p q) _ _ _ _ (found_value a m n r k.0) (found_value b m (n + length (binders a)) r k.1)
  found_value (Form.scale w a) m n r h = one (λ p. finite w *ᵛ p) _ _ (found_value a m n r h)
  found_value (Form.validate a) m n r h = one (λ p. validateᵛ p) _ _ (found_value a m n r h)
  found_value (Form.co_validate a) m n r h = one (λ p. covalidateᵛ p) _ _ (found_value a m n r h)
  found_value (Form.embed g) m n r h = one (λ p. cond p infinite zeroᵛ) _ _ (found_truth g m n r h)
  found_value (Form.iverson g) m n r h = one (λ p. cond p oneᵛ zeroᵛ) _ _ (found_truth g m n r h)
  found_value (Form.select g a b) m n r h =
      let k = split_types (binders_in g) (binders a ++ binders b) n r h in
      let l = split_types (binders a) (binders b) (n + length (binders_in g)) r k.1 in
      branch _ _ _ _ _ _ (found_truth g m n r k.0) (found_value a m (n + length (binders_in g)) r l.0) (found_value b m (n + length (binders_in g) + length (binders a)) r l.1)
  found_value (Form.bind up x name ty a) m n r h = under up x n name ty a m r _ h.0 (found_value a (renumbered x n m) (suc n) r h.1)

  pub found_truth : (g : Cond) (m : Numbering) (n : ℕ) (r : Env) → TypedFrom n (binders_in g) r → Found Bool (λ c. holds g (λ y. r (m y)) c) (holds (unbound_in m n g) r Choices.stop)
  found_truth (Cond.constant b) m n r h = record { choices = Choices.stop; same = refl }
  found_truth (Cond.flag x) m n r h = record { choices = Choices.stop; same = refl }
  found_truth (Cond.not g) m n r h = one (λ p. not p) _ _ (found_truth g m n r h)
  found_truth (Cond.and g h) m n r i = let k = split_types (binders_in g) (binders_in h) n r i in both (λ p q. p && q) _ _ _ _ (found_truth g m n r k.0) (found_truth h m (n + length (binders_in g)) r k.1)
  found_truth (Cond.or g h) m n r i = let k = split_types (binders_in g) (binders_in h) n r i in both (λ p q. p || q) _ _ _ _ (found_truth g m n r k.0) (found_truth h m (n + length (binders_in g)) r k.1)
  found_truth (Cond.same g h) m n r i = let k = split_types (binders_in g) (binders_in h) n r i in both (λ p q. agree p q) _ _ _ _ (found_truth g m n r k.0) (found_truth h m (n + length (binders_in g)) r k.1)
  found_truth (Cond.le g h) m n r i = let k = split_types (binders g) (binders h) n r i in both (λ p q. leqᵛ p q) _ _ _ _ (found_value g m n r k.0) (found_value h m (n + length (binders g)) r k.1)
  found_truth (Cond.lt g h) m n r i = let k = split_types (binders g) (binders h) n r i in both (λ p q. lessᵛ p q) _ _ _ _ (found_value g m n r k.0) (found_value h m (n + length (binders g)) r k.1)
  found_truth (Cond.equal g h) m n r i = let k = split_types (binders g) (binders h) n r i in both (λ p q. equalᵛ p q) _ _ _ _ (found_value g m n r k.0) (found_value h m (n + length (binders g)) r k.1)
  found_truth (Cond.ite g h j) m n r i =
      let k = split_types (binders_in g) (binders_in h ++ binders_in j) n r i in
      let l = split_types (binders_in h) (binders_in j) (n + length (binders_in g)) r k.1 in
      branch _ _ _ _ _ _ (found_truth g m n r k.0) (found_truth h m (n + length (binders_in g)) r l.0) (found_truth j m (n + length (binders_in g) + length (binders_in h)) r l.1)

-- ---- The values that choices give have the types of the binders

append_typed : (xs ys : List Binder) (us vs : List Val) → IsTyped (new_types xs) us → IsTyped (new_types ys) vs → IsTyped (new_types (xs ++ ys)) (us ++ vs)
append_typed [] ys us vs h k = subst (λ l. IsTyped (new_types ys) (l ++ vs)) (sym h) k
append_typed (x ∷ xs) ys [] vs h k = absurd h
append_typed (x ∷ xs) ys (u ∷ us) vs h k = (h.0, append_typed xs ys us vs h.1 k)

mutual
  pub chosen_typed : (f : Form) (c : Choices) → IsTyped (new_types (binders f)) (chosen f c)
  chosen_typed (Form.number v) c = refl
  chosen_typed (Form.variable x) c = refl
  chosen_typed (Form.sum a b) c = append_typed (binders a) (binders b) _ _ (chosen_typed a (left c)) (chosen_typed b (right c))
  chosen_typed (Form.difference a b) c = append_typed (binders a) (binders b) _ _ (chosen_typed a (left c)) (chosen_typed b (right c))
  chosen_typed (Form.cut a b) c = append_typed (binders a) (binders b) _ _ (chosen_typed a (left c)) (chosen_typed b (right c))
  chosen_typed (Form.product a b span) c = append_typed (binders a) (binders b) _ _ (chosen_typed a (left c)) (chosen_typed b (right c))
  chosen_typed (Form.min a b) c = append_typed (binders a) (binders b) _ _ (chosen_typed a (left c)) (chosen_typed b (right c))
  chosen_typed (Form.max a b) c = append_typed (binders a) (binders b) _ _ (chosen_typed a (left c)) (chosen_typed b (right c))
  chosen_typed (Form.imply a b) c = append_typed (binders a) (binders b) _ _ (chosen_typed a (left c)) (chosen_typed b (right c))
  chosen_typed (Form.co_imply a b) c = append_typed (binders a) (binders b) _ _ (chosen_typed a (left c)) (chosen_typed b (right c))
  chosen_typed (Form.scale w a) c = chosen_typed a c
  chosen_typed (Form.validate a) c = chosen_typed a c
  chosen_typed (Form.co_validate a) c = chosen_typed a c
  chosen_typed (Form.embed g) c = chosen_typed_in g c
  chosen_typed (Form.iverson g) c = chosen_typed_in g c
  chosen_typed (Form.select g a b) c = append_typed (binders_in g) (binders a ++ binders b) _ _ (chosen_typed_in g (left c)) (append_typed (binders a) (binders b) _ _ (chosen_typed a (right c)) (chosen_typed b (right c)))
  chosen_typed (Form.bind up x name ty a) c = (fit_has ty (here c), chosen_typed a (left c))

  pub chosen_typed_in : (g : Cond) (c : Choices) → IsTyped (new_types (binders_in g)) (chosen_in g c)
  chosen_typed_in (Cond.constant b) c = refl
  chosen_typed_in (Cond.flag x) c = refl
  chosen_typed_in (Cond.not g) c = chosen_typed_in g c
  chosen_typed_in (Cond.and g h) c = append_typed (binders_in g) (binders_in h) _ _ (chosen_typed_in g (left c)) (chosen_typed_in h (right c))
  chosen_typed_in (Cond.or g h) c = append_typed (binders_in g) (binders_in h) _ _ (chosen_typed_in g (left c)) (chosen_typed_in h (right c))
  chosen_typed_in (Cond.same g h) c = append_typed (binders_in g) (binders_in h) _ _ (chosen_typed_in g (left c)) (chosen_typed_in h (right c))
  chosen_typed_in (Cond.le a b) c = append_typed (binders a) (binders b) _ _ (chosen_typed a (left c)) (chosen_typed b (right c))
  chosen_typed_in (Cond.lt a b) c = append_typed (binders a) (binders b) _ _ (chosen_typed a (left c)) (chosen_typed b (right c))
  chosen_typed_in (Cond.equal a b) c = append_typed (binders a) (binders b) _ _ (chosen_typed a (left c)) (chosen_typed b (right c))
  chosen_typed_in (Cond.ite g h k) c = append_typed (binders_in g) (binders_in h ++ binders_in k) _ _ (chosen_typed_in g (left c)) (append_typed (binders_in h) (binders_in k) _ _ (chosen_typed_in h (right c)) (chosen_typed_in k (right c)))
