-- A form has no more binders than nodes, and the types of prenexed variables begin with the given
-- ones.
use Rattle.std.proofs.Common.{◌≡◌, ℕ, ◌≤◌, ◌+◌, refl, sym, ap, ◌∙◌, arith, List, [], ◌∷◌, ◌++◌, map}
use Rattle.std.proofs.Math.ListN.{length}
use Prim.Native.Nat.{suc}
use Rattle.std.proofs.lemmas.List.{length-append, append-nil, append_assoc}
use Rattle.heylo_formula.specs.BinderNames.{Binder, binders, binders_in}
use Rattle.heylo_formula.specs.Formula.{Form, Cond}
use Rattle.heylo_formula.specs.Sizes.{nodes, nodes_in}
use Rattle.heyvl_acts.specs.declared.typed_trees.VarInfo.{VarInfo}
use Rattle.vp_generator.specs.PrenexedForms.{new_types}
use Rattle.vp_generator.specs.PrenexedGoals.{types_of_variables}
use Rattle.vp_generator.specs.Scopes.{named, name_of}

two : (xs ys : List Binder) (n m : ℕ) → length xs ≤ n → length ys ≤ m → length (xs ++ ys) ≤ 1 + (n + m)
two xs ys n m h k = let e = length-append xs ys in omega (arith, e, h, k)

three : (xs ys zs : List Binder) (n m l : ℕ) → length xs ≤ n → length ys ≤ m → length zs ≤ l → length (xs ++ (ys ++ zs)) ≤ 1 + (n + (m + l))
three xs ys zs n m l h k i = let e = length-append xs (ys ++ zs) in let f = length-append ys zs in omega (arith, e, f, h, k, i)

more : (n m : ℕ) → n ≤ m → n ≤ 1 + m
more n m h = omega (arith, h)

mutual
  pub binders_few : (f : Form) → length (binders f) ≤ nodes f
  binders_few (Form.number v) = omega arith
  binders_few (Form.variable x) = omega arith
  binders_few (Form.sum a b) = two (binders a) (binders b) (nodes a) (nodes b) (binders_few a) (binders_few b)
  binders_few (Form.difference a b) = two (binders a) (binders b) (nodes a) (nodes b) (binders_few a) (binders_few b)
  binders_few (Form.cut a b) = two (binders a) (binders b) (nodes a) (nodes b) (binders_few a) (binders_few b)
  binders_few (Form.product a b span) = two (binders a) (binders b) (nodes a) (nodes b) (binders_few a) (binders_few b)
  binders_few (Form.min a b) = two (binders a) (binders b) (nodes a) (nodes b) (binders_few a) (binders_few b)
  binders_few (Form.max a b) = two (binders a) (binders b) (nodes a) (nodes b) (binders_few a) (binders_few b)
  binders_few (Form.imply a b) = two (binders a) (binders b) (nodes a) (nodes b) (binders_few a) (binders_few b)
  binders_few (Form.co_imply a b) = two (binders a) (binders b) (nodes a) (nodes b) (binders_few a) (binders_few b)
  binders_few (Form.scale w a) = more _ _ (binders_few a)
  binders_few (Form.validate a) = more _ _ (binders_few a)
  binders_few (Form.co_validate a) = more _ _ (binders_few a)
  binders_few (Form.embed g) = more _ _ (binders_few_in g)
  binders_few (Form.iverson g) = more _ _ (binders_few_in g)
  binders_few (Form.select g a b) = three (binders_in g) (binders a) (binders b) (nodes_in g) (nodes a) (nodes b) (binders_few_in g) (binders_few a) (binders_few b)
  binders_few (Form.bind up x name ty a) = let h = binders_few a in omega (arith, h)

  pub binders_few_in : (g : Cond) → length (binders_in g) ≤ nodes_in g
  binders_few_in (Cond.constant b) = omega arith
  binders_few_in (Cond.flag x) = omega arith
  binders_few_in (Cond.not g) = more _ _ (binders_few_in g)
  binders_few_in (Cond.and a b) = two (binders_in a) (binders_in b) (nodes_in a) (nodes_in b) (binders_few_in a) (binders_few_in b)
  binders_few_in (Cond.or a b) = two (binders_in a) (binders_in b) (nodes_in a) (nodes_in b) (binders_few_in a) (binders_few_in b)
  binders_few_in (Cond.same a b) = two (binders_in a) (binders_in b) (nodes_in a) (nodes_in b) (binders_few_in a) (binders_few_in b)
  binders_few_in (Cond.le a b) = two (binders a) (binders b) (nodes a) (nodes b) (binders_few a) (binders_few b)
  binders_few_in (Cond.lt a b) = two (binders a) (binders b) (nodes a) (nodes b) (binders_few a) (binders_few b)
  binders_few_in (Cond.equal a b) = two (binders a) (binders b) (nodes a) (nodes b) (binders_few a) (binders_few b)
  binders_few_in (Cond.ite g a b) = three (binders_in g) (binders_in a) (binders_in b) (nodes_in g) (nodes_in a) (nodes_in b) (binders_few_in g) (binders_few_in a) (binders_few_in b)

map_end : (vs : List VarInfo) (v : VarInfo) → types_of_variables (vs ++ v ∷ []) ≡ types_of_variables vs ++ (v.ty ∷ [])
map_end [] v = refl
map_end (u ∷ vs) v = ap (λ l. u.ty ∷ l) (map_end vs v)

pub named_types : (vs : List VarInfo) (bs : List Binder) → types_of_variables (named vs bs) ≡ types_of_variables vs ++ new_types bs
named_types vs [] = sym (append-nil (types_of_variables vs))
named_types vs (b ∷ bs) = named_types (vs ++ (record { name = name_of vs b.0; ty = b.1 } ∷ [])) bs ∙ ap (λ l. l ++ new_types bs) (map_end vs (record { name = name_of vs b.0; ty = b.1 })) ∙ append_assoc (types_of_variables vs) (b.1 ∷ []) (new_types bs)

pub same_length : (vs : List VarInfo) → length (types_of_variables vs) ≡ length vs
same_length [] = refl
same_length (v ∷ vs) = ap suc (same_length vs)
