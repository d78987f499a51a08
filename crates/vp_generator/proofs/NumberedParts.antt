-- The forms of three parts, whose second and third part are numbered after the binders of the
-- first; and bodies of binders.
use Rattle.std.proofs.Common.{◌≡◌, ℕ, ◌+◌, ap, ap₂, ◌∙◌, arith, List, [], ◌∷◌, ◌++◌, length, Box}
use Rattle.std.proofs.lemmas.List.{length-append}
use Rattle.std.specs.declared.alloc.Global.{Global}
use Rattle.heylo_formula.specs.declared.forms.Cond as C
use Rattle.heylo_formula.specs.declared.forms.Form as F
use Rattle.heylo_formula.specs.Formula.{Form, Cond}
use Rattle.heylo_formula.specs.PlainTrees.{form_of, cond_of}
use Rattle.heylo_formula.proofs.exported.Mirrors.{select_form, ite_cond}
use Rattle.heylo_formula.specs.BinderNames.{Binder, binders, binders_in}
use Rattle.vp_generator.specs.PrenexedForms.{unbound, unbound_in, renumbered}
use Rattle.vp_generator.specs.internal.Lookup.{number_in}
use Rattle.vp_generator.proofs.ScopeNumbers.{innermost}
use Prim.Native.Nat.{suc}

after : (x : ℕ) (xs ys zs : List Binder) → ys ≡ xs ++ zs → x + length ys ≡ x + length xs + length zs
after x xs ys zs d = let e : length ys ≡ length xs + length zs = ap length d ∙ length-append xs zs in omega (arith, e)

pub select_numbered : (s z : List (ℕ × ℕ)) (x : ℕ) (xs ys : List Binder) (g : Cond) (a b : Form) (t : Box C.Cond Global) (l r : Box F.Form Global) → z ≡ s → ys ≡ xs ++ binders_in g → cond_of t.value ≡ unbound_in (number_in s) (x + length xs) g → form_of l.value ≡ unbound (number_in z) (x + length ys) a → form_of r.value ≡ unbound (number_in z) (x + length ys + length (binders a)) b → form_of (F.Select t l r) ≡ unbound (number_in s) (x + length xs) (Form.select g a b)
select_numbered s z x xs ys g a b t l r e d h i j = let n = after x xs ys (binders_in g) d in select_form t l r ∙ ap₂ (λ p (q : Form × Form). Form.select p q.0 q.1) h (ap₂ (λ p q. (p, q)) (i ∙ ap₂ (λ w k. unbound (number_in w) k a) e n) (j ∙ ap₂ (λ w k. unbound (number_in w) (k + length (binders a)) b) e n))

pub ite_numbered : (s z : List (ℕ × ℕ)) (x : ℕ) (xs ys : List Binder) (g h k : Cond) (t l r : Box C.Cond Global) → z ≡ s → ys ≡ xs ++ binders_in g → cond_of t.value ≡ unbound_in (number_in s) (x + length xs) g → cond_of l.value ≡ unbound_in (number_in z) (x + length ys) h → cond_of r.value ≡ unbound_in (number_in z) (x + length ys + length (binders_in h)) k → cond_of (C.Ite t l r) ≡ unbound_in (number_in s) (x + length xs) (Cond.ite g h k)
ite_numbered s z x xs ys g h k t l r e d o i j = let n = after x xs ys (binders_in g) d in ite_cond t l r ∙ ap₂ (λ p (q : Cond × Cond). Cond.ite p q.0 q.1) o (ap₂ (λ p q. (p, q)) (i ∙ ap₂ (λ w m. unbound_in (number_in w) m h) e n) (j ∙ ap₂ (λ w m. unbound_in (number_in w) (m + length (binders_in h)) k) e n))

pub body_numbered : (s z : List (ℕ × ℕ)) (v x k : ℕ) (xs ys : List Binder) (b : Binder) (a f : Form) → k ≡ x + length xs → z ≡ s ++ (v, k) ∷ [] → ys ≡ xs ++ b ∷ [] → f ≡ unbound (number_in z) (x + length ys) a → f ≡ unbound (renumbered v (x + length xs) (number_in s)) (suc (x + length xs)) a
body_numbered s z v x k xs ys b a f n e d h =
    let l : length ys ≡ suc (length xs) = ap length d ∙ length-append xs (b ∷ []) ∙ omega arith in
    let y : x + length ys ≡ suc (x + length xs) = omega (arith, l) in
    let m : number_in z ≡ renumbered v (x + length xs) (number_in s) = ap number_in e ∙ innermost (λ i. i) s (v, k) ∙ ap (λ i. renumbered v i (number_in s)) n in
    h ∙ ap₂ (λ w i. unbound w i a) m y
