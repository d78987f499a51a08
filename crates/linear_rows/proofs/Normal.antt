-- Sums with increasing variables: their coefficients determine them.
use Rattle.std.proofs.Common.{◌≡◌, ℕ, ◌<◌, List, [], ◌∷◌, refl, sym, ap, ap₂, ◌∙◌, arith, subst, Bool, true, false, cond, eqb, ltb, ◌||◌}
use Rattle.std.specs.Prelude.{ℤ, pos, negsuc, ◌+ℤ◌, ◌*ℤ◌}
use Rattle.std.proofs.Math.IntN.{*ℤ-zero}
use borrow.Author.Differences.{ints}
use Prim.Native.Nat.{zero, suc}
use Rattle.std.proofs.lemmas.Bool.{eqb-true}
use Rattle.std.specs.List.{All}
use Rattle.std.proofs.lemmas.List.Elements.{All-nil, All-cons, All-head, All-tail, All-weaker}
use Rattle.heyvl_num.proofs.exported.Integers.{ring}
use Rattle.linear_rows.specs.Terms.{coefficient, is_in, IsNormal, IsOver, put_term, add_term, add_terms}
use Rattle.linear_rows.proofs.Sums.{sum_at-put}
use Rattle.linear_rows.proofs.Moves.{coefficient-is, coefficient-add, only}
use Rattle.linear_rows.proofs.Between.{All-both}

pub put-normal : (v : ℕ) (c : ℤ) (ts : List (ℕ × ℤ)) → All (λ u. v < u.0) ts → IsNormal ts → IsNormal (put_term v c ts)
put-normal v (pos zero) ts h k = k
put-normal v (pos (suc n)) ts h k = ((λ e. absurd (omega (arith, ints, e))), (h, k))
put-normal v (negsuc n) ts h k = ((λ e. absurd (omega (arith, ints, e))), (h, k))

put-all : (P : ℕ × ℤ → Type 0) (v : ℕ) (c : ℤ) (ts : List (ℕ × ℤ)) → P (v, c) → All P ts → All P (put_term v c ts)
put-all P v (pos zero) ts p h = h
put-all P v (pos (suc n)) ts p h = All-cons P (v, pos (suc n)) ts p h
put-all P v (negsuc n) ts p h = All-cons P (v, negsuc n) ts p h

-- A property of all variables is preserved.
add_term-all : (P : ℕ → Type 0) (v : ℕ) (c : ℤ) (ts : List (ℕ × ℤ)) → P v → All (λ t. P t.0) ts → All (λ t. P t.0) (add_term v c ts)
unfolding add_term
add_term-all P v c [] p h = put-all (λ t. P t.0) v c [] p h
add_term-all P v c (t ∷ ts) p h = go (eqb v t.0) (ltb v t.0) (add_term-all P v c ts p (All-tail (λ t. P t.0) t ts h))
  where
    go : (e l : Bool) → All (λ t. P t.0) (add_term v c ts) → All (λ t. P t.0) (cond e (put_term v (c +ℤ t.1) ts) (cond l (put_term v c (t ∷ ts)) (t ∷ add_term v c ts)))
    go true l ih = put-all (λ t. P t.0) v (c +ℤ t.1) ts p (All-tail (λ t. P t.0) t ts h)
    go false true ih = put-all (λ t. P t.0) v c (t ∷ ts) p h
    go false false ih = All-cons (λ t. P t.0) t (add_term v c ts) (All-head (λ t. P t.0) t ts h) ih

above : (v u : ℕ) → eqb v u ≡ false → ltb v u ≡ false → u < v
above v u e m = grind arith

under : (v u : ℕ) → ltb v u ≡ true → v < u
under v u m = grind arith

add_term-normal : (v : ℕ) (c : ℤ) (ts : List (ℕ × ℤ)) → IsNormal ts → IsNormal (add_term v c ts)
unfolding add_term
add_term-normal v c [] k = put-normal v c [] (All-nil _) k
add_term-normal v c (t ∷ ts) k = go (eqb v t.0) refl (ltb v t.0) refl (add_term-normal v c ts k.1.1)
  where
    go : (e : Bool) → eqb v t.0 ≡ e → (l : Bool) → ltb v t.0 ≡ l → IsNormal (add_term v c ts) → IsNormal (cond e (put_term v (c +ℤ t.1) ts) (cond l (put_term v c (t ∷ ts)) (t ∷ add_term v c ts)))
    go true e l m ih = put-normal v (c +ℤ t.1) ts (subst (λ x. All (λ u. x < u.0) ts) (sym (eqb-true v t.0 e)) k.1.0) k.1.1
    go false e true m ih = put-normal v c (t ∷ ts) (All-cons (λ u. v < u.0) t ts (under v t.0 m) (All-weaker (λ u. t.0 < u.0) (λ u. v < u.0) (λ u h. let l = under v t.0 m in omega (arith, l, h)) ts k.1.0)) k
    go false e false m ih = (k.0, (add_term-all (λ x. t.0 < x) v c ts (above v t.0 e m) k.1.0, ih))

pub add-normal : (k : ℤ) (ts us : List (ℕ × ℤ)) → IsNormal us → IsNormal (add_terms k ts us)
unfolding add_terms
add-normal k [] us h = h
add-normal k (t ∷ ts) us h = add_term-normal t.0 (k *ℤ t.1) (add_terms k ts us) (add-normal k ts us h)

pub add-all : (P : ℕ → Type 0) (k : ℤ) (ts us : List (ℕ × ℤ)) → All (λ t. P t.0) ts → All (λ t. P t.0) us → All (λ t. P t.0) (add_terms k ts us)
unfolding add_terms
add-all P k [] us h l = l
add-all P k (t ∷ ts) us h l = add_term-all P t.0 (k *ℤ t.1) (add_terms k ts us) (All-head (λ t. P t.0) t ts h) (add-all P k ts us (All-tail (λ t. P t.0) t ts h) l)

-- A variable below the first one has the coefficient 0.
pub later : (x : ℕ) (ts : List (ℕ × ℤ)) → All (λ u. x < u.0) ts → coefficient x ts ≡ pos 0
unfolding coefficient
later x [] h = refl
later x (t ∷ ts) h = go (eqb t.0 x) refl (later x ts (All-tail (λ u. x < u.0) t ts h))
  where
    go : (e : Bool) → eqb t.0 x ≡ e → coefficient x ts ≡ pos 0 → cond e t.1 (pos 0) +ℤ coefficient x ts ≡ pos 0
    go true e ih = let l = All-head (λ u. x < u.0) t ts h in absurd (omega (arith, l, eqb-true t.0 x e))
    go false e ih = rw ih refl

pub lacks : (x : ℕ) (ts : List (ℕ × ℤ)) → IsNormal ts → coefficient x ts ≡ pos 0 → All (λ t. eqb t.0 x ≡ false) ts
unfolding coefficient
lacks x [] k h = All-nil _
lacks x (t ∷ ts) k h = go (lacks x ts k.1.1) (eqb t.0 x) refl h
  where
    drop_zero : (z : ℤ) → pos 0 +ℤ z ≡ z
    drop_zero z = omega (arith, ints)

    add_zero : (z : ℤ) → z +ℤ pos 0 ≡ z
    add_zero z = omega (arith, ints)

    go : (coefficient x ts ≡ pos 0 → All (λ t. eqb t.0 x ≡ false) ts) → (e : Bool) → eqb t.0 x ≡ e → cond e t.1 (pos 0) +ℤ coefficient x ts ≡ pos 0 → All (λ t. eqb t.0 x ≡ false) (t ∷ ts)
    go ih true e h = absurd (k.0 (sym (add_zero t.1) ∙ ap (λ z. t.1 +ℤ z) (sym (later x ts (subst (λ y. All (λ u. y < u.0) ts) (eqb-true t.0 x e) k.1.0))) ∙ h))
    go ih false e h = All-cons (λ t. eqb t.0 x ≡ false) t ts e (ih (sym (drop_zero (coefficient x ts)) ∙ h))

pub fewer : (x : ℕ) (xs : List ℕ) (ts : List (ℕ × ℤ)) → IsNormal ts → coefficient x ts ≡ pos 0 → IsOver (x ∷ xs) ts → IsOver xs ts
fewer x xs ts k e h = All-both (λ t. eqb t.0 x ≡ false) (λ t. is_in t.0 (x ∷ xs) ≡ true) (λ t. is_in t.0 xs ≡ true) (λ t a b. go (eqb t.0 x) (is_in t.0 xs) a b) ts (lacks x ts k e) h
  where
    go : (a b : Bool) → a ≡ false → (a || b) ≡ true → b ≡ true
    go true b h k = absurd (cc)
    go false b h k = k

-- A normal sum whose coefficients are all 0 is empty.
pub all_zero : (ts : List (ℕ × ℤ)) → IsNormal ts → ((x : ℕ) → coefficient x ts ≡ pos 0) → ts ≡ []
all_zero [] k h = refl
all_zero (t ∷ ts) k h = absurd (differ t.0 (All-head (λ u. eqb u.0 t.0 ≡ false) t ts (lacks t.0 (t ∷ ts) k (h t.0))))
  where
    differ : (n : ℕ) → eqb n n ≡ false → ⊥
    differ n e = grind arith

pub coefficient-cons : (x : ℕ) (t : ℕ × ℤ) (ts : List (ℕ × ℤ)) → coefficient x (t ∷ ts) ≡ cond (eqb t.0 x) t.1 (pos 0) +ℤ coefficient x ts
unfolding coefficient
coefficient-cons x t ts = refl

pub coefficient-nil : (x : ℕ) → coefficient x [] ≡ pos 0
unfolding coefficient
coefficient-nil x = refl

same_var : (n : ℕ) → eqb n n ≡ true
same_var n = grind arith

add_zero : (z : ℤ) → z +ℤ pos 0 ≡ z
add_zero z = omega (arith, ints)

pub head_coef : (t : ℕ × ℤ) (ts : List (ℕ × ℤ)) → IsNormal (t ∷ ts) → coefficient t.0 (t ∷ ts) ≡ t.1
head_coef t ts k = coefficient-cons t.0 t ts ∙ ap₂ (λ b z. cond b t.1 (pos 0) +ℤ z) (same_var t.0) (later t.0 ts k.1.0) ∙ add_zero t.1

before : (t u : ℕ × ℤ) (us : List (ℕ × ℤ)) → t.0 < u.0 → IsNormal (u ∷ us) → coefficient t.0 (u ∷ us) ≡ pos 0
before t u us l k = later t.0 (u ∷ us) (All-cons (λ v. t.0 < v.0) u us l (All-weaker (λ v. u.0 < v.0) (λ v. t.0 < v.0) (λ v h. omega (arith, l, h)) us k.1.0))

cancel_left : (a b x y : ℤ) → a ≡ b → a +ℤ x ≡ b +ℤ y → x ≡ y
cancel_left a b x y e h = omega (arith, ints, e, h)

pub normal_unique : (ts us : List (ℕ × ℤ)) → IsNormal ts → IsNormal us → ((x : ℕ) → coefficient x ts ≡ coefficient x us) → ts ≡ us
normal_unique [] us k l h = sym (all_zero us l (λ x. sym (h x) ∙ coefficient-nil x))
normal_unique (t ∷ ts) [] k l h = all_zero (t ∷ ts) k (λ x. h x ∙ coefficient-nil x)
normal_unique (t ∷ ts) (u ∷ us) k l h = go (normal_unique ts us k.1.1 l.1.1) (ltb t.0 u.0) refl (ltb u.0 t.0) refl
  where
    under : (v w : ℕ) → ltb v w ≡ true → v < w
    under v w e = grind arith

    level : (v w : ℕ) → ltb v w ≡ false → ltb w v ≡ false → v ≡ w
    level v w e f = grind arith

    go : (((x : ℕ) → coefficient x ts ≡ coefficient x us) → ts ≡ us) → (a : Bool) → ltb t.0 u.0 ≡ a → (b : Bool) → ltb u.0 t.0 ≡ b → t ∷ ts ≡ u ∷ us
    go ih true e b f = absurd (k.0 (sym (head_coef t ts k) ∙ h t.0 ∙ before t u us (under t.0 u.0 e) l))
    go ih false e true f = absurd (l.0 (sym (head_coef u us l) ∙ sym (h u.0) ∙ before u t ts (under u.0 t.0 f) k))
    go ih false e false f =
        let v = level t.0 u.0 e f in
        let c : t.1 ≡ u.1 = sym (head_coef t ts k) ∙ h t.0 ∙ ap (λ x. coefficient x (u ∷ us)) v ∙ head_coef u us l in
        ap₂ (λ (p : ℕ × ℤ) (ps : List (ℕ × ℤ)). p ∷ ps) (ap₂ (λ (n : ℕ) (z : ℤ). (n, z)) v c) (ih (λ x. cancel_left _ _ _ _ (ap₂ (λ n z. cond (eqb n x) z (pos 0)) v c) (sym (coefficient-cons x t ts) ∙ h x ∙ coefficient-cons x u us)))

pub coefficient-put : (x v : ℕ) (c : ℤ) (ts : List (ℕ × ℤ)) → coefficient x (put_term v c ts) ≡ (c *ℤ only x v) +ℤ coefficient x ts
coefficient-put x v c ts = coefficient-is x (put_term v c ts) ∙ sum_at-put (only x) v c ts ∙ ap (λ z. (c *ℤ only x v) +ℤ z) (sym (coefficient-is x ts))

cons_only : (x : ℕ) (t : ℕ × ℤ) (ts : List (ℕ × ℤ)) → coefficient x (t ∷ ts) ≡ (t.1 *ℤ only x t.0) +ℤ coefficient x ts
cons_only x t ts = coefficient-cons x t ts ∙ ap (λ z. z +ℤ coefficient x ts) (go (eqb t.0 x))
  where
    go : (b : Bool) → cond b t.1 (pos 0) ≡ t.1 *ℤ cond b (pos 1) (pos 0)
    go true = omega (arith, ints)
    go false = sym (*ℤ-zero t.1)

pub take_first : (p : ℤ) (t : ℕ × ℤ) (ts us : List (ℕ × ℤ)) → IsNormal (t ∷ ts) → IsNormal us → All (λ u. t.0 < u.0) us → add_terms p (t ∷ ts) us ≡ put_term t.0 (p *ℤ t.1) (add_terms p ts us)
take_first p t ts us k m l = normal_unique _ _ (add-normal p (t ∷ ts) us m) (put-normal t.0 (p *ℤ t.1) (add_terms p ts us) (add-all (λ v. t.0 < v) p ts us k.1.0 l) (add-normal p ts us m))
    (λ x. coefficient-add x p (t ∷ ts) us ∙ ap (λ z. (p *ℤ z) +ℤ coefficient x us) (cons_only x t ts) ∙ step p t.1 (only x t.0) (coefficient x ts) (coefficient x us) ∙ ap (λ z. ((p *ℤ t.1) *ℤ only x t.0) +ℤ z) (sym (coefficient-add x p ts us)) ∙ sym (coefficient-put x t.0 (p *ℤ t.1) (add_terms p ts us)))
  where
    step : (p c o s u : ℤ) → (p *ℤ ((c *ℤ o) +ℤ s)) +ℤ u ≡ ((p *ℤ c) *ℤ o) +ℤ ((p *ℤ s) +ℤ u)
    step p c o s u = simp ring

pub take_second : (p : ℤ) (ts : List (ℕ × ℤ)) (u : ℕ × ℤ) (us : List (ℕ × ℤ)) → IsNormal (u ∷ us) → All (λ t. u.0 < t.0) ts → add_terms p ts (u ∷ us) ≡ put_term u.0 u.1 (add_terms p ts us)
take_second p ts u us k l = normal_unique _ _ (add-normal p ts (u ∷ us) k) (put-normal u.0 u.1 (add_terms p ts us) (add-all (λ v. u.0 < v) p ts us l k.1.0) (add-normal p ts us k.1.1))
    (λ x. coefficient-add x p ts (u ∷ us) ∙ ap (λ z. (p *ℤ coefficient x ts) +ℤ z) (cons_only x u us) ∙ step (u.1 *ℤ only x u.0) (coefficient x us) (p *ℤ coefficient x ts) ∙ ap (λ z. (u.1 *ℤ only x u.0) +ℤ z) (sym (coefficient-add x p ts us)) ∙ sym (coefficient-put x u.0 u.1 (add_terms p ts us)))
  where
    step : (a u s : ℤ) → s +ℤ (a +ℤ u) ≡ a +ℤ (s +ℤ u)
    step a u s = simp ring

pub take_both : (p : ℤ) (t : ℕ × ℤ) (ts : List (ℕ × ℤ)) (u : ℕ × ℤ) (us : List (ℕ × ℤ)) → IsNormal (t ∷ ts) → IsNormal (u ∷ us) → t.0 ≡ u.0 → add_terms p (t ∷ ts) (u ∷ us) ≡ put_term t.0 ((p *ℤ t.1) +ℤ u.1) (add_terms p ts us)
take_both p t ts u us k l e = normal_unique _ _ (add-normal p (t ∷ ts) (u ∷ us) l) (put-normal t.0 ((p *ℤ t.1) +ℤ u.1) (add_terms p ts us) (add-all (λ v. t.0 < v) p ts us k.1.0 (subst (λ v. All (λ w. v < w.0) us) (sym e) l.1.0)) (add-normal p ts us l.1.1))
    (λ x. coefficient-add x p (t ∷ ts) (u ∷ us) ∙ ap₂ (λ y z. (p *ℤ y) +ℤ z) (cons_only x t ts) (cons_only x u us ∙ ap (λ v. (u.1 *ℤ only x v) +ℤ coefficient x us) (sym e)) ∙ step p t.1 (only x t.0) (coefficient x ts) u.1 (coefficient x us) ∙ ap (λ z. (((p *ℤ t.1) +ℤ u.1) *ℤ only x t.0) +ℤ z) (sym (coefficient-add x p ts us)) ∙ sym (coefficient-put x t.0 ((p *ℤ t.1) +ℤ u.1) (add_terms p ts us)))
  where
    step : (p c o s d u : ℤ) → (p *ℤ ((c *ℤ o) +ℤ s)) +ℤ ((d *ℤ o) +ℤ u) ≡ (((p *ℤ c) +ℤ d) *ℤ o) +ℤ ((p *ℤ s) +ℤ u)
    step p c o s d u = simp ring
