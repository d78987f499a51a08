-- Formulas without binders over other variables, by position: all variables are moved at once, and
-- then renamed one by one.
use Rattle.std.proofs.Common.{◌≡◌, ◌∙◌, ◌<◌, ◌+◌, ◌==◌, ◌||◌, ℕ, refl, sym, ap, ap₂, subst, arith, Bool, true, false, cond, length}
use Rattle.heylo_formula.specs.BinderNames.{binders, binders_in}
use Rattle.heylo_formula.specs.Binders.{has_binder, has_binder_in}
use Rattle.heylo_formula.specs.Formula.{Form, Cond}
use Rattle.heylo_formula.specs.Shifts.{shifted, shifted_in}
use Rattle.heylo_formula.specs.Substitution.{renamed, renamed_in}
use Rattle.heylo_formula.specs.Variables.{is_free, is_free_in, IsOver, IsOverIn}
use Rattle.heylo_formula.proofs.exported.Agreement.{or_false}
use Rattle.vp_generator.specs.PrenexedForms.{Numbering, unbound, unbound_in}

three : {A B C D : Type 0} (f : A → B → C → D) (a a' : A) (b b' : B) (c c' : C) → a ≡ a' → b ≡ b' → c ≡ c' → f a b c ≡ f a' b' c'
three f a a' b b' c c' h k i = ap (λ x. f x b c) h ∙ (ap (λ x. f a' x c) k ∙ ap (λ x. f a' b' x) i)

left_free : (a b : Bool) → a ≡ true → (a || b) ≡ true
left_free true b h = refl
left_free false b h = absurd (cc)

right_free : (a b : Bool) → b ≡ true → (a || b) ≡ true
right_free true b h = refl
right_free false b h = h

alike : (x : ℕ) → (x == x) ≡ true
alike x = grind arith

-- ---- Moved

mutual
  pub shifted_is : (d n : ℕ) (f : Form) → has_binder f ≡ false → shifted d f ≡ unbound (λ y. d + y) n f
  shifted_is d n (Form.number v) p = refl
  shifted_is d n (Form.variable x) p = refl
  shifted_is d n (Form.sum a b) p = let q = or_false (has_binder a) (has_binder b) p in ap₂ (λ s t. Form.sum s t) (shifted_is d n a q.0) (shifted_is d (n + length (binders a)) b q.1)
  shifted_is d n (Form.difference a b) p = let q = or_false (has_binder a) (has_binder b) p in ap₂ (λ s t. Form.difference s t) (shifted_is d n a q.0) (shifted_is d (n + length (binders a)) b q.1)
  shifted_is d n (Form.cut a b) p = let q = or_false (has_binder a) (has_binder b) p in ap₂ (λ s t. Form.cut s t) (shifted_is d n a q.0) (shifted_is d (n + length (binders a)) b q.1)
  shifted_is d n (Form.min a b) p = let q = or_false (has_binder a) (has_binder b) p in ap₂ (λ s t. Form.min s t) (shifted_is d n a q.0) (shifted_is d (n + length (binders a)) b q.1)
  shifted_is d n (Form.max a b) p = let q = or_false (has_binder a) (has_binder b) p in ap₂ (λ s t. Form.max s t) (shifted_is d n a q.0) (shifted_is d (n + length (binders a)) b q.1)
  shifted_is d n (Form.imply a b) p = let q = or_false (has_binder a) (has_binder b) p in ap₂ (λ s t. Form.imply s t) (shifted_is d n a q.0) (shifted_is d (n + length (binders a)) b q.1)
  shifted_is d n (Form.co_imply a b) p = let q = or_false (has_binder a) (has_binder b) p in ap₂ (λ s t. Form.co_imply s t) (shifted_is d n a q.0) (shifted_is d (n + length (binders a)) b q.1)
  shifted_is d n (Form.product a b span) p = let q = or_false (has_binder a) (has_binder b) p in ap₂ (λ s t. Form.product s t span) (shifted_is d n a q.0) (shifted_is d (n + length (binders a)) b q.1)
  shifted_is d n (Form.scale r a) p = ap (λ s. Form.scale r s) (shifted_is d n a p)
  shifted_is d n (Form.validate a) p = ap (λ s. Form.validate s) (shifted_is d n a p)
  shifted_is d n (Form.co_validate a) p = ap (λ s. Form.co_validate s) (shifted_is d n a p)
  shifted_is d n (Form.embed g) p = ap (λ s. Form.embed s) (shifted_is_in d n g p)
  shifted_is d n (Form.iverson g) p = ap (λ s. Form.iverson s) (shifted_is_in d n g p)
  shifted_is d n (Form.select g a b) p = let q = or_false (has_binder_in g) (has_binder a || has_binder b) p in let r = or_false (has_binder a) (has_binder b) q.1 in three (λ (s : Cond) (t u : Form). Form.select s t u) _ _ _ _ _ _ (shifted_is_in d n g q.0) (shifted_is d (n + length (binders_in g)) a r.0) (shifted_is d (n + length (binders_in g) + length (binders a)) b r.1)
  shifted_is d n (Form.bind up x name ty a) p = absurd (cc)

  pub shifted_is_in : (d n : ℕ) (g : Cond) → has_binder_in g ≡ false → shifted_in d g ≡ unbound_in (λ y. d + y) n g
  shifted_is_in d n (Cond.constant b) p = refl
  shifted_is_in d n (Cond.flag x) p = refl
  shifted_is_in d n (Cond.not g) p = ap (λ s. Cond.not s) (shifted_is_in d n g p)
  shifted_is_in d n (Cond.and g k) p = let q = or_false (has_binder_in g) (has_binder_in k) p in ap₂ (λ s t. Cond.and s t) (shifted_is_in d n g q.0) (shifted_is_in d (n + length (binders_in g)) k q.1)
  shifted_is_in d n (Cond.or g k) p = let q = or_false (has_binder_in g) (has_binder_in k) p in ap₂ (λ s t. Cond.or s t) (shifted_is_in d n g q.0) (shifted_is_in d (n + length (binders_in g)) k q.1)
  shifted_is_in d n (Cond.same g k) p = let q = or_false (has_binder_in g) (has_binder_in k) p in ap₂ (λ s t. Cond.same s t) (shifted_is_in d n g q.0) (shifted_is_in d (n + length (binders_in g)) k q.1)
  shifted_is_in d n (Cond.le a b) p = let q = or_false (has_binder a) (has_binder b) p in ap₂ (λ s t. Cond.le s t) (shifted_is d n a q.0) (shifted_is d (n + length (binders a)) b q.1)
  shifted_is_in d n (Cond.lt a b) p = let q = or_false (has_binder a) (has_binder b) p in ap₂ (λ s t. Cond.lt s t) (shifted_is d n a q.0) (shifted_is d (n + length (binders a)) b q.1)
  shifted_is_in d n (Cond.equal a b) p = let q = or_false (has_binder a) (has_binder b) p in ap₂ (λ s t. Cond.equal s t) (shifted_is d n a q.0) (shifted_is d (n + length (binders a)) b q.1)
  shifted_is_in d n (Cond.ite g k l) p = let q = or_false (has_binder_in g) (has_binder_in k || has_binder_in l) p in let r = or_false (has_binder_in k) (has_binder_in l) q.1 in three (λ (s t u : Cond). Cond.ite s t u) _ _ _ _ _ _ (shifted_is_in d n g q.0) (shifted_is_in d (n + length (binders_in g)) k r.0) (shifted_is_in d (n + length (binders_in g) + length (binders_in k)) l r.1)

-- ---- Renamed

one_renamed : (b : Bool) (z u : ℕ) → cond b (Form.variable z) (Form.variable u) ≡ Form.variable (cond b z u)
one_renamed true z u = refl
one_renamed false z u = refl

flag_renamed : (b : Bool) (z u : ℕ) → cond b (Cond.flag z) (Cond.flag u) ≡ Cond.flag (cond b z u)
flag_renamed true z u = refl
flag_renamed false z u = refl

mutual
  pub renamed_is : (y z n : ℕ) (m o : Numbering) (f : Form) → has_binder f ≡ false → ((w : ℕ) → is_free w f ≡ true → cond (y == m w) z (m w) ≡ o w) → renamed y z (unbound m n f) ≡ unbound o n f
  renamed_is y z n m o (Form.number v) p h = refl
  renamed_is y z n m o (Form.variable x) p h = one_renamed (y == m x) z (m x) ∙ ap (λ u. Form.variable u) (h x (alike x))
  renamed_is y z n m o (Form.sum a b) p h = let q = or_false (has_binder a) (has_binder b) p in ap₂ (λ s t. Form.sum s t) (renamed_is y z n m o a q.0 (λ w j. h w (left_free (is_free w a) (is_free w b) j))) (renamed_is y z (n + length (binders a)) m o b q.1 (λ w j. h w (right_free (is_free w a) (is_free w b) j)))
  renamed_is y z n m o (Form.difference a b) p h = let q = or_false (has_binder a) (has_binder b) p in ap₂ (λ s t. Form.difference s t) (renamed_is y z n m o a q.0 (λ w j. h w (left_free (is_free w a) (is_free w b) j))) (renamed_is y z (n + length (binders a)) m o b q.1 (λ w j. h w (right_free (is_free w a) (is_free w b) j)))
  renamed_is y z n m o (Form.cut a b) p h = let q = or_false (has_binder a) (has_binder b) p in ap₂ (λ s t. Form.cut s t) (renamed_is y z n m o a q.0 (λ w j. h w (left_free (is_free w a) (is_free w b) j))) (renamed_is y z (n + length (binders a)) m o b q.1 (λ w j. h w (right_free (is_free w a) (is_free w b) j)))
  renamed_is y z n m o (Form.min a b) p h = let q = or_false (has_binder a) (has_binder b) p in ap₂ (λ s t. Form.min s t) (renamed_is y z n m o a q.0 (λ w j. h w (left_free (is_free w a) (is_free w b) j))) (renamed_is y z (n + length (binders a)) m o b q.1 (λ w j. h w (right_free (is_free w a) (is_free w b) j)))
  renamed_is y z n m o (Form.max a b) p h = let q = or_false (has_binder a) (has_binder b) p in ap₂ (λ s t. Form.max s t) (renamed_is y z n m o a q.0 (λ w j. h w (left_free (is_free w a) (is_free w b) j))) (renamed_is y z (n + length (binders a)) m o b q.1 (λ w j. h w (right_free (is_free w a) (is_free w b) j)))
  renamed_is y z n m o (Form.imply a b) p h = let q = or_false (has_binder a) (has_binder b) p in ap₂ (λ s t. Form.imply s t) (renamed_is y z n m o a q.0 (λ w j. h w (left_free (is_free w a) (is_free w b) j))) (renamed_is y z (n + length (binders a)) m o b q.1 (λ w j. h w (right_free (is_free w a) (is_free w b) j)))
  renamed_is y z n m o (Form.co_imply a b) p h = let q = or_false (has_binder a) (has_binder b) p in ap₂ (λ s t. Form.co_imply s t) (renamed_is y z n m o a q.0 (λ w j. h w (left_free (is_free w a) (is_free w b) j))) (renamed_is y z (n + length (binders a)) m o b q.1 (λ w j. h w (right_free (is_free w a) (is_free w b) j)))
  renamed_is y z n m o (Form.product a b span) p h = let q = or_false (has_binder a) (has_binder b) p in ap₂ (λ s t. Form.product s t span) (renamed_is y z n m o a q.0 (λ w j. h w (left_free (is_free w a) (is_free w b) j))) (renamed_is y z (n + length (binders a)) m o b q.1 (λ w j. h w (right_free (is_free w a) (is_free w b) j)))
  renamed_is y z n m o (Form.scale r a) p h = ap (λ s. Form.scale r s) (renamed_is y z n m o a p h)
  renamed_is y z n m o (Form.validate a) p h = ap (λ s. Form.validate s) (renamed_is y z n m o a p h)
  renamed_is y z n m o (Form.co_validate a) p h = ap (λ s. Form.co_validate s) (renamed_is y z n m o a p h)
  renamed_is y z n m o (Form.embed g) p h = ap (λ s. Form.embed s) (renamed_is_in y z n m o g p h)
  renamed_is y z n m o (Form.iverson g) p h = ap (λ s. Form.iverson s) (renamed_is_in y z n m o g p h)
  renamed_is y z n m o (Form.select g a b) p h = let q = or_false (has_binder_in g) (has_binder a || has_binder b) p in let r = or_false (has_binder a) (has_binder b) q.1 in three (λ (s : Cond) (t u : Form). Form.select s t u) _ _ _ _ _ _ (renamed_is_in y z n m o g q.0 (λ w j. h w (left_free (is_free_in w g) (is_free w a || is_free w b) j))) (renamed_is y z (n + length (binders_in g)) m o a r.0 (λ w j. h w (right_free (is_free_in w g) (is_free w a || is_free w b) (left_free (is_free w a) (is_free w b) j)))) (renamed_is y z (n + length (binders_in g) + length (binders a)) m o b r.1 (λ w j. h w (right_free (is_free_in w g) (is_free w a || is_free w b) (right_free (is_free w a) (is_free w b) j))))
  renamed_is y z n m o (Form.bind up x name ty a) p h = absurd (cc)

  pub renamed_is_in : (y z n : ℕ) (m o : Numbering) (g : Cond) → has_binder_in g ≡ false → ((w : ℕ) → is_free_in w g ≡ true → cond (y == m w) z (m w) ≡ o w) → renamed_in y z (unbound_in m n g) ≡ unbound_in o n g
  renamed_is_in y z n m o (Cond.constant b) p h = refl
  renamed_is_in y z n m o (Cond.flag x) p h = flag_renamed (y == m x) z (m x) ∙ ap (λ u. Cond.flag u) (h x (alike x))
  renamed_is_in y z n m o (Cond.not g) p h = ap (λ s. Cond.not s) (renamed_is_in y z n m o g p h)
  renamed_is_in y z n m o (Cond.and g k) p h = let q = or_false (has_binder_in g) (has_binder_in k) p in ap₂ (λ s t. Cond.and s t) (renamed_is_in y z n m o g q.0 (λ w j. h w (left_free (is_free_in w g) (is_free_in w k) j))) (renamed_is_in y z (n + length (binders_in g)) m o k q.1 (λ w j. h w (right_free (is_free_in w g) (is_free_in w k) j)))
  renamed_is_in y z n m o (Cond.or g k) p h = let q = or_false (has_binder_in g) (has_binder_in k) p in ap₂ (λ s t. Cond.or s t) (renamed_is_in y z n m o g q.0 (λ w j. h w (left_free (is_free_in w g) (is_free_in w k) j))) (renamed_is_in y z (n + length (binders_in g)) m o k q.1 (λ w j. h w (right_free (is_free_in w g) (is_free_in w k) j)))
  renamed_is_in y z n m o (Cond.same g k) p h = let q = or_false (has_binder_in g) (has_binder_in k) p in ap₂ (λ s t. Cond.same s t) (renamed_is_in y z n m o g q.0 (λ w j. h w (left_free (is_free_in w g) (is_free_in w k) j))) (renamed_is_in y z (n + length (binders_in g)) m o k q.1 (λ w j. h w (right_free (is_free_in w g) (is_free_in w k) j)))
  renamed_is_in y z n m o (Cond.le a b) p h = let q = or_false (has_binder a) (has_binder b) p in ap₂ (λ s t. Cond.le s t) (renamed_is y z n m o a q.0 (λ w j. h w (left_free (is_free w a) (is_free w b) j))) (renamed_is y z (n + length (binders a)) m o b q.1 (λ w j. h w (right_free (is_free w a) (is_free w b) j)))
  renamed_is_in y z n m o (Cond.lt a b) p h = let q = or_false (has_binder a) (has_binder b) p in ap₂ (λ s t. Cond.lt s t) (renamed_is y z n m o a q.0 (λ w j. h w (left_free (is_free w a) (is_free w b) j))) (renamed_is y z (n + length (binders a)) m o b q.1 (λ w j. h w (right_free (is_free w a) (is_free w b) j)))
  renamed_is_in y z n m o (Cond.equal a b) p h = let q = or_false (has_binder a) (has_binder b) p in ap₂ (λ s t. Cond.equal s t) (renamed_is y z n m o a q.0 (λ w j. h w (left_free (is_free w a) (is_free w b) j))) (renamed_is y z (n + length (binders a)) m o b q.1 (λ w j. h w (right_free (is_free w a) (is_free w b) j)))
  renamed_is_in y z n m o (Cond.ite g k l) p h = let q = or_false (has_binder_in g) (has_binder_in k || has_binder_in l) p in let r = or_false (has_binder_in k) (has_binder_in l) q.1 in three (λ (s t u : Cond). Cond.ite s t u) _ _ _ _ _ _ (renamed_is_in y z n m o g q.0 (λ w j. h w (left_free (is_free_in w g) (is_free_in w k || is_free_in w l) j))) (renamed_is_in y z (n + length (binders_in g)) m o k r.0 (λ w j. h w (right_free (is_free_in w g) (is_free_in w k || is_free_in w l) (left_free (is_free_in w k) (is_free_in w l) j)))) (renamed_is_in y z (n + length (binders_in g) + length (binders_in k)) m o l r.1 (λ w j. h w (right_free (is_free_in w g) (is_free_in w k || is_free_in w l) (right_free (is_free_in w k) (is_free_in w l) j))))

-- ---- The same places

mutual
  pub same_is : (n : ℕ) (m o : Numbering) (f : Form) → has_binder f ≡ false → ((w : ℕ) → is_free w f ≡ true → m w ≡ o w) → unbound m n f ≡ unbound o n f
  same_is n m o (Form.number v) p h = refl
  same_is n m o (Form.variable x) p h = ap (λ u. Form.variable u) (h x (alike x))
  same_is n m o (Form.sum a b) p h = let q = or_false (has_binder a) (has_binder b) p in ap₂ (λ s t. Form.sum s t) (same_is n m o a q.0 (λ w j. h w (left_free (is_free w a) (is_free w b) j))) (same_is (n + length (binders a)) m o b q.1 (λ w j. h w (right_free (is_free w a) (is_free w b) j)))
  same_is n m o (Form.difference a b) p h = let q = or_false (has_binder a) (has_binder b) p in ap₂ (λ s t. Form.difference s t) (same_is n m o a q.0 (λ w j. h w (left_free (is_free w a) (is_free w b) j))) (same_is (n + length (binders a)) m o b q.1 (λ w j. h w (right_free (is_free w a) (is_free w b) j)))
  same_is n m o (Form.cut a b) p h = let q = or_false (has_binder a) (has_binder b) p in ap₂ (λ s t. Form.cut s t) (same_is n m o a q.0 (λ w j. h w (left_free (is_free w a) (is_free w b) j))) (same_is (n + length (binders a)) m o b q.1 (λ w j. h w (right_free (is_free w a) (is_free w b) j)))
  same_is n m o (Form.min a b) p h = let q = or_false (has_binder a) (has_binder b) p in ap₂ (λ s t. Form.min s t) (same_is n m o a q.0 (λ w j. h w (left_free (is_free w a) (is_free w b) j))) (same_is (n + length (binders a)) m o b q.1 (λ w j. h w (right_free (is_free w a) (is_free w b) j)))
  same_is n m o (Form.max a b) p h = let q = or_false (has_binder a) (has_binder b) p in ap₂ (λ s t. Form.max s t) (same_is n m o a q.0 (λ w j. h w (left_free (is_free w a) (is_free w b) j))) (same_is (n + length (binders a)) m o b q.1 (λ w j. h w (right_free (is_free w a) (is_free w b) j)))
  same_is n m o (Form.imply a b) p h = let q = or_false (has_binder a) (has_binder b) p in ap₂ (λ s t. Form.imply s t) (same_is n m o a q.0 (λ w j. h w (left_free (is_free w a) (is_free w b) j))) (same_is (n + length (binders a)) m o b q.1 (λ w j. h w (right_free (is_free w a) (is_free w b) j)))
  same_is n m o (Form.co_imply a b) p h = let q = or_false (has_binder a) (has_binder b) p in ap₂ (λ s t. Form.co_imply s t) (same_is n m o a q.0 (λ w j. h w (left_free (is_free w a) (is_free w b) j))) (same_is (n + length (binders a)) m o b q.1 (λ w j. h w (right_free (is_free w a) (is_free w b) j)))
  same_is n m o (Form.product a b span) p h = let q = or_false (has_binder a) (has_binder b) p in ap₂ (λ s t. Form.product s t span) (same_is n m o a q.0 (λ w j. h w (left_free (is_free w a) (is_free w b) j))) (same_is (n + length (binders a)) m o b q.1 (λ w j. h w (right_free (is_free w a) (is_free w b) j)))
  same_is n m o (Form.scale r a) p h = ap (λ s. Form.scale r s) (same_is n m o a p h)
  same_is n m o (Form.validate a) p h = ap (λ s. Form.validate s) (same_is n m o a p h)
  same_is n m o (Form.co_validate a) p h = ap (λ s. Form.co_validate s) (same_is n m o a p h)
  same_is n m o (Form.embed g) p h = ap (λ s. Form.embed s) (same_is_in n m o g p h)
  same_is n m o (Form.iverson g) p h = ap (λ s. Form.iverson s) (same_is_in n m o g p h)
  same_is n m o (Form.select g a b) p h = let q = or_false (has_binder_in g) (has_binder a || has_binder b) p in let r = or_false (has_binder a) (has_binder b) q.1 in three (λ (s : Cond) (t u : Form). Form.select s t u) _ _ _ _ _ _ (same_is_in n m o g q.0 (λ w j. h w (left_free (is_free_in w g) (is_free w a || is_free w b) j))) (same_is (n + length (binders_in g)) m o a r.0 (λ w j. h w (right_free (is_free_in w g) (is_free w a || is_free w b) (left_free (is_free w a) (is_free w b) j)))) (same_is (n + length (binders_in g) + length (binders a)) m o b r.1 (λ w j. h w (right_free (is_free_in w g) (is_free w a || is_free w b) (right_free (is_free w a) (is_free w b) j))))
  same_is n m o (Form.bind up x name ty a) p h = absurd (cc)

  pub same_is_in : (n : ℕ) (m o : Numbering) (g : Cond) → has_binder_in g ≡ false → ((w : ℕ) → is_free_in w g ≡ true → m w ≡ o w) → unbound_in m n g ≡ unbound_in o n g
  same_is_in n m o (Cond.constant b) p h = refl
  same_is_in n m o (Cond.flag x) p h = ap (λ u. Cond.flag u) (h x (alike x))
  same_is_in n m o (Cond.not g) p h = ap (λ s. Cond.not s) (same_is_in n m o g p h)
  same_is_in n m o (Cond.and g k) p h = let q = or_false (has_binder_in g) (has_binder_in k) p in ap₂ (λ s t. Cond.and s t) (same_is_in n m o g q.0 (λ w j. h w (left_free (is_free_in w g) (is_free_in w k) j))) (same_is_in (n + length (binders_in g)) m o k q.1 (λ w j. h w (right_free (is_free_in w g) (is_free_in w k) j)))
  same_is_in n m o (Cond.or g k) p h = let q = or_false (has_binder_in g) (has_binder_in k) p in ap₂ (λ s t. Cond.or s t) (same_is_in n m o g q.0 (λ w j. h w (left_free (is_free_in w g) (is_free_in w k) j))) (same_is_in (n + length (binders_in g)) m o k q.1 (λ w j. h w (right_free (is_free_in w g) (is_free_in w k) j)))
  same_is_in n m o (Cond.same g k) p h = let q = or_false (has_binder_in g) (has_binder_in k) p in ap₂ (λ s t. Cond.same s t) (same_is_in n m o g q.0 (λ w j. h w (left_free (is_free_in w g) (is_free_in w k) j))) (same_is_in (n + length (binders_in g)) m o k q.1 (λ w j. h w (right_free (is_free_in w g) (is_free_in w k) j)))
  same_is_in n m o (Cond.le a b) p h = let q = or_false (has_binder a) (has_binder b) p in ap₂ (λ s t. Cond.le s t) (same_is n m o a q.0 (λ w j. h w (left_free (is_free w a) (is_free w b) j))) (same_is (n + length (binders a)) m o b q.1 (λ w j. h w (right_free (is_free w a) (is_free w b) j)))
  same_is_in n m o (Cond.lt a b) p h = let q = or_false (has_binder a) (has_binder b) p in ap₂ (λ s t. Cond.lt s t) (same_is n m o a q.0 (λ w j. h w (left_free (is_free w a) (is_free w b) j))) (same_is (n + length (binders a)) m o b q.1 (λ w j. h w (right_free (is_free w a) (is_free w b) j)))
  same_is_in n m o (Cond.equal a b) p h = let q = or_false (has_binder a) (has_binder b) p in ap₂ (λ s t. Cond.equal s t) (same_is n m o a q.0 (λ w j. h w (left_free (is_free w a) (is_free w b) j))) (same_is (n + length (binders a)) m o b q.1 (λ w j. h w (right_free (is_free w a) (is_free w b) j)))
  same_is_in n m o (Cond.ite g k l) p h = let q = or_false (has_binder_in g) (has_binder_in k || has_binder_in l) p in let r = or_false (has_binder_in k) (has_binder_in l) q.1 in three (λ (s t u : Cond). Cond.ite s t u) _ _ _ _ _ _ (same_is_in n m o g q.0 (λ w j. h w (left_free (is_free_in w g) (is_free_in w k || is_free_in w l) j))) (same_is_in (n + length (binders_in g)) m o k r.0 (λ w j. h w (right_free (is_free_in w g) (is_free_in w k || is_free_in w l) (left_free (is_free_in w k) (is_free_in w l) j)))) (same_is_in (n + length (binders_in g) + length (binders_in k)) m o l r.1 (λ w j. h w (right_free (is_free_in w g) (is_free_in w k || is_free_in w l) (right_free (is_free_in w k) (is_free_in w l) j))))

-- ---- Variables

two : (a b : Bool) (x k : ℕ) → (a ≡ true → x < k) → (b ≡ true → x < k) → (a || b) ≡ true → x < k
two true b x k f g h = f refl
two false b x k f g h = g h

here_below : (x y k : ℕ) (m : Numbering) → m y < k → (x == m y) ≡ true → x < k
here_below x y k m l h = let e : x ≡ m y = grind arith in subst (λ z. z < k) (sym e) l

mutual
  pub over_is : (d n : ℕ) (m : Numbering) (f : Form) → has_binder f ≡ false → ((w : ℕ) → is_free w f ≡ true → m w < d) → IsOver d (unbound m n f)
  over_is d n m (Form.number v) p h x i = absurd (cc)
  over_is d n m (Form.variable y) p h x i = here_below x y d m (h y (alike y)) i
  over_is d n m (Form.sum a b) p h x i = let q = or_false (has_binder a) (has_binder b) p in two _ _ x d (over_is d n m a q.0 (λ w j. h w (left_free (is_free w a) (is_free w b) j)) x) (over_is d (n + length (binders a)) m b q.1 (λ w j. h w (right_free (is_free w a) (is_free w b) j)) x) i
  over_is d n m (Form.difference a b) p h x i = let q = or_false (has_binder a) (has_binder b) p in two _ _ x d (over_is d n m a q.0 (λ w j. h w (left_free (is_free w a) (is_free w b) j)) x) (over_is d (n + length (binders a)) m b q.1 (λ w j. h w (right_free (is_free w a) (is_free w b) j)) x) i
  over_is d n m (Form.cut a b) p h x i = let q = or_false (has_binder a) (has_binder b) p in two _ _ x d (over_is d n m a q.0 (λ w j. h w (left_free (is_free w a) (is_free w b) j)) x) (over_is d (n + length (binders a)) m b q.1 (λ w j. h w (right_free (is_free w a) (is_free w b) j)) x) i
  over_is d n m (Form.min a b) p h x i = let q = or_false (has_binder a) (has_binder b) p in two _ _ x d (over_is d n m a q.0 (λ w j. h w (left_free (is_free w a) (is_free w b) j)) x) (over_is d (n + length (binders a)) m b q.1 (λ w j. h w (right_free (is_free w a) (is_free w b) j)) x) i
  over_is d n m (Form.max a b) p h x i = let q = or_false (has_binder a) (has_binder b) p in two _ _ x d (over_is d n m a q.0 (λ w j. h w (left_free (is_free w a) (is_free w b) j)) x) (over_is d (n + length (binders a)) m b q.1 (λ w j. h w (right_free (is_free w a) (is_free w b) j)) x) i
  over_is d n m (Form.imply a b) p h x i = let q = or_false (has_binder a) (has_binder b) p in two _ _ x d (over_is d n m a q.0 (λ w j. h w (left_free (is_free w a) (is_free w b) j)) x) (over_is d (n + length (binders a)) m b q.1 (λ w j. h w (right_free (is_free w a) (is_free w b) j)) x) i
  over_is d n m (Form.co_imply a b) p h x i = let q = or_false (has_binder a) (has_binder b) p in two _ _ x d (over_is d n m a q.0 (λ w j. h w (left_free (is_free w a) (is_free w b) j)) x) (over_is d (n + length (binders a)) m b q.1 (λ w j. h w (right_free (is_free w a) (is_free w b) j)) x) i
  over_is d n m (Form.product a b span) p h x i = let q = or_false (has_binder a) (has_binder b) p in two _ _ x d (over_is d n m a q.0 (λ w j. h w (left_free (is_free w a) (is_free w b) j)) x) (over_is d (n + length (binders a)) m b q.1 (λ w j. h w (right_free (is_free w a) (is_free w b) j)) x) i
  over_is d n m (Form.scale r a) p h x i = over_is d n m a p h x i
  over_is d n m (Form.validate a) p h x i = over_is d n m a p h x i
  over_is d n m (Form.co_validate a) p h x i = over_is d n m a p h x i
  over_is d n m (Form.embed g) p h x i = over_is_in d n m g p h x i
  over_is d n m (Form.iverson g) p h x i = over_is_in d n m g p h x i
  over_is d n m (Form.select g a b) p h x i =
      let q = or_false (has_binder_in g) (has_binder a || has_binder b) p in
      let r = or_false (has_binder a) (has_binder b) q.1 in
      two _ _ x d (over_is_in d n m g q.0 (λ w j. h w (left_free (is_free_in w g) (is_free w a || is_free w b) j)) x) (two _ _ x d (over_is d (n + length (binders_in g)) m a r.0 (λ w j. h w (right_free (is_free_in w g) (is_free w a || is_free w b) (left_free (is_free w a) (is_free w b) j))) x) (over_is d (n + length (binders_in g) + length (binders a)) m b r.1 (λ w j. h w (right_free (is_free_in w g) (is_free w a || is_free w b) (right_free (is_free w a) (is_free w b) j))) x)) i
  over_is d n m (Form.bind up y name ty a) p h x i = absurd (cc)

  pub over_is_in : (d n : ℕ) (m : Numbering) (g : Cond) → has_binder_in g ≡ false → ((w : ℕ) → is_free_in w g ≡ true → m w < d) → IsOverIn d (unbound_in m n g)
  over_is_in d n m (Cond.constant b) p h x i = absurd (cc)
  over_is_in d n m (Cond.flag y) p h x i = here_below x y d m (h y (alike y)) i
  over_is_in d n m (Cond.not g) p h x i = over_is_in d n m g p h x i
  over_is_in d n m (Cond.and g k) p h x i = let q = or_false (has_binder_in g) (has_binder_in k) p in two _ _ x d (over_is_in d n m g q.0 (λ w j. h w (left_free (is_free_in w g) (is_free_in w k) j)) x) (over_is_in d (n + length (binders_in g)) m k q.1 (λ w j. h w (right_free (is_free_in w g) (is_free_in w k) j)) x) i
  over_is_in d n m (Cond.or g k) p h x i = let q = or_false (has_binder_in g) (has_binder_in k) p in two _ _ x d (over_is_in d n m g q.0 (λ w j. h w (left_free (is_free_in w g) (is_free_in w k) j)) x) (over_is_in d (n + length (binders_in g)) m k q.1 (λ w j. h w (right_free (is_free_in w g) (is_free_in w k) j)) x) i
  over_is_in d n m (Cond.same g k) p h x i = let q = or_false (has_binder_in g) (has_binder_in k) p in two _ _ x d (over_is_in d n m g q.0 (λ w j. h w (left_free (is_free_in w g) (is_free_in w k) j)) x) (over_is_in d (n + length (binders_in g)) m k q.1 (λ w j. h w (right_free (is_free_in w g) (is_free_in w k) j)) x) i
  over_is_in d n m (Cond.le a b) p h x i = let q = or_false (has_binder a) (has_binder b) p in two _ _ x d (over_is d n m a q.0 (λ w j. h w (left_free (is_free w a) (is_free w b) j)) x) (over_is d (n + length (binders a)) m b q.1 (λ w j. h w (right_free (is_free w a) (is_free w b) j)) x) i
  over_is_in d n m (Cond.lt a b) p h x i = let q = or_false (has_binder a) (has_binder b) p in two _ _ x d (over_is d n m a q.0 (λ w j. h w (left_free (is_free w a) (is_free w b) j)) x) (over_is d (n + length (binders a)) m b q.1 (λ w j. h w (right_free (is_free w a) (is_free w b) j)) x) i
  over_is_in d n m (Cond.equal a b) p h x i = let q = or_false (has_binder a) (has_binder b) p in two _ _ x d (over_is d n m a q.0 (λ w j. h w (left_free (is_free w a) (is_free w b) j)) x) (over_is d (n + length (binders a)) m b q.1 (λ w j. h w (right_free (is_free w a) (is_free w b) j)) x) i
  over_is_in d n m (Cond.ite g k l) p h x i =
      let q = or_false (has_binder_in g) (has_binder_in k || has_binder_in l) p in
      let r = or_false (has_binder_in k) (has_binder_in l) q.1 in
      two _ _ x d (over_is_in d n m g q.0 (λ w j. h w (left_free (is_free_in w g) (is_free_in w k || is_free_in w l) j)) x) (two _ _ x d (over_is_in d (n + length (binders_in g)) m k r.0 (λ w j. h w (right_free (is_free_in w g) (is_free_in w k || is_free_in w l) (left_free (is_free_in w k) (is_free_in w l) j))) x) (over_is_in d (n + length (binders_in g) + length (binders_in k)) m l r.1 (λ w j. h w (right_free (is_free_in w g) (is_free_in w k || is_free_in w l) (right_free (is_free_in w k) (is_free_in w l) j))) x)) i
