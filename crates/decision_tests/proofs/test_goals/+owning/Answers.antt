use Rattle.std.proofs.Common.{◌≡◌, ℕ, ◌<◌, ap, ◌∙◌, sym, refl, Bool, true, false, ◌||◌, ◌⊎◌, inl, inr, Global}
use Rattle.std.specs.declared.boxed.Box.{Box}
use Rattle.heyvl_places.specs.declared.spans.Span.{Span}
use Rattle.heylo_formula.specs.declared.forms.Form as F
use Rattle.heylo_formula.specs.declared.forms.Cond as C
use Rattle.heylo_formula.specs.PlainTrees.{form_of, cond_of}
use Rattle.heylo_formula.specs.Variables.{is_free, is_free_in}
use Rattle.heylo_formula.proofs.exported.Mirrors.{sum_form, product_form, le_cond, lt_cond}
use Rattle.decision_tests.proofs.test_goals.+owning.Goals as goal

either : (a b : Bool) → (a || b) ≡ true → (a ≡ true) ⊎ (b ≡ true)
either true b e = inl refl
either false b e = inr e

own_both : (n x : ℕ) (a b : Bool) → (a || b) ≡ true → (a ≡ true → x < n) → (b ≡ true → x < n) → x < n
own_both n x a b e h k = go (either a b e)
  where
    go : (a ≡ true) ⊎ (b ≡ true) → x < n
    go (inl i) = h i
    go (inr i) = k i

own_sum : (f : F.Form) (a b : Box F.Form Global) (a' b' : F.Form) (n x : ℕ) → f ≡ F.Sum a b → a' ≡ a.value → b' ≡ b.value → (is_free x (form_of a') ≡ true → x < n) → (is_free x (form_of b') ≡ true → x < n) → is_free x (form_of f) ≡ true → x < n
own_sum f a b a' b' n x e ea eb h k i = own_both n x (is_free x (form_of a.value)) (is_free x (form_of b.value)) (sym (ap (is_free x) (ap form_of e ∙ sum_form a b)) ∙ i) (λ j. h (ap (λ y. is_free x (form_of y)) ea ∙ j)) (λ j. k (ap (λ y. is_free x (form_of y)) eb ∙ j))

own_product : (f : F.Form) (a b : Box F.Form Global) (span : Span) (a' b' : F.Form) (n x : ℕ) → f ≡ F.Product a b span → a' ≡ a.value → b' ≡ b.value → (is_free x (form_of a') ≡ true → x < n) → (is_free x (form_of b') ≡ true → x < n) → is_free x (form_of f) ≡ true → x < n
own_product f a b span a' b' n x e ea eb h k i = own_both n x (is_free x (form_of a.value)) (is_free x (form_of b.value)) (sym (ap (is_free x) (ap form_of e ∙ product_form a b span)) ∙ i) (λ j. h (ap (λ y. is_free x (form_of y)) ea ∙ j)) (λ j. k (ap (λ y. is_free x (form_of y)) eb ∙ j))

own_le : (f : C.Cond) (a b : Box F.Form Global) (a' b' : F.Form) (n x : ℕ) → f ≡ C.Le a b → a' ≡ a.value → b' ≡ b.value → (is_free x (form_of a') ≡ true → x < n) → (is_free x (form_of b') ≡ true → x < n) → is_free_in x (cond_of f) ≡ true → x < n
own_le f a b a' b' n x e ea eb h k i = own_both n x (is_free x (form_of a.value)) (is_free x (form_of b.value)) (sym (ap (is_free_in x) (ap cond_of e ∙ le_cond a b)) ∙ i) (λ j. h (ap (λ y. is_free x (form_of y)) ea ∙ j)) (λ j. k (ap (λ y. is_free x (form_of y)) eb ∙ j))

own_lt : (f : C.Cond) (a b : Box F.Form Global) (a' b' : F.Form) (n x : ℕ) → f ≡ C.Lt a b → a' ≡ a.value → b' ≡ b.value → (is_free x (form_of a') ≡ true → x < n) → (is_free x (form_of b') ≡ true → x < n) → is_free_in x (cond_of f) ≡ true → x < n
own_lt f a b a' b' n x e ea eb h k i = own_both n x (is_free x (form_of a.value)) (is_free x (form_of b.value)) (sym (ap (is_free_in x) (ap cond_of e ∙ lt_cond a b)) ∙ i) (λ j. h (ap (λ y. is_free x (form_of y)) ea ∙ j)) (λ j. k (ap (λ y. is_free x (form_of y)) eb ∙ j))

pub has_own-returns-then-has_own : goal.has_own-returns-then-has_own
has_own-returns-then-has_own t c h x i = own_sum c.args.form.now c.in-Sum.a c.in-Sum.b c.deref.result.now c.deref-then-has_own.result.now c.args.count x c.in-Sum.is c.deref.ensures c.deref-then-has_own.ensures (c.has_own.ensures c.if-has_own.true x) (c.has_own-then-has_own.ensures h x) i

pub has_own-returns-then-has_own-2 : goal.has_own-returns-then-has_own-2
has_own-returns-then-has_own-2 t c h x i = own_product c.args.form.now c.in-Product.a c.in-Product.b c.in-Product.field-2 c.deref-in-Product.result.now c.deref-then-has_own-2.result.now c.args.count x c.in-Product.is c.deref-in-Product.ensures c.deref-then-has_own-2.ensures (c.has_own-in-Product.ensures c.if-has_own-2.true x) (c.has_own-then-has_own-2.ensures h x) i

pub tests_own-returns-then-has_own : goal.tests_own-returns-then-has_own
tests_own-returns-then-has_own t c h x i = own_le c.args.cond.now c.in-Le.a c.in-Le.b c.deref-in-Le.result.now c.deref-then-has_own.result.now c.args.count x c.in-Le.is c.deref-in-Le.ensures c.deref-then-has_own.ensures (c.has_own.ensures c.if-has_own.true x) (c.has_own-then-has_own.ensures h x) i

pub tests_own-returns-then-has_own-2 : goal.tests_own-returns-then-has_own-2
tests_own-returns-then-has_own-2 t c h x i = own_lt c.args.cond.now c.in-Lt.a c.in-Lt.b c.deref-in-Lt.result.now c.deref-then-has_own-2.result.now c.args.count x c.in-Lt.is c.deref-in-Lt.ensures c.deref-then-has_own-2.ensures (c.has_own-in-Lt.ensures c.if-has_own-2.true x) (c.has_own-then-has_own-2.ensures h x) i
