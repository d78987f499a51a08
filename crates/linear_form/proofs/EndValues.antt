-- The linear values at an end are the values of the forms, in each state of the right types.
use Rattle.std.proofs.Common.{◌≡◌, List, [], ◌∷◌, refl, sym, ap, ap₂, ◌∙◌, subst, Bool, true, false, cond, ◌&&◌, ◌||◌}
use Rattle.std.specs.Prelude.{Option, Some, None}
use Rattle.heyvl_num.specs.Rational.{Rational, zeroʳ, oneʳ, ◌+ʳ◌, ◌*ʳ◌, ◌-ʳ◌, leqʳ, ◌≤ʳ◌}
use Rattle.heyvl_num.specs.Value.{Value, zeroᵛ, oneᵛ, is_zeroʳ, infinite_times, ◌+ᵛ◌, ◌*ᵛ◌, leqᵛ, ◌≤ᵛ◌}
use Rattle.heyvl_num.specs.Value.Value.{finite, infinite}
use Rattle.heyvl_num.specs.ValueOperators.{minᵛ, maxᵛ, impliesᵛ, coimpliesᵛ, monusᵛ}
use Rattle.heyvl_num.proofs.exported.Rationals.{zero-+ʳ, *ʳ_comm, ≤ʳ_antisym, ≤ʳ_refl}
use Rattle.heyvl_num.proofs.exported.Values.{is_zero-is, is_zero-zero, nonnegative_finite}
use Rattle.heylo_formula.specs.Formula.{Form, Cond}
use Rattle.heylo_formula.specs.Operators.{differenceᵛ, validateᵛ, covalidateᵛ, lessᵛ, equalᵛ, is_finite}
use Rattle.heylo_formula.specs.State.{Env, environment, IsTyped}
use Rattle.heylo_formula.specs.declared.values.Val.{Val}
use Rattle.heylo_formula.specs.TypedGoals.{IsTypedGoal}
use Rattle.heylo_formula.specs.Choices.{Choices, left, right}
use Rattle.heylo_formula.specs.Meaning.{value, holds}
use Rattle.heylo_formula.specs.Typing.{HasTypes, NumberType, Types, type_of, is_well_typed, is_finite_type, is_unsigned}
use Rattle.heylo_formula.specs.Goals.{Goal}
use Rattle.linear_values.specs.Lin.{Lin, Terms, plus, minus, scaled, is_sized, at, total, Linear}
use Rattle.linear_form.specs.Query.{Query, next}
use Rattle.linear_rows.specs.Numbers.{is_negative}
use Rattle.linear_form.specs.Query.Query.{done, bits}
use Rattle.linear_form.specs.Questions as q
use Rattle.linear_form.specs.Questions.{value_in, sized, asked, is_below, evaluate, test, both, with, questions}
use Rattle.linear_values.proofs.exported.LinearValues.{plus_at, minus_at, scaled_at, variable_at, at_most_at, below_at}
use Rattle.linear_form.proofs.QueryTrees.{Ends, ends_then, ends_once}
use Rattle.linear_form.proofs.TypedValues.{typed_environment, Fits, infinite_ok, Parts, parts, allowed, only, unsigned, difference_joined, scale_joined, value_fits}

abbrev pub Is : Env → Value → Linear → Type 0
Is s w x = value_in x s ≡ w

zero_is : (s : Env) → value_in q.zero s ≡ zeroᵛ
unfolding zeroᵛ
zero_is s = ap finite (zero-+ʳ zeroʳ)

one_is : (s : Env) → value_in q.one s ≡ oneᵛ
unfolding oneᵛ
one_is s = ap finite (zero-+ʳ oneʳ)

value_cond : (b : Bool) (x y : Linear) (s : Env) → value_in (cond b x y) s ≡ cond b (value_in x s) (value_in y s)
value_cond true x y s = refl
value_cond false x y s = refl

sized_ends : (x : Linear) (s : Env) (w : Value) → value_in x s ≡ w → Ends (sized x) s (Is s w)
sized_ends None s w h = h
sized_ends (Some a) s w h = go (is_sized a)
  where
    go : (b : Bool) → Ends (cond b (done (Some a)) bits) s (Is s w)
    go true = h
    go false = tt

asked_ends : (ts : Terms) (a : Lin) (strict : Bool) (s : Env) → a.terms ≡ ts → Ends (asked ts a strict) s (λ t. t ≡ is_negative (at a s) strict)
asked_ends [] a strict s e = ap (λ x. is_negative x strict) (sym (zero-+ʳ a.rest) ∙ ap (λ ts. total ts s +ʳ a.rest) (sym e))
asked_ends (t ∷ ts) a strict s e = (λ h. sym h, λ h. sym h)

is_below_ends : (a : Lin) (strict : Bool) (s : Env) → Ends (is_below a strict) s (λ t. t ≡ is_negative (at a s) strict)
is_below_ends a strict s = go (is_sized a)
  where
    go : (b : Bool) → Ends (cond b (asked a.terms a strict) bits) s (λ t. t ≡ is_negative (at a s) strict)
    go true = asked_ends a.terms a strict s refl
    go false = tt

chosen : {C : Type 0} (a : Lin) (strict : Bool) (s : Env) (f : Bool → C) (Q : C → Type 0) → Q (f (is_negative (at a s) strict)) → Ends (next (is_below a strict) (λ t. done (f t))) s Q
chosen a strict s f Q h = ends_then (is_below a strict) _ s _ Q (is_below_ends a strict s) (λ t e. subst (λ b. Q (f b)) (sym e) h)

two : {C : Type 0} (ta tb : Query Linear) (f : Linear → Linear → Query C) (s : Env) (u v : Value) (Q : Value → Value → C → Type 0) → Ends ta s (Is s u) → Ends tb s (Is s v) → ((x y : Linear) → Ends (f x y) s (Q (value_in x s) (value_in y s))) → Ends (both ta tb f) s (Q u v)
two ta tb f s u v Q h k g = ends_then ta _ s _ _ h (λ x p. ends_then tb _ s _ _ k (λ y q. subst (λ z. Ends (f x y) s (Q z v)) p (subst (λ z. Ends (f x y) s (Q (value_in x s) z)) q (g x y))))

two_known : {C : Type 0} (ta tb : Query Linear) (f : Linear → Linear → Query C) (s : Env) (u v : Value) (Q : C → Type 0) → Ends ta s (Is s u) → Ends tb s (Is s v) → ((x y : Linear) → value_in x s ≡ u → value_in y s ≡ v → Ends (f x y) s Q) → Ends (both ta tb f) s Q
two_known ta tb f s u v Q h k g = ends_then ta _ s _ _ h (λ x p. ends_then tb _ s _ _ k (λ y q. g x y p q))

one : {C : Type 0} (t : Query Linear) (f : Linear → Query C) (s : Env) (u : Value) (Q : Value → C → Type 0) → Ends t s (Is s u) → ((x : Linear) → Ends (f x) s (Q (value_in x s))) → Ends (with t f) s (Q u)
one t f s u Q h g = ends_then t _ s _ _ h (λ x p. subst (λ z. Ends (f x) s (Q z)) p (g x))

sum_ends : (x y : Linear) (s : Env) → Ends (q.sum x y) s (Is s (value_in x s +ᵛ value_in y s))
unfolding ◌+ᵛ◌
sum_ends (Some a) (Some b) s = sized_ends (Some (plus a b)) s _ (ap finite (plus_at a b s))
sum_ends (Some a) None s = refl
sum_ends None (Some b) s = refl
sum_ends None None s = refl

difference_ends : (x y : Linear) (s : Env) → Ends (q.difference x y) s (Is s (differenceᵛ (value_in x s) (value_in y s)))
unfolding differenceᵛ
difference_ends (Some a) (Some b) s = sized_ends (Some (minus a b)) s _ (ap finite (minus_at a b s))
difference_ends (Some a) None s = zero_is s
difference_ends None b s = refl

scale_ends : (w : Rational) (x : Linear) (s : Env) → Ends (q.scale w x) s (Is s (finite w *ᵛ value_in x s))
unfolding ◌*ᵛ◌ infinite_times
scale_ends w (Some a) s = sized_ends (Some (scaled w a)) s _ (ap finite (scaled_at w a s))
scale_ends w None s = go (is_zeroʳ w)
  where
    go : (b : Bool) → value_in (cond b q.zero None) s ≡ infinite_times b
    go true = zero_is s
    go false = refl

cut_ends : (x y : Linear) (s : Env) → Ends (q.cut x y) s (Is s (monusᵛ (value_in x s) (value_in y s)))
unfolding monusᵛ
cut_ends (Some a) (Some b) s = ends_then (is_below (minus b a) false) _ s _ _ (is_below_ends (minus b a) false s) (λ t e. go t (leqʳ (at b s) (at a s)) (e ∙ at_most_at b a s))
  where
    go : (t u : Bool) → t ≡ u → Ends (cond t (sized (Some (minus a b))) (done q.zero)) s (Is s (cond u (finite (at a s -ʳ at b s)) zeroᵛ))
    go true true e = sized_ends (Some (minus a b)) s (finite (at a s -ʳ at b s)) (ap finite (minus_at a b s))
    go true false e = absurd (cc)
    go false true e = absurd (cc)
    go false false e = zero_is s
cut_ends (Some a) None s = zero_is s
cut_ends None (Some b) s = refl
cut_ends None None s = zero_is s

min_ends : (x y : Linear) (s : Env) → Ends (q.min x y) s (Is s (minᵛ (value_in x s) (value_in y s)))
unfolding minᵛ leqᵛ
min_ends (Some a) (Some b) s = chosen (minus a b) false s (λ t. cond t (Some a) (Some b)) (Is s _) (value_cond _ (Some a) (Some b) s ∙ ap (λ t. cond t (finite (at a s)) (finite (at b s))) (at_most_at a b s))
min_ends (Some a) None s = refl
min_ends None (Some b) s = refl
min_ends None None s = refl

max_ends : (x y : Linear) (s : Env) → Ends (q.max x y) s (Is s (maxᵛ (value_in x s) (value_in y s)))
unfolding maxᵛ leqᵛ
max_ends (Some a) (Some b) s = chosen (minus a b) false s (λ t. cond t (Some b) (Some a)) (Is s _) (value_cond _ (Some b) (Some a) s ∙ ap (λ t. cond t (finite (at b s)) (finite (at a s))) (at_most_at a b s))
max_ends (Some a) None s = refl
max_ends None (Some b) s = refl
max_ends None None s = refl

imply_ends : (x y : Linear) (s : Env) → Ends (q.imply x y) s (Is s (impliesᵛ (value_in x s) (value_in y s)))
unfolding impliesᵛ leqᵛ
imply_ends (Some a) (Some b) s = chosen (minus a b) false s (λ t. cond t None (Some b)) (Is s _) (value_cond _ None (Some b) s ∙ ap (λ t. cond t infinite (finite (at b s))) (at_most_at a b s))
imply_ends (Some a) None s = refl
imply_ends None (Some b) s = refl
imply_ends None None s = refl

co_imply_ends : (x y : Linear) (s : Env) → Ends (q.co_imply x y) s (Is s (coimpliesᵛ (value_in x s) (value_in y s)))
unfolding coimpliesᵛ leqᵛ
co_imply_ends (Some a) (Some b) s = chosen (minus b a) false s (λ t. cond t q.zero (Some b)) (Is s _) (value_cond _ q.zero (Some b) s ∙ ap₂ (λ t z. cond t z (finite (at b s))) (at_most_at b a s) (zero_is s))
co_imply_ends (Some a) None s = refl
co_imply_ends None (Some b) s = zero_is s
co_imply_ends None None s = zero_is s

validate_is : (x : Linear) (s : Env) → value_in (q.validate x) s ≡ validateᵛ (value_in x s)
unfolding validateᵛ
validate_is (Some a) s = zero_is s
validate_is None s = refl

at_most_zero : (x : Rational) → zeroʳ ≤ʳ x → leqʳ x zeroʳ ≡ is_zeroʳ x
at_most_zero x h = go (leqʳ x zeroʳ) (is_zeroʳ x) refl refl
  where
    go : (a b : Bool) → leqʳ x zeroʳ ≡ a → is_zeroʳ x ≡ b → a ≡ b
    go true true e f = refl
    go true false e f = let k : x ≡ zeroʳ = ≤ʳ_antisym x zeroʳ (record { holds = e }) h in sym (ap is_zeroʳ k ∙ is_zero-zero) ∙ f
    go false true e f = let k = is_zero-is x f in sym e ∙ ap (λ z. leqʳ z zeroʳ) k ∙ (≤ʳ_refl zeroʳ).holds
    go false false e f = refl

zero_or_infinity : (a : Lin) (s : Env) → zeroʳ ≤ʳ at a s → Ends (next (is_below a false) (λ t. done (cond t q.zero None))) s (Is s (cond (is_zeroʳ (at a s)) zeroᵛ infinite))
zero_or_infinity a s h = chosen a false s (λ t. cond t q.zero None) (Is s _) (value_cond _ q.zero None s ∙ ap₂ (λ t z. cond t z infinite) (at_most_zero (at a s) h) (zero_is s))

co_validate_ends : (x : Linear) (s : Env) → zeroᵛ ≤ᵛ value_in x s → Ends (q.co_validate x) s (Is s (covalidateᵛ (value_in x s)))
unfolding covalidateᵛ
co_validate_ends (Some a) s h = zero_or_infinity a s (nonnegative_finite (at a s) h)
co_validate_ends None s h = refl

constant_is : (a : Lin) (s : Env) → a.terms ≡ [] → a.rest ≡ at a s
constant_is a s e = sym (zero-+ʳ a.rest) ∙ ap (λ ts. total ts s +ʳ a.rest) (sym e)

finite_product_ends : (ts us : Terms) (a b : Lin) (s : Env) → a.terms ≡ ts → b.terms ≡ us → Ends (q.finite_product ts us a b) s (Is s (finite (at a s *ʳ at b s)))
finite_product_ends [] us a b s e f = sized_ends (Some (scaled a.rest b)) s _ (ap finite (scaled_at a.rest b s ∙ ap (λ x. x *ʳ at b s) (constant_is a s e)))
finite_product_ends (t ∷ ts) [] a b s e f = sized_ends (Some (scaled b.rest a)) s _ (ap finite (scaled_at b.rest a s ∙ ap (λ x. x *ʳ at a s) (constant_is b s f) ∙ *ʳ_comm (at b s) (at a s)))
finite_product_ends (t ∷ ts) (u ∷ us) a b s e f = tt

-- `Compatible u v`: if one factor is infinity, the other is not negative.
pub record Compatible (u v : Value) : Type 0 where
  pub left : is_finite u ≡ false → zeroᵛ ≤ᵛ v
  pub right : is_finite v ≡ false → zeroᵛ ≤ᵛ u

times_is : (b : Bool) → cond b zeroᵛ infinite ≡ infinite_times b
unfolding infinite_times
times_is true = refl
times_is false = refl

infinite_product_ends : (a : Lin) (s : Env) → zeroʳ ≤ʳ at a s → Ends (q.infinite_product a) s (Is s (infinite_times (is_zeroʳ (at a s))))
infinite_product_ends a s h = subst (λ v. Ends (q.infinite_product a) s (Is s v)) (times_is (is_zeroʳ (at a s))) (zero_or_infinity a s h)

product_ends : (x y : Linear) (s : Env) → Compatible (value_in x s) (value_in y s) → Ends (q.product x y) s (Is s (value_in x s *ᵛ value_in y s))
unfolding ◌*ᵛ◌
product_ends (Some a) (Some b) s h = finite_product_ends a.terms b.terms a b s refl refl
product_ends (Some a) None s h = infinite_product_ends a s (nonnegative_finite (at a s) (h.right refl))
product_ends None (Some b) s h = infinite_product_ends b s (nonnegative_finite (at b s) (h.left refl))
product_ends None None s h = refl

at_most_ends : (x y : Linear) (s : Env) → Ends (q.at_most x y) s (λ t. t ≡ leqᵛ (value_in x s) (value_in y s))
unfolding leqᵛ
at_most_ends (Some a) (Some b) s = subst (λ z. Ends (is_below (minus a b) false) s (λ t. t ≡ z)) (at_most_at a b s) (is_below_ends (minus a b) false s)
at_most_ends (Some a) None s = refl
at_most_ends None (Some b) s = refl
at_most_ends None None s = refl

less_ends : (x y : Linear) (s : Env) → Ends (q.less x y) s (λ t. t ≡ lessᵛ (value_in x s) (value_in y s))
unfolding leqᵛ
less_ends (Some a) (Some b) s = subst (λ z. Ends (is_below (minus a b) true) s (λ t. t ≡ z)) (below_at a b s) (is_below_ends (minus a b) true s)
less_ends (Some a) None s = refl
less_ends None (Some b) s = refl
less_ends None None s = refl

after : {C : Type 0} (t : Query Bool) (f : Bool → Query C) (s : Env) (b : Bool) (Q : C → Type 0) → Ends t s (λ u. u ≡ b) → Ends (f b) s Q → Ends (next t f) s Q
after t f s b Q h k = ends_then t f s _ Q h (λ u e. subst (λ v. Ends (f v) s Q) (sym e) k)

equal_ends : (x y : Linear) (s : Env) → Ends (q.equal x y) s (λ t. t ≡ equalᵛ (value_in x s) (value_in y s))
equal_ends x y s = after (q.at_most x y) _ s (leqᵛ (value_in x s) (value_in y s)) _ (at_most_ends x y s) (go (leqᵛ (value_in x s) (value_in y s)))
  where
    go : (b : Bool) → Ends (cond b (q.at_most y x) (done false)) s (λ t. t ≡ (b && leqᵛ (value_in y s) (value_in x s)))
    go true = at_most_ends y x s
    go false = refl

select_ends : (b : Bool) (ta tb : Query Linear) (s : Env) (u v : Value) → Ends ta s (Is s u) → Ends tb s (Is s v) → Ends (cond b ta tb) s (Is s (cond b u v))
select_ends true ta tb s u v h k = h
select_ends false ta tb s u v h k = k

test_ends : (b : Bool) (ta tb : Query Bool) (s : Env) (u v : Bool) → Ends ta s (λ t. t ≡ u) → Ends tb s (λ t. t ≡ v) → Ends (cond b ta tb) s (λ t. t ≡ cond b u v)
test_ends true ta tb s u v h k = h
test_ends false ta tb s u v h k = k

and_ends : (b : Bool) (t : Query Bool) (s : Env) (u : Bool) → Ends t s (λ t. t ≡ u) → Ends (cond b t (done false)) s (λ t. t ≡ (b && u))
and_ends true t s u h = h
and_ends false t s u h = refl

or_ends : (b : Bool) (t : Query Bool) (s : Env) (u : Bool) → Ends t s (λ t. t ≡ u) → Ends (cond b (done true) t) s (λ t. t ≡ (b || u))
or_ends true t s u h = refl
or_ends false t s u h = h

number_is : (v : Value) (s : Env) → value_in (q.number v) s ≡ v
number_is (finite x) s = ap finite (zero-+ʳ x)
number_is infinite s = refl

-- ---- Types

compared : (o : Option NumberType) → is_finite_type o ≡ true → (j : NumberType) × (o ≡ Some j)
compared (Some j) e = (j, refl)
compared None e = absurd (cc)

and_left : (a b : Bool) → (a && b) ≡ true → a ≡ true
and_left true b e = refl
and_left false b e = absurd (cc)

and_right : (a b : Bool) → (a && b) ≡ true → b ≡ true
and_right true b e = e
and_right false b e = absurd (cc)

never_both : (a b : Bool) → (a && b) ≡ false → (a ≡ false → ⊥) → b ≡ false
never_both true b e h = e
never_both false b e h = absurd (h refl)

compatible : (p q : Option NumberType) (t : NumberType) (h : Parts p q t) (u v : Value) → Fits h.left u → Fits h.right v → Compatible u v
compatible p q t h u v fu fv = let a = allowed p q t h in record {
  left = λ e. fv.nonnegative (never_both (infinite_ok h.left) _ a.2 (λ g. let k : true ≡ false = sym (fu.finite g) ∙ e in absurd (cc)));
  right = λ e. fu.nonnegative (never_both (infinite_ok h.right) _ a.3 (λ g. let k : true ≡ false = sym (fv.finite g) ∙ e in absurd (cc)));
}

-- ---- Forms and conditions

mutual
  pub value_is : (types : Types) (s : Env) → HasTypes types s → (f : Form) (t : NumberType) (c : Choices) → type_of types f ≡ Some t → Ends (evaluate f) s (Is s (value f s c))
  value_is types s h (Form.number v) t c e = sized_ends (q.number v) s v (number_is v s)
  value_is types s h (Form.variable x) t c e = ap finite (variable_at x s)
  value_is types s h (Form.sum a b) t c e = let p = parts _ _ t e in two (evaluate a) (evaluate b) q.sum s _ _ (λ u v. Is s (u +ᵛ v)) (value_is types s h a p.left (left c) p.left_is) (value_is types s h b p.right (right c) p.right_is) (λ x y. sum_ends x y s)
  value_is types s h (Form.difference a b) t c e = let d = difference_joined _ t e in let p = parts _ _ d.0 d.1.0 in two (evaluate a) (evaluate b) q.difference s _ _ (λ u v. Is s (differenceᵛ u v)) (value_is types s h a p.left (left c) p.left_is) (value_is types s h b p.right (right c) p.right_is) (λ x y. difference_ends x y s)
  value_is types s h (Form.cut a b) t c e = let p = parts _ _ t (only _ _ t e).1 in two (evaluate a) (evaluate b) q.cut s _ _ (λ u v. Is s (monusᵛ u v)) (value_is types s h a p.left (left c) p.left_is) (value_is types s h b p.right (right c) p.right_is) (λ x y. cut_ends x y s)
  value_is types s h (Form.scale w a) t c e = let d = scale_joined _ t (only (leqʳ zeroʳ w) _ t e).1 in one (evaluate a) (q.scale w) s _ (λ u. Is s (finite w *ᵛ u)) (value_is types s h a d.0 c d.1.0) (λ x. scale_ends w x s)
  value_is types s h (Form.product a b span) t c e = let p = parts _ _ t e in two_known (evaluate a) (evaluate b) q.product s _ _ _ (value_is types s h a p.left (left c) p.left_is) (value_is types s h b p.right (right c) p.right_is) (λ x y m n. subst (λ u. Ends (q.product x y) s (Is s (u *ᵛ value b s (right c)))) m (subst (λ v. Ends (q.product x y) s (Is s (value_in x s *ᵛ v))) n (product_ends x y s (subst (λ u. Compatible u (value_in y s)) (sym m) (subst (λ v. Compatible (value a s (left c)) v) (sym n) (compatible _ _ t p _ _ (value_fits types s h a p.left (left c) p.left_is) (value_fits types s h b p.right (right c) p.right_is)))))))
  value_is types s h (Form.min a b) t c e = let p = parts _ _ t e in two (evaluate a) (evaluate b) q.min s _ _ (λ u v. Is s (minᵛ u v)) (value_is types s h a p.left (left c) p.left_is) (value_is types s h b p.right (right c) p.right_is) (λ x y. min_ends x y s)
  value_is types s h (Form.max a b) t c e = let p = parts _ _ t e in two (evaluate a) (evaluate b) q.max s _ _ (λ u v. Is s (maxᵛ u v)) (value_is types s h a p.left (left c) p.left_is) (value_is types s h b p.right (right c) p.right_is) (λ x y. max_ends x y s)
  value_is types s h (Form.imply a b) t c e = let o = only _ _ t e in let m = unsigned (type_of types a) (and_left _ _ o.0) in let n = unsigned (type_of types b) (and_right (is_unsigned (type_of types a)) _ o.0) in two (evaluate a) (evaluate b) q.imply s _ _ (λ u v. Is s (impliesᵛ u v)) (value_is types s h a m.type (left c) m.is) (value_is types s h b n.type (right c) n.is) (λ x y. imply_ends x y s)
  value_is types s h (Form.co_imply a b) t c e = let o = only _ _ t e in let m = unsigned (type_of types a) (and_left _ _ o.0) in let n = unsigned (type_of types b) (and_right (is_unsigned (type_of types a)) _ o.0) in two (evaluate a) (evaluate b) q.co_imply s _ _ (λ u v. Is s (coimpliesᵛ u v)) (value_is types s h a m.type (left c) m.is) (value_is types s h b n.type (right c) n.is) (λ x y. co_imply_ends x y s)
  value_is types s h (Form.validate a) t c e = let m = unsigned (type_of types a) (only _ _ t e).0 in one (evaluate a) _ s _ (λ u. Is s (validateᵛ u)) (value_is types s h a m.type c m.is) (λ x. validate_is x s)
  value_is types s h (Form.co_validate a) t c e = let m = unsigned (type_of types a) (only _ _ t e).0 in ends_then (evaluate a) _ s _ _ (value_is types s h a m.type c m.is) (λ x p. subst (λ u. Ends (q.co_validate x) s (Is s (covalidateᵛ u))) p (co_validate_ends x s (subst (λ u. zeroᵛ ≤ᵛ u) (sym p) ((value_fits types s h a m.type c m.is).nonnegative m.unsigned))))
  value_is types s h (Form.embed g) t c e = after (test g) _ s _ _ (truth_is types s h g c (only _ _ t e).0) (value_cond (holds g s c) None q.zero s ∙ ap (λ z. cond (holds g s c) infinite z) (zero_is s))
  value_is types s h (Form.iverson g) t c e = after (test g) _ s _ _ (truth_is types s h g c (only _ _ t e).0) (value_cond (holds g s c) q.one q.zero s ∙ ap₂ (λ y z. cond (holds g s c) y z) (one_is s) (zero_is s))
  value_is types s h (Form.select g a b) t c e = let o = only _ _ t e in let p = parts _ _ t o.1 in after (test g) _ s _ _ (truth_is types s h g (left c) o.0) (select_ends (holds g s (left c)) (evaluate a) (evaluate b) s _ _ (value_is types s h a p.left (right c) p.left_is) (value_is types s h b p.right (right c) p.right_is))
  value_is types s h (Form.bind up x name ty a) t c e = tt

  pub truth_is : (types : Types) (s : Env) → HasTypes types s → (g : Cond) (c : Choices) → is_well_typed types g ≡ true → Ends (test g) s (λ t. t ≡ holds g s c)
  truth_is types s h (Cond.constant b) c e = refl
  truth_is types s h (Cond.flag x) c e = (λ e. sym e, λ e. sym e)
  truth_is types s h (Cond.not g) c e = after (test g) _ s _ _ (truth_is types s h g c e) refl
  truth_is types s h (Cond.and g k) c e = after (test g) _ s _ _ (truth_is types s h g (left c) (and_left _ _ e)) (and_ends (holds g s (left c)) (test k) s _ (truth_is types s h k (right c) (and_right (is_well_typed types g) _ e)))
  truth_is types s h (Cond.or g k) c e = after (test g) _ s _ _ (truth_is types s h g (left c) (and_left _ _ e)) (or_ends (holds g s (left c)) (test k) s _ (truth_is types s h k (right c) (and_right (is_well_typed types g) _ e)))
  truth_is types s h (Cond.same g k) c e = after (test g) _ s _ _ (truth_is types s h g (left c) (and_left _ _ e)) (after (test k) _ s _ _ (truth_is types s h k (right c) (and_right (is_well_typed types g) _ e)) refl)
  truth_is types s h (Cond.le a b) c e = let d = compared _ e in let p = parts _ _ d.0 d.1 in two (evaluate a) (evaluate b) q.at_most s _ _ (λ u v t. t ≡ leqᵛ u v) (value_is types s h a p.left (left c) p.left_is) (value_is types s h b p.right (right c) p.right_is) (λ x y. at_most_ends x y s)
  truth_is types s h (Cond.lt a b) c e = let d = compared _ e in let p = parts _ _ d.0 d.1 in two (evaluate a) (evaluate b) q.less s _ _ (λ u v t. t ≡ lessᵛ u v) (value_is types s h a p.left (left c) p.left_is) (value_is types s h b p.right (right c) p.right_is) (λ x y. less_ends x y s)
  truth_is types s h (Cond.equal a b) c e = let d = compared _ e in let p = parts _ _ d.0 d.1 in two (evaluate a) (evaluate b) q.equal s _ _ (λ u v t. t ≡ equalᵛ u v) (value_is types s h a p.left (left c) p.left_is) (value_is types s h b p.right (right c) p.right_is) (λ x y. equal_ends x y s)
  truth_is types s h (Cond.ite g k l) c e = after (test g) _ s _ _ (truth_is types s h g (left c) (and_left _ _ e)) (test_ends (holds g s (left c)) (test k) (test l) s _ _ (truth_is types s h k (right c) (and_left _ _ (and_right (is_well_typed types g) _ e))) (truth_is types s h l (right c) (and_right (is_well_typed types k) _ (and_right (is_well_typed types g) _ e))))

pub record AreValues (g : Goal) (s : Env) (e : q.Ends) : Type 0 where
  pub stated : value_in e.0 s ≡ value g.stated s Choices.stop
  pub found : value_in e.1 s ≡ value g.found s Choices.stop

pub goal_ends : (g : Goal) (s : List Val) → IsTypedGoal g → IsTyped g.types s → Ends (questions g) (environment s) (AreValues g (environment s))
goal_ends g s t h = let te = typed_environment g.types s h in let m = unsigned _ t.stated in let n = unsigned _ t.found in ends_once [] _ (environment s) (AreValues g (environment s)) tt (ends_then (evaluate g.stated) _ (environment s) _ _ (value_is _ _ te g.stated m.type Choices.stop m.is) (λ x p. ends_then (evaluate g.found) _ (environment s) _ _ (value_is _ _ te g.found n.type Choices.stop n.is) (λ y r. record { stated = p; found = r })))
