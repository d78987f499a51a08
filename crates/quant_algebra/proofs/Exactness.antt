-- An exact value is the value that the formula means.
use Rattle.std.proofs.Common.{◌≡◌, refl, sym, ap, ◌∙◌, subst, ◌⊎◌, ◌↔◌, inl, inr, Bool, true, false, not, cond, ◌&&◌, ◌||◌, List}
use Rattle.std.specs.Prelude.{Option, Some, None, option_map, IfSome}
use Rattle.std.specs.Ordering.{MatchOrdering}
use Rattle.std.specs.declared.cmp.Ordering.{Ordering}
use Rattle.std.specs.declared.cmp.Ordering.TheVariants.{Less, Equal, Greater}
use Rattle.heyvl_num.specs.Rational.{Rational, zeroʳ, ◌+ʳ◌, ◌*ʳ◌, ◌-ʳ◌, leqʳ, ◌≤ʳ◌, ◌<ʳ◌, compareʳ}
use Rattle.heyvl_num.specs.Value.{Value, zeroᵛ, oneᵛ, ◌+ᵛ◌, ◌*ᵛ◌, leqᵛ, ◌≤ᵛ◌, compareᵛ}
use Rattle.heyvl_num.specs.Value.Value.{finite, infinite}
use Rattle.heyvl_num.specs.ValueOperators.{minᵛ, maxᵛ, impliesᵛ, coimpliesᵛ, monusᵛ}
use Rattle.heyvl_num.specs.Exact.{exact_sum, exact_product, exact_difference, exact_order, sum_fits, product_fits, difference_fits, order_fits}
use Rattle.heyvl_num.specs.ExactValues.{exact_sumᵛ, exact_productᵛ, exact_orderᵛ}
use Rattle.heyvl_num.proofs.exported.Rationals.{≤ʳ_total, ≤ʳ_refl}
use Rattle.heyvl_num.proofs.exported.Signs.{compareʳ-is, -ʳ-self}
use Rattle.heylo_formula.specs.Formula.{Form, Cond}
use Rattle.heylo_formula.specs.Operators.{differenceᵛ, validateᵛ, covalidateᵛ, lessᵛ, equalᵛ, agree}
use Rattle.heylo_formula.specs.State.{environment}
use Rattle.heylo_formula.specs.Goals.{Goal, Compares, HoldsIn}
use Rattle.heylo_formula.specs.Choices.{Choices}
use Rattle.heylo_formula.specs.Meaning.{value, holds}
use Rattle.heylo_formula.specs.declared.values.Val.{Val}
use Rattle.quant_algebra.specs.ExactOperators.{and_then, at_most_or, less_or, is_equal, exact_differenceᵛ, exact_cutᵛ, exact_scaleᵛ, exact_minᵛ, exact_maxᵛ, exact_impliesᵛ, exact_coimpliesᵛ, exact_leqᵛ, exact_lessᵛ, exact_equalᵛ}
use Rattle.quant_algebra.specs.ExactMeaning.{chosen, exact_value, exact_truth, exact_goal}

-- ---- Parts whose exact values are those that they mean

both : {A B C : Type 0} (p : Option A) (q : Option B) (v : A) (u : B) (k : A → B → Option C) (w : C) → IfSome p (λ x. x ≡ v) → IfSome q (λ y. y ≡ u) → IfSome (k v u) (λ z. z ≡ w) → IfSome (and_then p (λ x. and_then q (λ y. k x y))) (λ z. z ≡ w)
both (Some x) (Some y) v u k w hp hq h = subst (λ a. IfSome (k a y) (λ z. z ≡ w)) (sym hp) (subst (λ b. IfSome (k v b) (λ z. z ≡ w)) (sym hq) h)
both (Some x) None v u k w hp hq h = tt
both None q v u k w hp hq h = tt

one : {A B : Type 0} (p : Option A) (v : A) (k : A → Option B) (w : B) → IfSome p (λ x. x ≡ v) → IfSome (k v) (λ z. z ≡ w) → IfSome (and_then p k) (λ z. z ≡ w)
one (Some x) v k w hp h = subst (λ a. IfSome (k a) (λ z. z ≡ w)) (sym hp) h
one None v k w hp h = tt

mapped : {A B : Type 0} (k : A → B) (p : Option A) (v : A) → IfSome p (λ x. x ≡ v) → IfSome (option_map k p) (λ z. z ≡ k v)
mapped k (Some x) v h = ap k h
mapped k None v h = tt

-- A result by an equation.
retold : {A : Type 0} (p : Option A) (v w : A) → v ≡ w → IfSome p (λ x. x ≡ v) → IfSome p (λ x. x ≡ w)
retold (Some x) v w e h = h ∙ e
retold None v w e h = tt

decided : {A : Type 0} (p : Option Bool) (b : Bool) (x y : Option A) (v u : A) → IfSome p (λ t. t ≡ b) → IfSome x (λ z. z ≡ v) → IfSome y (λ z. z ≡ u) → IfSome (chosen p x y) (λ z. z ≡ cond b v u)
decided (Some true) true x y v u h hx hy = hx
decided (Some true) false x y v u h hx hy = absurd (cc)
decided (Some false) true x y v u h hx hy = absurd (cc)
decided (Some false) false x y v u h hx hy = hy
decided None b x y v u h hx hy = tt

conjunction : (p q : Option Bool) (a b : Bool) → IfSome p (λ t. t ≡ a) → IfSome q (λ t. t ≡ b) → IfSome (chosen p q (Some false)) (λ t. t ≡ (a && b))
conjunction (Some true) q true b hp hq = hq
conjunction (Some true) q false b hp hq = absurd (cc)
conjunction (Some false) q true b hp hq = absurd (cc)
conjunction (Some false) q false b hp hq = refl
conjunction None q a b hp hq = tt

disjunction : (p q : Option Bool) (a b : Bool) → IfSome p (λ t. t ≡ a) → IfSome q (λ t. t ≡ b) → IfSome (chosen p (Some true) q) (λ t. t ≡ (a || b))
disjunction (Some true) q true b hp hq = refl
disjunction (Some true) q false b hp hq = absurd (cc)
disjunction (Some false) q true b hp hq = absurd (cc)
disjunction (Some false) q false b hp hq = hq
disjunction None q a b hp hq = tt

-- ---- Operators

fitting : {A B : Type 0} (k : A → B) (b : Bool) (x : A) → IfSome (option_map k (cond b (Some x) None)) (λ z. z ≡ k x)
fitting k true x = refl
fitting k false x = tt

sum_is : (x y : Value) → IfSome (exact_sumᵛ x y) (λ z. z ≡ x +ᵛ y)
unfolding exact_sum ◌+ᵛ◌
sum_is (finite x) (finite y) = fitting finite (sum_fits x y) (x +ʳ y)
sum_is (finite x) infinite = refl
sum_is infinite (finite y) = refl
sum_is infinite infinite = refl

product_is : (x y : Value) → IfSome (exact_productᵛ x y) (λ z. z ≡ x *ᵛ y)
unfolding exact_product ◌*ᵛ◌
product_is (finite x) (finite y) = fitting finite (product_fits x y) (x *ʳ y)
product_is (finite x) infinite = refl
product_is infinite (finite y) = refl
product_is infinite infinite = refl

difference_is : (x y : Value) → IfSome (exact_differenceᵛ x y) (λ z. z ≡ differenceᵛ x y)
unfolding exact_difference differenceᵛ
difference_is (finite x) (finite y) = fitting finite (difference_fits x y) (x -ʳ y)
difference_is (finite x) infinite = refl
difference_is infinite (finite y) = refl
difference_is infinite infinite = refl

order_is : (x y : Value) → IfSome (exact_orderᵛ x y) (λ o. o ≡ compareᵛ x y)
unfolding exact_order
order_is (finite x) (finite y) = go (order_fits x y)
  where
    go : (b : Bool) → IfSome (cond b (Some (compareʳ x y)) None) (λ o. o ≡ compareʳ x y)
    go true = refl
    go false = tt
order_is (finite x) infinite = refl
order_is infinite (finite y) = refl
order_is infinite infinite = refl

-- ---- Comparisons and the order

other_way : (x y : Rational) → leqʳ y x ≡ false → leqʳ x y ≡ true
other_way x y e = go (≤ʳ_total x y)
  where
    go : (x ≤ʳ y) ⊎ (y ≤ʳ x) → leqʳ x y ≡ true
    go (inl h) = h.holds
    go (inr h) = absurd (let k : true ≡ false = sym h.holds ∙ e in cc)

same_way : (x y : Rational) → x ≡ y → leqʳ x y ≡ true
same_way x y e = subst (λ z. leqʳ x z ≡ true) e (≤ʳ_refl x).holds

at_most_finite : {A : Type 0} (x y : Rational) (a b : A) (o : Ordering) → MatchOrdering o (x <ʳ y) (x ≡ y) (y <ʳ x) → at_most_or o a b ≡ cond (leqʳ x y) a b
at_most_finite x y a b Less h = sym (ap (λ t. cond t a b) (other_way x y h.holds))
at_most_finite x y a b Equal h = sym (ap (λ t. cond t a b) (same_way x y h))
at_most_finite x y a b Greater h = sym (ap (λ t. cond t a b) h.holds)

less_finite : {A : Type 0} (x y : Rational) (a b : A) (o : Ordering) → MatchOrdering o (x <ʳ y) (x ≡ y) (y <ʳ x) → less_or o a b ≡ cond (leqʳ y x) b a
less_finite x y a b Less h = sym (ap (λ t. cond t b a) h.holds)
less_finite x y a b Equal h = sym (ap (λ t. cond t b a) (same_way y x (sym h)))
less_finite x y a b Greater h = sym (ap (λ t. cond t b a) (other_way y x h.holds))

equal_finite : (x y : Rational) (o : Ordering) → MatchOrdering o (x <ʳ y) (x ≡ y) (y <ʳ x) → is_equal o ≡ (leqʳ x y && leqʳ y x)
equal_finite x y Less h = sym (ap (λ t. t && leqʳ y x) (other_way x y h.holds) ∙ h.holds)
equal_finite x y Equal h = sym (ap (λ t. t && leqʳ y x) (same_way x y h) ∙ same_way y x (sym h))
equal_finite x y Greater h = sym (ap (λ t. t && leqʳ y x) h.holds)

at_most_is : {A : Type 0} (x y : Value) (a b : A) → at_most_or (compareᵛ x y) a b ≡ cond (leqᵛ x y) a b
unfolding leqᵛ
at_most_is (finite x) (finite y) a b = at_most_finite x y a b (compareʳ x y) (compareʳ-is x y)
at_most_is (finite x) infinite a b = refl
at_most_is infinite (finite y) a b = refl
at_most_is infinite infinite a b = refl

below_is : {A : Type 0} (x y : Value) (a b : A) → less_or (compareᵛ x y) a b ≡ cond (leqᵛ y x) b a
unfolding leqᵛ
below_is (finite x) (finite y) a b = less_finite x y a b (compareʳ x y) (compareʳ-is x y)
below_is (finite x) infinite a b = refl
below_is infinite (finite y) a b = refl
below_is infinite infinite a b = refl

same_is : (x y : Value) → is_equal (compareᵛ x y) ≡ equalᵛ x y
unfolding leqᵛ
same_is (finite x) (finite y) = equal_finite x y (compareʳ x y) (compareʳ-is x y)
same_is (finite x) infinite = refl
same_is infinite (finite y) = refl
same_is infinite infinite = refl

by_order : {A : Type 0} (x y : Value) (k : Ordering → A) (w : A) → k (compareᵛ x y) ≡ w → IfSome (option_map k (exact_orderᵛ x y)) (λ z. z ≡ w)
by_order x y k w e = retold (option_map k (exact_orderᵛ x y)) (k (compareᵛ x y)) w e (mapped k (exact_orderᵛ x y) (compareᵛ x y) (order_is x y))

truth_itself : (b : Bool) → cond b true false ≡ b
truth_itself true = refl
truth_itself false = refl

truth_denied : (b : Bool) → cond b false true ≡ not b
truth_denied true = refl
truth_denied false = refl

min_is : (x y : Value) → IfSome (exact_minᵛ x y) (λ z. z ≡ minᵛ x y)
unfolding minᵛ
min_is x y = by_order x y (λ o. at_most_or o x y) _ (at_most_is x y x y)

max_is : (x y : Value) → IfSome (exact_maxᵛ x y) (λ z. z ≡ maxᵛ x y)
unfolding maxᵛ
max_is x y = by_order x y (λ o. at_most_or o y x) _ (at_most_is x y y x)

implies_is : (x y : Value) → IfSome (exact_impliesᵛ x y) (λ z. z ≡ impliesᵛ x y)
unfolding impliesᵛ
implies_is x y = by_order x y (λ o. at_most_or o infinite y) _ (at_most_is x y infinite y)

coimplies_is : (x y : Value) → IfSome (exact_coimpliesᵛ x y) (λ z. z ≡ coimpliesᵛ x y)
unfolding coimpliesᵛ
coimplies_is x y = by_order x y (λ o. less_or o y zeroᵛ) _ (below_is x y y zeroᵛ)

pub leq_is : (x y : Value) → IfSome (exact_leqᵛ x y) (λ z. z ≡ leqᵛ x y)
leq_is x y = by_order x y (λ o. at_most_or o true false) _ (at_most_is x y true false ∙ truth_itself (leqᵛ x y))

less_is : (x y : Value) → IfSome (exact_lessᵛ x y) (λ z. z ≡ lessᵛ x y)
less_is x y = by_order x y (λ o. less_or o true false) _ (below_is x y true false ∙ truth_denied (leqᵛ y x))

equal_is : (x y : Value) → IfSome (exact_equalᵛ x y) (λ z. z ≡ equalᵛ x y)
equal_is x y = by_order x y is_equal _ (same_is x y)

cut_finite : (x y : Rational) (o : Ordering) → MatchOrdering o (x <ʳ y) (x ≡ y) (y <ʳ x) → IfSome (at_most_or o (Some zeroᵛ) (exact_differenceᵛ (finite x) (finite y))) (λ z. z ≡ cond (leqʳ y x) (finite (x -ʳ y)) zeroᵛ)
unfolding exact_difference zeroᵛ
cut_finite x y Less h = sym (ap (λ t. cond t (finite (x -ʳ y)) (finite zeroʳ)) h.holds)
cut_finite x y Equal h = sym (ap (λ t. cond t (finite (x -ʳ y)) (finite zeroʳ)) (same_way y x (sym h)) ∙ ap finite (subst (λ z. x -ʳ z ≡ zeroʳ) h (-ʳ-self x)))
cut_finite x y Greater h = retold (option_map finite (cond (difference_fits x y) (Some (x -ʳ y)) None)) (finite (x -ʳ y)) _ (sym (ap (λ t. cond t (finite (x -ʳ y)) (finite zeroʳ)) (other_way y x h.holds))) (fitting finite (difference_fits x y) (x -ʳ y))

cut_is : (x y : Value) → IfSome (exact_cutᵛ x y) (λ z. z ≡ monusᵛ x y)
unfolding monusᵛ
cut_is (finite x) (finite y) = one (exact_orderᵛ (finite x) (finite y)) (compareʳ x y) (λ o. at_most_or o (Some zeroᵛ) (exact_differenceᵛ (finite x) (finite y))) _ (order_is (finite x) (finite y)) (cut_finite x y (compareʳ x y) (compareʳ-is x y))
cut_is (finite x) infinite = refl
cut_is infinite (finite y) = refl
cut_is infinite infinite = refl

-- ---- Formulas

mutual
  pub exact_is : (f : Form) (s : List Val) → IfSome (exact_value f s) (λ x. x ≡ value f (environment s) Choices.stop)
  exact_is (Form.number v) s = refl
  exact_is (Form.variable x) s = refl
  exact_is (Form.sum a b) s = both (exact_value a s) (exact_value b s) _ _ _ _ (exact_is a s) (exact_is b s) (sum_is _ _)
  exact_is (Form.difference a b) s = both (exact_value a s) (exact_value b s) _ _ _ _ (exact_is a s) (exact_is b s) (difference_is _ _)
  exact_is (Form.cut a b) s = both (exact_value a s) (exact_value b s) _ _ _ _ (exact_is a s) (exact_is b s) (cut_is _ _)
  exact_is (Form.scale w a) s = one (exact_value a s) _ (λ x. exact_scaleᵛ w x) _ (exact_is a s) (product_is (finite w) _)
  exact_is (Form.product a b span) s = both (exact_value a s) (exact_value b s) _ _ _ _ (exact_is a s) (exact_is b s) (product_is _ _)
  exact_is (Form.min a b) s = both (exact_value a s) (exact_value b s) _ _ _ _ (exact_is a s) (exact_is b s) (min_is _ _)
  exact_is (Form.max a b) s = both (exact_value a s) (exact_value b s) _ _ _ _ (exact_is a s) (exact_is b s) (max_is _ _)
  exact_is (Form.imply a b) s = both (exact_value a s) (exact_value b s) _ _ _ _ (exact_is a s) (exact_is b s) (implies_is _ _)
  exact_is (Form.co_imply a b) s = both (exact_value a s) (exact_value b s) _ _ _ _ (exact_is a s) (exact_is b s) (coimplies_is _ _)
  exact_is (Form.validate a) s = mapped validateᵛ (exact_value a s) _ (exact_is a s)
  exact_is (Form.co_validate a) s = mapped covalidateᵛ (exact_value a s) _ (exact_is a s)
  exact_is (Form.embed g) s = decided (exact_truth g s) _ (Some infinite) (Some zeroᵛ) infinite zeroᵛ (truth_is g s) refl refl
  exact_is (Form.iverson g) s = decided (exact_truth g s) _ (Some oneᵛ) (Some zeroᵛ) oneᵛ zeroᵛ (truth_is g s) refl refl
  exact_is (Form.select g a b) s = decided (exact_truth g s) _ (exact_value a s) (exact_value b s) _ _ (truth_is g s) (exact_is a s) (exact_is b s)
  exact_is (Form.bind up y name ty a) s = tt

  pub truth_is : (g : Cond) (s : List Val) → IfSome (exact_truth g s) (λ t. t ≡ holds g (environment s) Choices.stop)
  truth_is (Cond.constant b) s = refl
  truth_is (Cond.flag x) s = refl
  truth_is (Cond.not g) s = mapped not (exact_truth g s) _ (truth_is g s)
  truth_is (Cond.and g h) s = conjunction (exact_truth g s) (exact_truth h s) _ _ (truth_is g s) (truth_is h s)
  truth_is (Cond.or g h) s = disjunction (exact_truth g s) (exact_truth h s) _ _ (truth_is g s) (truth_is h s)
  truth_is (Cond.same g h) s = both (exact_truth g s) (exact_truth h s) _ _ (λ x y. Some (agree x y)) _ (truth_is g s) (truth_is h s) refl
  truth_is (Cond.le a b) s = both (exact_value a s) (exact_value b s) _ _ _ _ (exact_is a s) (exact_is b s) (leq_is _ _)
  truth_is (Cond.lt a b) s = both (exact_value a s) (exact_value b s) _ _ _ _ (exact_is a s) (exact_is b s) (less_is _ _)
  truth_is (Cond.equal a b) s = both (exact_value a s) (exact_value b s) _ _ _ _ (exact_is a s) (exact_is b s) (equal_is _ _)
  truth_is (Cond.ite g h k) s = decided (exact_truth g s) _ (exact_truth h s) (exact_truth k s) _ _ (truth_is g s) (truth_is h s) (truth_is k s)

told : (p : Option Bool) (x y : Value) → IfSome p (λ t. t ≡ leqᵛ x y) → IfSome p (λ t. (t ≡ true) ↔ (x ≤ᵛ y))
told (Some t) x y h = (λ e. record { holds = sym h ∙ e }, λ l. h ∙ l.holds)
told None x y h = tt

sides : (upper : Bool) (f h : Form) (s : List Val) → IfSome (and_then (exact_value f s) (λ x. and_then (exact_value h s) (λ y. cond upper (exact_leqᵛ y x) (exact_leqᵛ x y)))) (λ t. (t ≡ true) ↔ Compares upper (value f (environment s) Choices.stop) (value h (environment s) Choices.stop))
sides true f h s = told _ (value h (environment s) Choices.stop) (value f (environment s) Choices.stop) (both (exact_value f s) (exact_value h s) _ _ (λ x y. exact_leqᵛ y x) _ (exact_is f s) (exact_is h s) (leq_is _ _))
sides false f h s = told _ (value f (environment s) Choices.stop) (value h (environment s) Choices.stop) (both (exact_value f s) (exact_value h s) _ _ (λ x y. exact_leqᵛ x y) _ (exact_is f s) (exact_is h s) (leq_is _ _))

pub goal_is : (g : Goal) (s : List Val) → IfSome (exact_goal g s) (λ t. (t ≡ true) ↔ HoldsIn g (environment s))
goal_is g s = sides g.upper g.stated g.found s
