-- Suprema and infima, bounded choice by choice.
use Rattle.std.proofs.Common.{◌≡◌, ◌⊎◌, inl, inr, ◌↔◌, ℕ, refl, sym, ap, ap₂, ◌∙◌, subst, Bool, true, false, not, cond, ◌&&◌, ◌||◌}
use Rattle.std.specs.Prelude.{Some}
use Rattle.heyvl_num.specs.Rational.{Rational, zeroʳ, oneʳ, ◌+ʳ◌, ◌-ʳ◌, negʳ, ◌≤ʳ◌, leqʳ}
use Rattle.heyvl_num.specs.Value.{Value, zeroᵛ, oneᵛ, ◌+ᵛ◌, ◌*ᵛ◌, leqᵛ, is_zeroʳ, ◌≤ᵛ◌, ◌<ᵛ◌}
use Rattle.heyvl_num.specs.Value.Value.{finite, infinite}
use Rattle.heyvl_num.specs.ValueOperators.{minᵛ, maxᵛ, impliesᵛ, coimpliesᵛ, monusᵛ}
use Rattle.heyvl_num.proofs.exported.Rationals.{+ʳ_assoc, +ʳ-zero, *ʳ_comm, ≤ʳ_refl}
use Rattle.heyvl_num.proofs.exported.Signs.{neg-+ʳ}
use Rattle.heyvl_num.proofs.exported.Inverses.{inverse, Inverse}
use Rattle.heyvl_num.proofs.exported.Values.{≤ᵛ_refl, ≤ᵛ_trans, ≤ᵛ_antisym, ≤ᵛ_infinite, infinite_above, +ᵛ_comm, +ᵛ-infinite, +ᵛ_mono, scale_mono, scale_scale, one-*ᵛ, zero-*ᵛ, finite-+, finite_terms, at_most_or_less, <ᵛ-not, is_zero-is, is_zero-zero, nonnegative_finite}
use Rattle.heyvl_num.proofs.exported.Operators.{min_below_left, min_below_right, min_greatest, min_mono, min_comm, max_above_left, max_above_right, max_least, max_mono, max_comm, implies_adjoint, implies_mono, coimplies_adjoint, coimplies_mono, coimplies_nonnegative}
use Rattle.heylo_formula.specs.Operators.{differenceᵛ, validateᵛ, covalidateᵛ, agree, is_finite, finite_part}
use Rattle.heylo_formula.specs.State.{Env, put, fit, has}
use Rattle.heylo_formula.specs.Choices.{Choices, here, left, right}
use Rattle.heylo_formula.specs.Formula.{Form, Cond}
use Rattle.heylo_formula.specs.Meaning.{value, holds}
use Rattle.heylo_formula.specs.Binders.{has_binder, has_binder_in}
use Rattle.heylo_formula.specs.Goals.{Compares}
use Rattle.heylo_formula.specs.Typing.{NumberType, Types, retyped, joined, is_unsigned, type_of, is_well_typed, HasTypes}
use Rattle.heylo_formula.specs.Extrema.{Bound, Chosen, Means, is_directed, is_weight, is_number}
use Rattle.heylo_formula.specs.declared.types.Ty.{Ty}
use Rattle.heylo_formula.specs.declared.values.Val.{Val}
use Rattle.heylo_formula.specs.declared.values.Val.TheVariants.{Truth}
use Rattle.heylo_formula.proofs.Dependence.{or_false, neither, unchosen, unchosen_in}
use Rattle.heylo_formula.proofs.TypedValues.{joined_parts, only_parts, only_part, scaled_part, nonnegative_value, validate_nonnegative, covalidate_nonnegative, fit_has, fit_same, put_typed}

-- ---- Bounds of values, in either direction

compares_refl : (up : Bool) (x : Value) → Compares up x x
compares_refl true x = ≤ᵛ_refl x
compares_refl false x = ≤ᵛ_refl x

compares_trans : (up : Bool) (x y z : Value) → Compares up x y → Compares up y z → Compares up x z
compares_trans true x y z h k = ≤ᵛ_trans z y x k h
compares_trans false x y z h k = ≤ᵛ_trans x y z h k

compares_sum : (up : Bool) (x x' y y' : Value) → Compares up x x' → Compares up y y' → Compares up (x +ᵛ y) (x' +ᵛ y')
compares_sum true x x' y y' h k = +ᵛ_mono x' x y' y h k
compares_sum false x x' y y' h k = +ᵛ_mono x x' y y' h k

compares_scale : (up : Bool) (w : Rational) (x y : Value) → zeroʳ ≤ʳ w → Compares up x y → Compares up (finite w *ᵛ x) (finite w *ᵛ y)
compares_scale true w x y p h = scale_mono w y x p h
compares_scale false w x y p h = scale_mono w x y p h

compares_min : (up : Bool) (x x' y y' : Value) → Compares up x x' → Compares up y y' → Compares up (minᵛ x y) (minᵛ x' y')
compares_min true x x' y y' h k = min_mono x' x y' y h k
compares_min false x x' y y' h k = min_mono x x' y y' h k

compares_max : (up : Bool) (x x' y y' : Value) → Compares up x x' → Compares up y y' → Compares up (maxᵛ x y) (maxᵛ x' y')
compares_max true x x' y y' h k = max_mono x' x y' y h k
compares_max false x x' y y' h k = max_mono x x' y y' h k

compares_terms : (up : Bool) (z x : Value) (y : Rational) → Compares up z x ↔ Compares up (z +ᵛ finite y) (x +ᵛ finite y)
compares_terms true z x y = finite_terms x z y
compares_terms false z x y = finite_terms z x y

-- ---- Operators that preserve the best value of a family: a value that bounds the family bounds m

abbrev Closes : Bool → (Choices → Value) → Value → Type 0
Closes up p m = (z : Value) → ((c : Choices) → Compares up z (p c)) → Compares up z m

closes_same : (up : Bool) (p q : Choices → Value) (m n : Value) → ((c : Choices) → p c ≡ q c) → m ≡ n → Closes up p m → Closes up q n
closes_same up p q m n e f h z k = subst (λ u. Compares up z u) f (h z (λ c. subst (λ u. Compares up z u) (sym (e c)) (k c)))

-- Each `z` is a value plus the fraction `y`.
before : (z : Value) (y : Rational) → (x : Value) × (x +ᵛ finite y ≡ z)
before (finite z) y = (finite (z +ʳ negʳ y), finite-+ (z +ʳ negʳ y) y ∙ ap finite (+ʳ_assoc z (negʳ y) y ∙ ap (λ u. z +ʳ u) (neg-+ʳ y) ∙ +ʳ-zero z))
before infinite y = (infinite, +ᵛ_comm infinite (finite y) ∙ +ᵛ-infinite (finite y))

closes_term : (up : Bool) (p : Choices → Value) (m : Value) (y : Rational) → Closes up p m → Closes up (λ c. p c +ᵛ finite y) (m +ᵛ finite y)
closes_term up p m y h z k =
    let b = before z y in
    subst (λ u. Compares up u (m +ᵛ finite y)) b.1 ((compares_terms up b.0 m y).0 (h b.0 (λ c. (compares_terms up b.0 (p c) y).1 (subst (λ u. Compares up u (p c +ᵛ finite y)) (sym b.1) (k c)))))

closes_sum : (up : Bool) (p : Choices → Value) (m y : Value) → Closes up p m → Closes up (λ c. p c +ᵛ y) (m +ᵛ y)
closes_sum up p m (finite y) h = closes_term up p m y h
closes_sum up p m infinite h = λ z k. subst (λ u. Compares up z u) (+ᵛ-infinite (p Choices.stop) ∙ sym (+ᵛ-infinite m)) (k Choices.stop)

closes_sum_right : (up : Bool) (p : Choices → Value) (m x : Value) → Closes up p m → Closes up (λ c. x +ᵛ p c) (x +ᵛ m)
closes_sum_right up p m x h = closes_same up (λ c. p c +ᵛ x) (λ c. x +ᵛ p c) (m +ᵛ x) (x +ᵛ m) (λ c. +ᵛ_comm (p c) x) (+ᵛ_comm m x) (closes_sum up p m x h)

unit_times : (x : Value) → finite oneʳ *ᵛ x ≡ x
unfolding oneᵛ
unit_times x = one-*ᵛ x

nothing_times : (w : Rational) (x : Value) → is_zeroʳ w ≡ true → finite w *ᵛ x ≡ zeroᵛ
unfolding zeroᵛ
nothing_times w x e = ap (λ u. finite u *ᵛ x) (is_zero-is w e) ∙ zero-*ᵛ x

undone : (w : Rational) (i : Inverse w) (x : Value) → finite i.factor *ᵛ (finite w *ᵛ x) ≡ x
undone w i x = scale_scale i.factor w x ∙ ap (λ u. finite u *ᵛ x) i.undoes ∙ unit_times x

redone : (w : Rational) (i : Inverse w) (x : Value) → finite w *ᵛ (finite i.factor *ᵛ x) ≡ x
redone w i x = scale_scale w i.factor x ∙ ap (λ u. finite u *ᵛ x) (*ʳ_comm w i.factor ∙ i.undoes) ∙ unit_times x

closes_positive : (up : Bool) (w : Rational) (p : Choices → Value) (m : Value) → zeroʳ ≤ʳ w → Inverse w → Closes up p m → Closes up (λ c. finite w *ᵛ p c) (finite w *ᵛ m)
closes_positive up w p m q i h z k = subst (λ u. Compares up u (finite w *ᵛ m)) (redone w i z) (compares_scale up w (finite i.factor *ᵛ z) m q (h (finite i.factor *ᵛ z) (λ c. subst (λ u. Compares up (finite i.factor *ᵛ z) u) (undone w i (p c)) (compares_scale up i.factor z (finite w *ᵛ p c) i.nonnegative (k c)))))

closes_scale : (up : Bool) (w : Rational) (p : Choices → Value) (m : Value) → zeroʳ ≤ʳ w → Closes up p m → Closes up (λ c. finite w *ᵛ p c) (finite w *ᵛ m)
closes_scale up w p m q h = go (is_zeroʳ w) refl
  where
    go : (b : Bool) → is_zeroʳ w ≡ b → Closes up (λ c. finite w *ᵛ p c) (finite w *ᵛ m)
    go true e = λ z k. subst (λ u. Compares up z u) (nothing_times w (p Choices.stop) e ∙ sym (nothing_times w m e)) (k Choices.stop)
    go false e = closes_positive up w p m q (inverse w q e) h

min_left : (x y z : Value) → minᵛ x y ≤ᵛ z → z <ᵛ y → x ≤ᵛ z
unfolding minᵛ
min_left x y z = go (leqᵛ x y)
  where
    go : (b : Bool) → cond b x y ≤ᵛ z → z <ᵛ y → x ≤ᵛ z
    go true h k = h
    go false h k = absurd (<ᵛ-not z y k h)

max_left : (x y z : Value) → z ≤ᵛ maxᵛ x y → y <ᵛ z → z ≤ᵛ x
unfolding maxᵛ
max_left x y z = go (leqᵛ x y)
  where
    go : (b : Bool) → z ≤ᵛ cond b y x → y <ᵛ z → z ≤ᵛ x
    go true h k = absurd (<ᵛ-not y z k h)
    go false h k = h

closes_min : (up : Bool) (p : Choices → Value) (m y : Value) → Closes up p m → Closes up (λ c. minᵛ (p c) y) (minᵛ m y)
closes_min true p m y h z k = go (at_most_or_less y z)
  where
    go : (y ≤ᵛ z) ⊎ (z <ᵛ y) → minᵛ m y ≤ᵛ z
    go (inl l) = ≤ᵛ_trans (minᵛ m y) y z (min_below_right m y) l
    go (inr l) = ≤ᵛ_trans (minᵛ m y) m z (min_below_left m y) (h z (λ c. min_left (p c) y z (k c) l))
closes_min false p m y h z k = min_greatest m y z (h z (λ c. ≤ᵛ_trans z (minᵛ (p c) y) (p c) (k c) (min_below_left (p c) y))) (≤ᵛ_trans z (minᵛ (p Choices.stop) y) y (k Choices.stop) (min_below_right (p Choices.stop) y))

closes_min_right : (up : Bool) (p : Choices → Value) (m x : Value) → Closes up p m → Closes up (λ c. minᵛ x (p c)) (minᵛ x m)
closes_min_right up p m x h = closes_same up (λ c. minᵛ (p c) x) (λ c. minᵛ x (p c)) (minᵛ m x) (minᵛ x m) (λ c. min_comm (p c) x) (min_comm m x) (closes_min up p m x h)

closes_max : (up : Bool) (p : Choices → Value) (m y : Value) → Closes up p m → Closes up (λ c. maxᵛ (p c) y) (maxᵛ m y)
closes_max true p m y h z k = max_least m y z (h z (λ c. ≤ᵛ_trans (p c) (maxᵛ (p c) y) z (max_above_left (p c) y) (k c))) (≤ᵛ_trans y (maxᵛ (p Choices.stop) y) z (max_above_right (p Choices.stop) y) (k Choices.stop))
closes_max false p m y h z k = go (at_most_or_less z y)
  where
    go : (z ≤ᵛ y) ⊎ (y <ᵛ z) → z ≤ᵛ maxᵛ m y
    go (inl l) = ≤ᵛ_trans z y (maxᵛ m y) l (max_above_right m y)
    go (inr l) = ≤ᵛ_trans z m (maxᵛ m y) (h z (λ c. max_left (p c) y z (k c) l)) (max_above_left m y)

closes_max_right : (up : Bool) (p : Choices → Value) (m x : Value) → Closes up p m → Closes up (λ c. maxᵛ x (p c)) (maxᵛ x m)
closes_max_right up p m x h = closes_same up (λ c. maxᵛ (p c) x) (λ c. maxᵛ x (p c)) (maxᵛ m x) (maxᵛ x m) (λ c. max_comm (p c) x) (max_comm m x) (closes_max up p m x h)

-- An infimum on the right of an implication.
closes_implies : (p : Choices → Value) (m x : Value) → Closes false p m → Closes false (λ c. impliesᵛ x (p c)) (impliesᵛ x m)
closes_implies p m x h z k = (implies_adjoint x m z).1 (h (minᵛ z x) (λ c. (implies_adjoint x (p c) z).0 (k c)))

-- A supremum on the right of a coimplication.
closes_coimplies : (p : Choices → Value) (m x : Value) → zeroᵛ ≤ᵛ p Choices.stop → Closes true p m → Closes true (λ c. coimpliesᵛ x (p c)) (coimpliesᵛ x m)
closes_coimplies p m x q h z k =
    let r : zeroᵛ ≤ᵛ z = ≤ᵛ_trans zeroᵛ (coimpliesᵛ x (p Choices.stop)) z (coimplies_nonnegative x (p Choices.stop) q) (k Choices.stop) in
    (coimplies_adjoint x m z r).1 (h (maxᵛ x z) (λ c. (coimplies_adjoint x (p c) z r).0 (k c)))

validate_above : (x z : Value) → z ≤ᵛ validateᵛ x → zeroᵛ <ᵛ z → infinite ≤ᵛ x
unfolding validateᵛ
validate_above (finite x) z h k = absurd (<ᵛ-not zeroᵛ z k h)
validate_above infinite z h k = ≤ᵛ_refl infinite

validate_infinite : (x z : Value) → infinite ≤ᵛ x → z ≤ᵛ validateᵛ x
unfolding validateᵛ
validate_infinite (finite x) z h = absurd (infinite_above x h)
validate_infinite infinite z h = ≤ᵛ_infinite z

-- An infimum under validate.
closes_validate : (p : Choices → Value) (m : Value) → Closes false p m → Closes false (λ c. validateᵛ (p c)) (validateᵛ m)
closes_validate p m h z k = go (at_most_or_less z zeroᵛ)
  where
    go : (z ≤ᵛ zeroᵛ) ⊎ (zeroᵛ <ᵛ z) → z ≤ᵛ validateᵛ m
    go (inl l) = ≤ᵛ_trans z zeroᵛ (validateᵛ m) l (validate_nonnegative m)
    go (inr l) = validate_infinite m z (h infinite (λ c. validate_above (p c) z (k c) l))

validates : (x y : Value) → x ≤ᵛ y → validateᵛ x ≤ᵛ validateᵛ y
unfolding validateᵛ
validates (finite x) y h = validate_nonnegative y
validates infinite y h = validate_infinite y infinite h

covalidate_below : (x : Value) (z : Rational) → covalidateᵛ x ≤ᵛ finite z → x ≤ᵛ zeroᵛ
unfolding covalidateᵛ zeroᵛ
covalidate_below (finite x) z h = go (is_zeroʳ x) refl h
  where
    go : (b : Bool) → is_zeroʳ x ≡ b → cond b (finite zeroʳ) infinite ≤ᵛ finite z → finite x ≤ᵛ finite zeroʳ
    go true e h = subst (λ u. finite u ≤ᵛ finite zeroʳ) (sym (is_zero-is x e)) (≤ᵛ_refl (finite zeroʳ))
    go false e h = absurd (infinite_above z h)
covalidate_below infinite z h = absurd (infinite_above z h)

covalidate_zero : covalidateᵛ zeroᵛ ≡ zeroᵛ
unfolding covalidateᵛ zeroᵛ
covalidate_zero = rw is_zero-zero

covalidate_at_zero : (m : Value) → m ≤ᵛ zeroᵛ → zeroᵛ ≤ᵛ m → covalidateᵛ m ≡ zeroᵛ
covalidate_at_zero m h k = ap covalidateᵛ (≤ᵛ_antisym m zeroᵛ h k) ∙ covalidate_zero

-- A supremum under covalidate.
closes_covalidate : (p : Choices → Value) (m : Value) → zeroᵛ ≤ᵛ m → Closes true p m → Closes true (λ c. covalidateᵛ (p c)) (covalidateᵛ m)
closes_covalidate p m q h (finite z) k = subst (λ u. u ≤ᵛ finite z) (sym (covalidate_at_zero m (h zeroᵛ (λ c. covalidate_below (p c) z (k c))) q)) (≤ᵛ_trans zeroᵛ (covalidateᵛ (p Choices.stop)) (finite z) (covalidate_nonnegative (p Choices.stop)) (k Choices.stop))
closes_covalidate p m q h infinite k = ≤ᵛ_infinite (covalidateᵛ m)

covalidate_infinite : covalidateᵛ infinite ≡ infinite
unfolding covalidateᵛ
covalidate_infinite = refl

covalidates : (x y : Value) → zeroᵛ ≤ᵛ x → x ≤ᵛ y → covalidateᵛ x ≤ᵛ covalidateᵛ y
covalidates x (finite y) q h = below (covalidateᵛ (finite y)) refl
  where
    below : (v : Value) → covalidateᵛ (finite y) ≡ v → covalidateᵛ x ≤ᵛ covalidateᵛ (finite y)
    below (finite v) e =
        let l : finite y ≤ᵛ zeroᵛ = covalidate_below (finite y) v (subst (λ u. covalidateᵛ (finite y) ≤ᵛ u) e (≤ᵛ_refl (covalidateᵛ (finite y)))) in
        subst (λ u. u ≤ᵛ covalidateᵛ (finite y)) (sym (covalidate_at_zero x (≤ᵛ_trans x (finite y) zeroᵛ h l) q)) (covalidate_nonnegative (finite y))
    below infinite e = subst (λ u. covalidateᵛ x ≤ᵛ u) (sym e) (≤ᵛ_infinite (covalidateᵛ x))
covalidates x infinite q h = subst (λ u. covalidateᵛ x ≤ᵛ u) (sym covalidate_infinite) (≤ᵛ_infinite (covalidateᵛ x))

-- ---- Forms without binders

pub means_value : (f : Form) (s : Env) (m : Value) → has_binder f ≡ false → Means f s m → m ≡ value f s Choices.stop
means_value (Form.number v) s m n h = h
means_value (Form.variable x) s m n h = h
means_value (Form.sum a b) s m n h = let k = or_false (has_binder a) (has_binder b) n in h.result ∙ ap₂ (λ x y. x +ᵛ y) (means_value a s h.first k.0 h.first_meant) (means_value b s h.second k.1 h.second_meant)
means_value (Form.difference a b) s m n h = let k = or_false (has_binder a) (has_binder b) n in h.result ∙ ap₂ (λ x y. differenceᵛ x y) (means_value a s h.first k.0 h.first_meant) (means_value b s h.second k.1 h.second_meant)
means_value (Form.cut a b) s m n h = let k = or_false (has_binder a) (has_binder b) n in h.result ∙ ap₂ (λ x y. monusᵛ x y) (means_value a s h.first k.0 h.first_meant) (means_value b s h.second k.1 h.second_meant)
means_value (Form.product a b span) s m n h = let k = or_false (has_binder a) (has_binder b) n in h.result ∙ ap₂ (λ x y. x *ᵛ y) (means_value a s h.first k.0 h.first_meant) (means_value b s h.second k.1 h.second_meant)
means_value (Form.min a b) s m n h = let k = or_false (has_binder a) (has_binder b) n in h.result ∙ ap₂ (λ x y. minᵛ x y) (means_value a s h.first k.0 h.first_meant) (means_value b s h.second k.1 h.second_meant)
means_value (Form.max a b) s m n h = let k = or_false (has_binder a) (has_binder b) n in h.result ∙ ap₂ (λ x y. maxᵛ x y) (means_value a s h.first k.0 h.first_meant) (means_value b s h.second k.1 h.second_meant)
means_value (Form.imply a b) s m n h = let k = or_false (has_binder a) (has_binder b) n in h.result ∙ ap₂ (λ x y. impliesᵛ x y) (means_value a s h.first k.0 h.first_meant) (means_value b s h.second k.1 h.second_meant)
means_value (Form.co_imply a b) s m n h = let k = or_false (has_binder a) (has_binder b) n in h.result ∙ ap₂ (λ x y. coimpliesᵛ x y) (means_value a s h.first k.0 h.first_meant) (means_value b s h.second k.1 h.second_meant)
means_value (Form.scale w a) s m n h = h.result ∙ ap (λ x. finite w *ᵛ x) (means_value a s h.part n h.meant)
means_value (Form.validate a) s m n h = h.result ∙ ap (λ x. validateᵛ x) (means_value a s h.part n h.meant)
means_value (Form.co_validate a) s m n h = h.result ∙ ap (λ x. covalidateᵛ x) (means_value a s h.part n h.meant)
means_value (Form.embed g) s m n h = h
means_value (Form.iverson g) s m n h = h
means_value (Form.select g a b) s m n h = let k = or_false (has_binder_in g) (has_binder a || has_binder b) n in let l = or_false (has_binder a) (has_binder b) k.1 in chosen_value (holds g s Choices.stop) (Means a s m) (Means b s m) m _ _ (means_value a s m l.0) (means_value b s m l.1) h
  where
    chosen_value : (t : Bool) (A B : Type 0) (m x y : Value) → (A → m ≡ x) → (B → m ≡ y) → Chosen t A B → m ≡ cond t x y
    chosen_value true A B m x y f g h = f h
    chosen_value false A B m x y f g h = g h
means_value (Form.bind up x name ty a) s m n h = absurd (cc)

pub value_means : (f : Form) (s : Env) → has_binder f ≡ false → Means f s (value f s Choices.stop)
value_means (Form.number v) s n = refl
value_means (Form.variable x) s n = refl
value_means (Form.sum a b) s n = let k = or_false (has_binder a) (has_binder b) n in record { first = value a s Choices.stop; second = value b s Choices.stop; first_meant = value_means a s k.0; second_meant = value_means b s k.1; result = refl }
value_means (Form.difference a b) s n = let k = or_false (has_binder a) (has_binder b) n in record { first = value a s Choices.stop; second = value b s Choices.stop; first_meant = value_means a s k.0; second_meant = value_means b s k.1; result = refl }
value_means (Form.cut a b) s n = let k = or_false (has_binder a) (has_binder b) n in record { first = value a s Choices.stop; second = value b s Choices.stop; first_meant = value_means a s k.0; second_meant = value_means b s k.1; result = refl }
value_means (Form.product a b span) s n = let k = or_false (has_binder a) (has_binder b) n in record { first = value a s Choices.stop; second = value b s Choices.stop; first_meant = value_means a s k.0; second_meant = value_means b s k.1; result = refl }
value_means (Form.min a b) s n = let k = or_false (has_binder a) (has_binder b) n in record { first = value a s Choices.stop; second = value b s Choices.stop; first_meant = value_means a s k.0; second_meant = value_means b s k.1; result = refl }
value_means (Form.max a b) s n = let k = or_false (has_binder a) (has_binder b) n in record { first = value a s Choices.stop; second = value b s Choices.stop; first_meant = value_means a s k.0; second_meant = value_means b s k.1; result = refl }
value_means (Form.imply a b) s n = let k = or_false (has_binder a) (has_binder b) n in record { first = value a s Choices.stop; second = value b s Choices.stop; first_meant = value_means a s k.0; second_meant = value_means b s k.1; result = refl }
value_means (Form.co_imply a b) s n = let k = or_false (has_binder a) (has_binder b) n in record { first = value a s Choices.stop; second = value b s Choices.stop; first_meant = value_means a s k.0; second_meant = value_means b s k.1; result = refl }
value_means (Form.scale w a) s n = record { part = value a s Choices.stop; meant = value_means a s n; result = refl }
value_means (Form.validate a) s n = record { part = value a s Choices.stop; meant = value_means a s n; result = refl }
value_means (Form.co_validate a) s n = record { part = value a s Choices.stop; meant = value_means a s n; result = refl }
value_means (Form.embed g) s n = refl
value_means (Form.iverson g) s n = refl
value_means (Form.select g a b) s n = let k = or_false (has_binder_in g) (has_binder a || has_binder b) n in let l = or_false (has_binder a) (has_binder b) k.1 in chosen_means (holds g s Choices.stop) (Means a s) (Means b s) _ _ (value_means a s l.0) (value_means b s l.1)
  where
    chosen_means : (t : Bool) (A B : Value → Type 0) (x y : Value) → A x → B y → Chosen t (A (cond t x y)) (B (cond t x y))
    chosen_means true A B x y h k = h
    chosen_means false A B x y h k = k
value_means (Form.bind up x name ty a) s n = absurd (cc)

pub binder_free_means : (f : Form) (s : Env) (m : Value) → has_binder f ≡ false → Means f s m ↔ (m ≡ value f s Choices.stop)
binder_free_means f s m n = (means_value f s m n, λ e. subst (λ u. Means f s u) (sym e) (value_means f s n))

-- ---- Forms with binders of one direction

-- `m` bounds the value of each choice, and every other bound of these values bounds `m`.
pub record Bests (up : Bool) (f : Form) (s : Env) (m : Value) : Type 0 where
  pub each : (c : Choices) → Compares up m (value f s c)
  pub closes : Closes up (value f s) m

without : (b : Bool) → not b ≡ true → b ≡ false
without true h = absurd (cc)
without false h = refl

and_both : (a b : Bool) → (a && b) ≡ true → (a ≡ true) × (b ≡ true)
and_both true b h = (refl, h)
and_both false b h = absurd (cc)

plain : (up : Bool) (f : Form) (s : Env) (m : Value) → has_binder f ≡ false → Means f s m → Bests up f s m
plain up f s m n h =
    let e = means_value f s m n h in
    record {
      each = λ c. subst (λ u. Compares up u (value f s c)) (unchosen f s c n ∙ sym e) (compares_refl up (value f s c));
      closes = λ z k. subst (λ u. Compares up z u) (sym e) (k Choices.stop);
    }

-- Two operands with independent choices.
closes_both : (up : Bool) (op : Value → Value → Value) (p q : Choices → Value) (m n : Value) → ((y : Value) → Closes up (λ c. op (p c) y) (op m y)) → ((x : Value) → Closes up (λ c. op x (q c)) (op x n)) → (z : Value) → ((c : Choices) → Compares up z (op (p (left c)) (q (right c)))) → Compares up z (op m n)
closes_both up op p q m n f g z k = g m z (λ d. f (q d) z (λ c. k (Choices.choose (Truth false) c d)))

joined_bests : (up : Bool) (op : Value → Value → Value) (a b f : Form) (s : Env) (m : Value) (x y : Value) → m ≡ op x y → ((c : Choices) → value f s c ≡ op (value a s (left c)) (value b s (right c))) → ((x x' y y' : Value) → Compares up x x' → Compares up y y' → Compares up (op x y) (op x' y')) → ((p : Choices → Value) (m y : Value) → Closes up p m → Closes up (λ c. op (p c) y) (op m y)) → ((p : Choices → Value) (m x : Value) → Closes up p m → Closes up (λ c. op x (p c)) (op x m)) → Bests up a s x → Bests up b s y → Bests up f s m
joined_bests up op a b f s m x y e v mono first second h k = record {
  each = λ c. subst (λ u. Compares up u (value f s c)) (sym e) (subst (λ u. Compares up (op x y) u) (sym (v c)) (mono x (value a s (left c)) y (value b s (right c)) (h.each (left c)) (k.each (right c))));
  closes = λ z l. subst (λ u. Compares up z u) (sym e) (closes_both up op (value a s) (value b s) x y (λ u. first (value a s) x u h.closes) (λ u. second (value b s) y u k.closes) z (λ c. subst (λ u. Compares up z u) (v c) (l c)));
}

mapped_bests : (up : Bool) (op : Value → Value) (a f : Form) (s : Env) (m x : Value) → m ≡ op x → ((c : Choices) → value f s c ≡ op (value a s c)) → ((c : Choices) → Compares up x (value a s c) → Compares up (op x) (op (value a s c))) → (Closes up (value a s) x → Closes up (λ c. op (value a s c)) (op x)) → Bests up a s x → Bests up f s m
mapped_bests up op a f s m x e v mono kept h = record {
  each = λ c. subst (λ u. Compares up u (value f s c)) (sym e) (subst (λ u. Compares up (op x) u) (sym (v c)) (mono c (h.each c)));
  closes = λ z l. subst (λ u. Compares up z u) (sym e) (kept h.closes z (λ c. subst (λ u. Compares up z u) (v c) (l c)));
}

-- Only the right operand has binders.
right_bests : (up : Bool) (op : Value → Value → Value) (a b f : Form) (s : Env) (m : Value) (x y : Value) → m ≡ op x y → x ≡ value a s Choices.stop → has_binder a ≡ false → ((c : Choices) → value f s c ≡ op (value a s (left c)) (value b s (right c))) → ((c : Choices) → Compares up y (value b s c) → Compares up (op x y) (op x (value b s c))) → (Closes up (value b s) y → Closes up (λ c. op x (value b s c)) (op x y)) → Bests up b s y → Bests up f s m
right_bests up op a b f s m x y e first n v mono kept h = record {
  each = λ c. subst (λ u. Compares up u (value f s c)) (sym e) (subst (λ u. Compares up (op x y) u) (sym (fixed c)) (mono (right c) (h.each (right c))));
  closes = λ z l. subst (λ u. Compares up z u) (sym e) (kept h.closes z (λ c. subst (λ u. Compares up z u) (fixed (Choices.choose (Truth false) Choices.stop c)) (l (Choices.choose (Truth false) Choices.stop c))));
}
  where
    fixed : (c : Choices) → value f s c ≡ op x (value b s (right c))
    fixed c = v c ∙ ap (λ u. op u (value b s (right c))) (unchosen a s (left c) n ∙ sym first)

chosen_bests : (up : Bool) (g : Cond) (a b : Form) (s : Env) (m : Value) (t : Bool) → holds g s Choices.stop ≡ t → has_binder_in g ≡ false → (Means a s m → Bests up a s m) → (Means b s m → Bests up b s m) → Chosen t (Means a s m) (Means b s m) → Bests up (Form.select g a b) s m
chosen_bests up g a b s m true e n f k h = record {
  each = λ c. subst (λ u. Compares up m u) (sym (taken c)) ((f h).each (right c));
  closes = λ z l. (f h).closes z (λ c. subst (λ u. Compares up z u) (taken (Choices.choose (Truth false) Choices.stop c)) (l (Choices.choose (Truth false) Choices.stop c)));
}
  where
    taken : (c : Choices) → cond (holds g s (left c)) (value a s (right c)) (value b s (right c)) ≡ value a s (right c)
    taken c = ap (λ t. cond t (value a s (right c)) (value b s (right c))) (unchosen_in g s (left c) n ∙ e)
chosen_bests up g a b s m false e n f k h = record {
  each = λ c. subst (λ u. Compares up m u) (sym (taken c)) ((k h).each (right c));
  closes = λ z l. (k h).closes z (λ c. subst (λ u. Compares up z u) (taken (Choices.choose (Truth false) Choices.stop c)) (l (Choices.choose (Truth false) Choices.stop c)));
}
  where
    taken : (c : Choices) → cond (holds g s (left c)) (value a s (right c)) (value b s (right c)) ≡ value b s (right c)
    taken c = ap (λ t. cond t (value a s (right c)) (value b s (right c))) (unchosen_in g s (left c) n ∙ e)

bound_bests : (up : Bool) (x name : ℕ) (ty : Ty) (a : Form) (s : Env) (m : Value) → (h : Bound up ty (λ v. Means a (put x v s)) m) → ((v : Val) → has ty v ≡ true → Bests up a (put x v s) (h.family v)) → Bests up (Form.bind up x name ty a) s m
bound_bests up x name ty a s m h f = record {
  each = λ c. compares_trans up m (h.family (fit ty (here c))) (value a (put x (fit ty (here c)) s) (left c)) ((h.best m).0 (compares_refl up m) (fit ty (here c)) (fit_has ty (here c))) ((f (fit ty (here c)) (fit_has ty (here c))).each (left c));
  closes = λ z l. (h.best z).1 (λ v p. (f v p).closes z (λ c. subst (λ u. Compares up z (value a (put x u s) c)) (fit_same ty v p) (l (Choices.choose v c Choices.stop))));
}

directed_bests : (up d : Bool) (x name : ℕ) (ty : Ty) (a : Form) (s : Env) (m : Value) → agree up d ≡ true → (h : Bound d ty (λ v. Means a (put x v s)) m) → ((v : Val) → has ty v ≡ true → Bests up a (put x v s) (h.family v)) → Bests up (Form.bind d x name ty a) s m
directed_bests true true x name ty a s m e h f = bound_bests true x name ty a s m h f
directed_bests true false x name ty a s m e h f = absurd (cc)
directed_bests false true x name ty a s m e h f = absurd (cc)
directed_bests false false x name ty a s m e h f = bound_bests false x name ty a s m h f

number_binder : (f : Form) → is_number f ≡ true → has_binder f ≡ false
number_binder (Form.number v) h = refl
number_binder (Form.variable x) h = absurd (cc)
number_binder (Form.sum a b) h = absurd (cc)
number_binder (Form.difference a b) h = absurd (cc)
number_binder (Form.cut a b) h = absurd (cc)
number_binder (Form.scale w a) h = absurd (cc)
number_binder (Form.product a b span) h = absurd (cc)
number_binder (Form.min a b) h = absurd (cc)
number_binder (Form.max a b) h = absurd (cc)
number_binder (Form.imply a b) h = absurd (cc)
number_binder (Form.co_imply a b) h = absurd (cc)
number_binder (Form.validate a) h = absurd (cc)
number_binder (Form.co_validate a) h = absurd (cc)
number_binder (Form.embed g) h = absurd (cc)
number_binder (Form.iverson g) h = absurd (cc)
number_binder (Form.select g a b) h = absurd (cc)
number_binder (Form.bind up x name ty a) h = absurd (cc)

number_finite : (f : Form) (s : Env) → is_number f ≡ true → is_finite (value f s Choices.stop) ≡ true
number_finite (Form.number v) s h = h
number_finite (Form.variable x) s h = absurd (cc)
number_finite (Form.sum a b) s h = absurd (cc)
number_finite (Form.difference a b) s h = absurd (cc)
number_finite (Form.cut a b) s h = absurd (cc)
number_finite (Form.scale w a) s h = absurd (cc)
number_finite (Form.product a b span) s h = absurd (cc)
number_finite (Form.min a b) s h = absurd (cc)
number_finite (Form.max a b) s h = absurd (cc)
number_finite (Form.imply a b) s h = absurd (cc)
number_finite (Form.co_imply a b) s h = absurd (cc)
number_finite (Form.validate a) s h = absurd (cc)
number_finite (Form.co_validate a) s h = absurd (cc)
number_finite (Form.embed g) s h = absurd (cc)
number_finite (Form.iverson g) s h = absurd (cc)
number_finite (Form.select g a b) s h = absurd (cc)
number_finite (Form.bind up x name ty a) s h = absurd (cc)

finite_same : (v : Value) → is_finite v ≡ true → v ≡ finite (finite_part v)
finite_same (finite x) h = refl
finite_same infinite h = absurd (cc)

min_finite : (x y : Value) → is_finite y ≡ true → minᵛ x y ≡ finite (finite_part (minᵛ x y))
min_finite x (finite y) h = below y (minᵛ x (finite y)) (min_below_right x (finite y))
  where
    below : (y : Rational) (m : Value) → m ≤ᵛ finite y → m ≡ finite (finite_part m)
    below y (finite m) k = refl
    below y infinite k = absurd (infinite_above y k)
min_finite x infinite h = absurd (cc)

cut_finite : (x y : Value) → is_finite x ≡ true → monusᵛ x y ≡ finite (finite_part (monusᵛ x y))
unfolding monusᵛ zeroᵛ
cut_finite (finite x) (finite y) h = go (leqʳ y x)
  where
    go : (b : Bool) → cond b (finite (x -ʳ y)) (finite zeroʳ) ≡ finite (finite_part (cond b (finite (x -ʳ y)) (finite zeroʳ)))
    go true = refl
    go false = refl
cut_finite (finite x) infinite h = refl
cut_finite infinite y h = absurd (cc)

part_from_zero : (v : Value) → zeroᵛ ≤ᵛ v → zeroʳ ≤ʳ finite_part v
part_from_zero (finite x) h = nonnegative_finite x h
part_from_zero infinite h = ≤ʳ_refl zeroʳ

weight_binder : (f : Form) → is_weight f ≡ true → has_binder f ≡ false
weight_binder (Form.number v) h = absurd (cc)
weight_binder (Form.variable x) h = absurd (cc)
weight_binder (Form.sum a b) h = absurd (cc)
weight_binder (Form.difference a b) h = absurd (cc)
weight_binder (Form.cut a b) h = let q = and_both (is_number a) (not (has_binder b)) h in neither (number_binder a q.0) (without (has_binder b) q.1)
weight_binder (Form.scale w a) h = absurd (cc)
weight_binder (Form.product a b span) h = absurd (cc)
weight_binder (Form.min a b) h = let q = and_both (not (has_binder a)) (is_number b) h in neither (without (has_binder a) q.0) (number_binder b q.1)
weight_binder (Form.max a b) h = absurd (cc)
weight_binder (Form.imply a b) h = absurd (cc)
weight_binder (Form.co_imply a b) h = absurd (cc)
weight_binder (Form.validate a) h = absurd (cc)
weight_binder (Form.co_validate a) h = absurd (cc)
weight_binder (Form.embed g) h = absurd (cc)
weight_binder (Form.iverson g) h = absurd (cc)
weight_binder (Form.select g a b) h = absurd (cc)
weight_binder (Form.bind up x name ty a) h = absurd (cc)

weight_finite : (f : Form) (s : Env) → is_weight f ≡ true → value f s Choices.stop ≡ finite (finite_part (value f s Choices.stop))
weight_finite (Form.number v) s h = absurd (cc)
weight_finite (Form.variable x) s h = absurd (cc)
weight_finite (Form.sum a b) s h = absurd (cc)
weight_finite (Form.difference a b) s h = absurd (cc)
weight_finite (Form.cut a b) s h = let q = and_both (is_number a) (not (has_binder b)) h in cut_finite (value a s Choices.stop) (value b s Choices.stop) (number_finite a s q.0)
weight_finite (Form.scale w a) s h = absurd (cc)
weight_finite (Form.product a b span) s h = absurd (cc)
weight_finite (Form.min a b) s h = let q = and_both (not (has_binder a)) (is_number b) h in min_finite (value a s Choices.stop) (value b s Choices.stop) (number_finite b s q.1)
weight_finite (Form.max a b) s h = absurd (cc)
weight_finite (Form.imply a b) s h = absurd (cc)
weight_finite (Form.co_imply a b) s h = absurd (cc)
weight_finite (Form.validate a) s h = absurd (cc)
weight_finite (Form.co_validate a) s h = absurd (cc)
weight_finite (Form.embed g) s h = absurd (cc)
weight_finite (Form.iverson g) s h = absurd (cc)
weight_finite (Form.select g a b) s h = absurd (cc)
weight_finite (Form.bind up x name ty a) s h = absurd (cc)

bests : (types : Types) (up : Bool) (f : Form) (s : Env) (m : Value) → is_unsigned (type_of types f) ≡ true → HasTypes types s → is_directed up f ≡ true → Means f s m → Bests up f s m
bests types up (Form.number v) s m t e d h = plain up (Form.number v) s m refl h
bests types up (Form.variable x) s m t e d h = plain up (Form.variable x) s m refl h
bests types up (Form.sum a b) s m t e d h =
    let p = joined_parts (type_of types a) (type_of types b) t in
    let q = and_both (is_directed up a) (is_directed up b) d in
    joined_bests up (λ x y. x +ᵛ y) a b (Form.sum a b) s m h.first h.second h.result (λ c. refl) (compares_sum up) (closes_sum up) (closes_sum_right up) (bests types up a s h.first p.0 e q.0 h.first_meant) (bests types up b s h.second p.1 e q.1 h.second_meant)
bests types up (Form.min a b) s m t e d h =
    let p = joined_parts (type_of types a) (type_of types b) t in
    let q = and_both (is_directed up a) (is_directed up b) d in
    joined_bests up minᵛ a b (Form.min a b) s m h.first h.second h.result (λ c. refl) (compares_min up) (closes_min up) (closes_min_right up) (bests types up a s h.first p.0 e q.0 h.first_meant) (bests types up b s h.second p.1 e q.1 h.second_meant)
bests types up (Form.max a b) s m t e d h =
    let p = joined_parts (type_of types a) (type_of types b) t in
    let q = and_both (is_directed up a) (is_directed up b) d in
    joined_bests up maxᵛ a b (Form.max a b) s m h.first h.second h.result (λ c. refl) (compares_max up) (closes_max up) (closes_max_right up) (bests types up a s h.first p.0 e q.0 h.first_meant) (bests types up b s h.second p.1 e q.1 h.second_meant)
bests types up (Form.difference a b) s m t e d h = plain up (Form.difference a b) s m (without (has_binder a || has_binder b) d) h
bests types up (Form.cut a b) s m t e d h = plain up (Form.cut a b) s m (without (has_binder a || has_binder b) d) h
bests types up (Form.product a b span) s m t e d h = go (has_binder a || has_binder b) refl d (λ q. bests types up b s h.second (joined_parts (type_of types a) (type_of types b) t).1 e q h.second_meant)
  where
    weighed : is_weight a ≡ true → Bests up b s h.second → Bests up (Form.product a b span) s m
    weighed k i =
        let n = weight_binder a k in
        let w = finite_part (value a s Choices.stop) in
        let is = means_value a s h.first n h.first_meant ∙ weight_finite a s k in
        let from : zeroʳ ≤ʳ w = part_from_zero (value a s Choices.stop) (nonnegative_value types a s Choices.stop (joined_parts (type_of types a) (type_of types b) t).0 e) in
        right_bests up (λ x y. x *ᵛ y) a b (Form.product a b span) s m h.first h.second h.result (means_value a s h.first n h.first_meant) n (λ c. refl) (λ c j. subst (λ x. Compares up (x *ᵛ h.second) (x *ᵛ value b s c)) (sym is) (compares_scale up w h.second (value b s c) from j)) (λ j. subst (λ x. Closes up (λ c. x *ᵛ value b s c) (x *ᵛ h.second)) (sym is) (closes_scale up w (value b s) h.second from j)) i

    go : (x : Bool) → (has_binder a || has_binder b) ≡ x → (not x || (is_weight a && is_directed up b)) ≡ true → (is_directed up b ≡ true → Bests up b s h.second) → Bests up (Form.product a b span) s m
    go false n d i = plain up (Form.product a b span) s m n h
    go true n d i = let q = and_both (is_weight a) (is_directed up b) d in weighed q.0 (i q.1)
bests types up (Form.scale w a) s m t e d h =
    let p = scaled_part (leqʳ zeroʳ w) (type_of types a) t in
    let q : zeroʳ ≤ʳ w = record { holds = p.0 } in
    mapped_bests up (λ x. finite w *ᵛ x) a (Form.scale w a) s m h.part h.result (λ c. refl) (λ c. compares_scale up w h.part (value a s c) q) (closes_scale up w (value a s) h.part q) (bests types up a s h.part p.1 e d h.meant)
bests types true (Form.imply a b) s m t e d h =
    let q = and_both (not (has_binder a)) (not (has_binder b)) d in
    plain true (Form.imply a b) s m (neither (without (has_binder a) q.0) (without (has_binder b) q.1)) h
bests types false (Form.imply a b) s m t e d h =
    let p = only_parts (is_unsigned (type_of types a)) (is_unsigned (type_of types b)) (Some NumberType.eureal) t in
    let q = and_both (not (has_binder a)) (is_directed false b) d in
    let n = without (has_binder a) q.0 in
    right_bests false impliesᵛ a b (Form.imply a b) s m h.first h.second h.result (means_value a s h.first n h.first_meant) n (λ c. refl) (λ c k. implies_mono h.first h.first h.second (value b s c) (≤ᵛ_refl h.first) k) (closes_implies (value b s) h.second h.first) (bests types false b s h.second p.1 e q.1 h.second_meant)
bests types true (Form.co_imply a b) s m t e d h =
    let p = only_parts (is_unsigned (type_of types a)) (is_unsigned (type_of types b)) (Some NumberType.eureal) t in
    let q = and_both (not (has_binder a)) (is_directed true b) d in
    let n = without (has_binder a) q.0 in
    let k = bests types true b s h.second p.1 e q.1 h.second_meant in
    let low : zeroᵛ ≤ᵛ value b s Choices.stop = nonnegative_value types b s Choices.stop p.1 e in
    right_bests true coimpliesᵛ a b (Form.co_imply a b) s m h.first h.second h.result (means_value a s h.first n h.first_meant) n (λ c. refl) (λ c l. coimplies_mono h.first h.first (value b s c) h.second (≤ᵛ_trans zeroᵛ (value b s Choices.stop) h.second low (k.each Choices.stop)) (≤ᵛ_refl h.first) l) (closes_coimplies (value b s) h.second h.first low) k
bests types false (Form.co_imply a b) s m t e d h =
    let q = and_both (not (has_binder a)) (not (has_binder b)) d in
    plain false (Form.co_imply a b) s m (neither (without (has_binder a) q.0) (without (has_binder b) q.1)) h
bests types true (Form.validate a) s m t e d h = plain true (Form.validate a) s m (without (has_binder a) d) h
bests types false (Form.validate a) s m t e d h =
    let p = only_part (is_unsigned (type_of types a)) (Some NumberType.eureal) t in
    mapped_bests false validateᵛ a (Form.validate a) s m h.part h.result (λ c. refl) (λ c k. validates h.part (value a s c) k) (closes_validate (value a s) h.part) (bests types false a s h.part p.0 e d h.meant)
bests types true (Form.co_validate a) s m t e d h =
    let p = only_part (is_unsigned (type_of types a)) (Some NumberType.eureal) t in
    let k = bests types true a s h.part p.0 e d h.meant in
    let low : zeroᵛ ≤ᵛ h.part = ≤ᵛ_trans zeroᵛ (value a s Choices.stop) h.part (nonnegative_value types a s Choices.stop p.0 e) (k.each Choices.stop) in
    mapped_bests true covalidateᵛ a (Form.co_validate a) s m h.part h.result (λ c. refl) (λ c l. covalidates (value a s c) h.part (nonnegative_value types a s c p.0 e) l) (closes_covalidate (value a s) h.part low) k
bests types false (Form.co_validate a) s m t e d h = plain false (Form.co_validate a) s m (without (has_binder a) d) h
bests types up (Form.embed g) s m t e d h = plain up (Form.embed g) s m (without (has_binder_in g) d) h
bests types up (Form.iverson g) s m t e d h = plain up (Form.iverson g) s m (without (has_binder_in g) d) h
bests types up (Form.select g a b) s m t e d h =
    let p = joined_parts (type_of types a) (type_of types b) (only_part (is_well_typed types g) (joined (type_of types a) (type_of types b)) t).1 in
    let q = and_both (not (has_binder_in g)) (is_directed up a && is_directed up b) d in
    let r = and_both (is_directed up a) (is_directed up b) q.1 in
    chosen_bests up g a b s m (holds g s Choices.stop) refl (without (has_binder_in g) q.0) (bests types up a s m p.0 e r.0) (bests types up b s m p.1 e r.1) h
bests types up (Form.bind dir x name ty a) s m t e d h =
    let q = and_both (agree up dir) (is_directed up a) d in
    let p = only_part (is_unsigned (type_of (retyped x ty types) a)) (Some NumberType.eureal) t in
    directed_bests up dir x name ty a s m q.0 h (λ v l. bests (retyped x ty types) up a (put x v s) (h.family v) p.0 (put_typed types s x ty v e l) q.1 (h.meant v l))

pub bounds_by_choices : (types : Types) (up : Bool) (f : Form) (s : Env) (m z : Value) → is_unsigned (type_of types f) ≡ true → HasTypes types s → is_directed up f ≡ true → Means f s m → Compares up z m ↔ ((c : Choices) → Compares up z (value f s c))
bounds_by_choices types up f s m z t e d h =
    let b = bests types up f s m t e d h in
    (λ k c. compares_trans up z m (value f s c) k (b.each c), b.closes z)
