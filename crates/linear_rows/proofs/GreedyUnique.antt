-- The greedy choice for solvable rows has one outcome.
use Rattle.std.proofs.Common.{◌≡◌, ℕ, ◌<◌, ◌≤◌, List, [], ◌∷◌, ◌++◌, length, get_or, refl, sym, ap, ap₂, ◌∙◌, subst, arith, Bool, true, false, cond, ◌⊎◌, inl, inr, ◌↔◌}
use Rattle.std.specs.Prelude.{ℤ, pos, ◌≤ℤ◌, ◌*ℤ◌, unsigned_abs, reverse, Option, Some, None}
use Prim.Native.Nat.{zero, suc}
use borrow.Author.Differences.{ints}
use Rattle.std.proofs.lemmas.List.Elements.{All-nil}
use Rattle.heyvl_num.specs.Gcd.{gcd, gcd_steps}
use Rattle.heyvl_num.specs.Rational.{Rational, ratio, zeroʳ, oneʳ, middleʳ, ◌+ʳ◌, ◌-ʳ◌, leqʳ, ◌≤ʳ◌, ◌<ʳ◌}
use Rattle.heyvl_num.proofs.exported.Rationals.{≤ʳ_refl, ≤ʳ_trans, ≤ʳ_antisym, ≤ʳ_total, cross_order, ratio_parts}
use Rattle.heyvl_num.proofs.exported.Signs.{<ʳ-≤ʳ, <ʳ-not, middle_above, middle_below}
use Rattle.heylo_formula.specs.declared.types.Ty.{Ty}
use Rattle.heylo_formula.specs.declared.values.Val.{Val}
use Rattle.heylo_formula.specs.declared.values.Val.TheVariants.{Truth}
use Rattle.linear_rows.specs.Row.{Row}
use Rattle.linear_rows.specs.VariableOrder.{order_of}
use Rattle.linear_rows.specs.GreedyPoint.{IsCompleted, End, Interval, IsUpFrom, IsUpTo, IsInside, IsIntervalOf, IsWhole, IsChoice, IsBroken, Greedy, Chooses, chosen_value, value_for}
use Rattle.heylo_formula.specs.Typing.{types_in}
use Rattle.linear_rows.specs.VariableTypes.{is_integral}
use Rattle.linear_rows.specs.GreedyLaws.{ChoicesAreUnique, PointsAreUnique}
use Rattle.linear_rows.proofs.GreedyChoices.{less_next, less_before, from_most, to_most, from_less, to_less, from_more, to_fewer, own_from, own_to, beyond_from, beyond_to, no_end, choice_inside, with_own, one_end, zero_whole}

-- ---- Intervals with the same values have the same ends

by_not : (x y : Rational) → (x <ʳ y → ⊥) → y ≤ʳ x
by_not x y n = go (leqʳ y x) refl
  where
    go : (b : Bool) → leqʳ y x ≡ b → y ≤ʳ x
    go true e = record { holds = e }
    go false e = absurd (n (record { holds = e }))

abbrev SameValues : Interval → Interval → Type 0
SameValues i j = (v : Rational) → IsInside i v ↔ IsInside j v

turned : (i j : Interval) → SameValues i j → SameValues j i
turned i j s v = ((s v).1, (s v).0)

some_low : (i j : Interval) (f : End) (w : Rational) → SameValues i j → IsInside i w → i.low ≡ None → j.low ≡ Some f → ⊥
some_low i j f w s h n e =
    let v = f.place -ʳ oneʳ in
    let l = from_most f w (((s w).0 h).from_low f e) in
    let b = less_before f.place in
    let m : IsInside i v = record { from_low = λ d q. no_end (IsUpFrom d v) i.low d n q; to_high = λ d q. to_fewer d w v (≤ʳ_trans v f.place w (<ʳ-≤ʳ v f.place b) l) (h.to_high d q) } in
    <ʳ-not v f.place b (from_most f v (((s v).0 m).from_low f e))

some_high : (i j : Interval) (f : End) (w : Rational) → SameValues i j → IsInside i w → i.high ≡ None → j.high ≡ Some f → ⊥
some_high i j f w s h n e =
    let v = f.place +ʳ oneʳ in
    let l = to_most f w (((s w).0 h).to_high f e) in
    let b = less_next f.place in
    let m : IsInside i v = record { from_low = λ d q. from_more d w v (≤ʳ_trans w f.place v l (<ʳ-≤ʳ f.place v b)) (h.from_low d q); to_high = λ d q. no_end (IsUpTo d v) i.high d n q } in
    <ʳ-not f.place v b (to_most f v (((s v).0 m).to_high f e))

low_place : (i j : Interval) (e f : End) (w : Rational) → SameValues i j → IsInside i w → i.low ≡ Some e → j.low ≡ Some f → f.place ≤ʳ e.place
low_place i j e f w s h k l = by_not e.place f.place (λ a.
    let v = middleʳ e.place f.place in
    let b = middle_below e.place f.place a in
    let g = from_most f w (((s w).0 h).from_low f l) in
    let m : IsInside i v = record { from_low = λ d q. one_end (λ d. IsUpFrom d v) i.low e d k q (from_less e v (middle_above e.place f.place a)); to_high = λ d q. to_fewer d w v (≤ʳ_trans v f.place w (<ʳ-≤ʳ v f.place b) g) (h.to_high d q) } in
    <ʳ-not v f.place b (from_most f v (((s v).0 m).from_low f l)))

high_place : (i j : Interval) (e f : End) (w : Rational) → SameValues i j → IsInside i w → i.high ≡ Some e → j.high ≡ Some f → e.place ≤ʳ f.place
high_place i j e f w s h k l = by_not f.place e.place (λ a.
    let v = middleʳ f.place e.place in
    let b = middle_above f.place e.place a in
    let g = to_most f w (((s w).0 h).to_high f l) in
    let m : IsInside i v = record { from_low = λ d q. from_more d w v (≤ʳ_trans w f.place v g (<ʳ-≤ʳ f.place v b)) (h.from_low d q); to_high = λ d q. one_end (λ d. IsUpTo d v) i.high e d k q (to_less e v (middle_below f.place e.place a)) } in
    <ʳ-not f.place v b (to_most f v (((s v).0 m).to_high f l)))

-- An end that is inside one interval is inside the other.
low_inside : (i j : Interval) (e f : End) (w : Rational) → SameValues i j → IsInside i w → i.low ≡ Some e → j.low ≡ Some f → e.place ≡ f.place → e.inside ≡ true → f.inside ≡ false → ⊥
low_inside i j e f w s h k l p a b =
    let g = from_most e w (h.from_low e k) in
    let m : IsInside i e.place = record { from_low = λ d q. one_end (λ d. IsUpFrom d e.place) i.low e d k q (own_from e a); to_high = λ d q. to_fewer d w e.place g (h.to_high d q) } in
    <ʳ-not f.place e.place (beyond_from f e.place b (((s e.place).0 m).from_low f l)) (subst (λ y. y ≤ʳ f.place) (sym p) (≤ʳ_refl f.place))

high_inside : (i j : Interval) (e f : End) (w : Rational) → SameValues i j → IsInside i w → i.high ≡ Some e → j.high ≡ Some f → e.place ≡ f.place → e.inside ≡ true → f.inside ≡ false → ⊥
high_inside i j e f w s h k l p a b =
    let g = to_most e w (h.to_high e k) in
    let m : IsInside i e.place = record { from_low = λ d q. from_more d w e.place g (h.from_low d q); to_high = λ d q. one_end (λ d. IsUpTo d e.place) i.high e d k q (own_to e a) } in
    <ʳ-not e.place f.place (beyond_to f e.place b (((s e.place).0 m).to_high f l)) (subst (λ y. f.place ≤ʳ y) (sym p) (≤ʳ_refl f.place))

same_test : (a b : Bool) → (a ≡ true → b ≡ false → ⊥) → (b ≡ true → a ≡ false → ⊥) → a ≡ b
same_test true true m n = refl
same_test true false m n = absurd (m refl refl)
same_test false true m n = absurd (n refl refl)
same_test false false m n = refl

abbrev end_at : Rational → Bool → End
end_at p b = record { place = p; inside = b }

low_same : (i j : Interval) (w : Rational) → SameValues i j → IsInside i w → i.low ≡ j.low
low_same i j w s h = go i.low refl j.low refl
  where
    back : IsInside j w
    back = (s w).0 h

    go : (o : Option End) → i.low ≡ o → (p : Option End) → j.low ≡ p → i.low ≡ j.low
    go None k None l = k ∙ sym l
    go None k (Some f) l = absurd (some_low i j f w s h k l)
    go (Some e) k None l = absurd (some_low j i e w (turned i j s) back l k)
    go (Some e) k (Some f) l =
        let p : e.place ≡ f.place = ≤ʳ_antisym e.place f.place (low_place j i f e w (turned i j s) back l k) (low_place i j e f w s h k l) in
        let b : e.inside ≡ f.inside = same_test e.inside f.inside (λ x y. low_inside i j e f w s h k l p x y) (λ x y. low_inside j i f e w (turned i j s) back l k (sym p) x y) in
        k ∙ ap Some (ap₂ end_at p b) ∙ sym l

high_same : (i j : Interval) (w : Rational) → SameValues i j → IsInside i w → i.high ≡ j.high
high_same i j w s h = go i.high refl j.high refl
  where
    back : IsInside j w
    back = (s w).0 h

    go : (o : Option End) → i.high ≡ o → (p : Option End) → j.high ≡ p → i.high ≡ j.high
    go None k None l = k ∙ sym l
    go None k (Some f) l = absurd (some_high i j f w s h k l)
    go (Some e) k None l = absurd (some_high j i e w (turned i j s) back l k)
    go (Some e) k (Some f) l =
        let p : e.place ≡ f.place = ≤ʳ_antisym e.place f.place (high_place i j e f w s h k l) (high_place j i f e w (turned i j s) back l k) in
        let b : e.inside ≡ f.inside = same_test e.inside f.inside (λ x y. high_inside i j e f w s h k l p x y) (λ x y. high_inside j i f e w (turned i j s) back l k (sym p) x y) in
        k ∙ ap Some (ap₂ end_at p b) ∙ sym l

abbrev an_interval : Option End → Option End → Interval
an_interval l h = record { low = l; high = h }

same_interval : (i j : Interval) (w : Rational) → SameValues i j → IsInside i w → i ≡ j
same_interval i j w s h = ap₂ an_interval (low_same i j w s h) (high_same i j w s h)

-- ---- The choice in an interval is unique

-- 0 is between the two values.
between_zero : (i : Interval) (v u : Rational) → IsInside i v → IsInside i u → v ≤ʳ zeroʳ → zeroʳ ≤ʳ u → IsInside i zeroʳ
between_zero i v u a b h k = record { from_low = λ d q. from_more d v zeroʳ h (a.from_low d q); to_high = λ d q. to_fewer d u zeroʳ k (b.to_high d q) }

-- `low_value e high`: the choice of a `UReal` above the lower end `e`, if 0 is not inside;
-- `high_value` is its mirror image.
abbrev low_value : End → Option End → Rational
low_value e (Some f) = cond e.inside e.place (middleʳ e.place f.place)
low_value e None = cond e.inside e.place (e.place +ʳ oneʳ)

abbrev high_value : End → Option End → Rational
high_value e (Some f) = cond e.inside e.place (middleʳ f.place e.place)
high_value e None = cond e.inside e.place (e.place -ʳ oneʳ)

closed_low : (e : End) (o : Option End) → e.inside ≡ true → low_value e o ≡ e.place
closed_low e (Some f) k = ap (λ b. cond b e.place (middleʳ e.place f.place)) k
closed_low e None k = ap (λ b. cond b e.place (e.place +ʳ oneʳ)) k

closed_high : (e : End) (o : Option End) → e.inside ≡ true → high_value e o ≡ e.place
closed_high e (Some f) k = ap (λ b. cond b e.place (middleʳ f.place e.place)) k
closed_high e None k = ap (λ b. cond b e.place (e.place -ʳ oneʳ)) k

data Kind (i : Interval) (ty : Ty) (v : Rational) : Type 0 where
  at_zero : IsInside i zeroʳ → v ≡ zeroʳ → Kind i ty v
  at_whole : (IsInside i zeroʳ → ⊥) → (is_integral ty ≡ true) → IsWhole v → IsInside i v → ((w : Rational) → IsWhole w → IsInside i w → unsigned_abs v.num ≤ unsigned_abs w.num) → Kind i ty v
  at_low : (e : End) → (IsInside i zeroʳ → ⊥) → ty ≡ Ty.UReal → i.low ≡ Some e → zeroʳ ≤ʳ e.place → v ≡ low_value e i.high → Kind i ty v
  at_high : (e : End) → (IsInside i zeroʳ → ⊥) → ty ≡ Ty.UReal → i.high ≡ Some e → e.place ≤ʳ zeroʳ → v ≡ high_value e i.low → Kind i ty v

open_low : (i : Interval) (e : End) → (IsInside i zeroʳ → ⊥) → i.low ≡ Some e → i.high ≡ None → zeroʳ ≤ʳ e.place
open_low i e n l h = by_not e.place zeroʳ (λ a. n (record { from_low = λ d q. one_end (λ d. IsUpFrom d zeroʳ) i.low e d l q (from_less e zeroʳ a); to_high = λ d q. no_end (IsUpTo d zeroʳ) i.high d h q }))

open_high : (i : Interval) (e : End) → (IsInside i zeroʳ → ⊥) → i.low ≡ None → i.high ≡ Some e → e.place ≤ʳ zeroʳ
open_high i e n l h = by_not zeroʳ e.place (λ a. n (record { from_low = λ d q. no_end (IsUpFrom d zeroʳ) i.low d l q; to_high = λ d q. one_end (λ d. IsUpTo d zeroʳ) i.high e d h q (to_less e zeroʳ a) }))

kind_of : (i : Interval) (ty : Ty) (v : Rational) → IsChoice i ty v → Kind i ty v
kind_of i _ _ (IsChoice.zero ty z) = Kind.at_zero z refl
kind_of i _ _ (IsChoice.nearest_whole ty v n k l a m) = Kind.at_whole n k l a m
kind_of i _ _ (IsChoice.low_end e n l z k) = Kind.at_low e n refl l z (sym (closed_low e i.high k))
kind_of i _ _ (IsChoice.high_end e n l z k) = Kind.at_high e n refl l z (sym (closed_high e i.low k))
kind_of i _ _ (IsChoice.middle_of_low e f n l g z k) = Kind.at_low e n refl l z (sym (ap (low_value e) g ∙ ap (λ b. cond b e.place (middleʳ e.place f.place)) k))
kind_of i _ _ (IsChoice.middle_of_high e f n l g z k) = Kind.at_high f n refl g z (sym (ap (high_value f) l ∙ ap (λ b. cond b f.place (middleʳ e.place f.place)) k))
kind_of i _ _ (IsChoice.past_low e n l g k) = Kind.at_low e n refl l (open_low i e n l g) (sym (ap (low_value e) g ∙ ap (λ b. cond b e.place (e.place +ʳ oneʳ)) k))
kind_of i _ _ (IsChoice.past_high e n l g k) = Kind.at_high e n refl g (open_high i e n l g) (sym (ap (high_value e) l ∙ ap (λ b. cond b e.place (e.place -ʳ oneʳ)) k))

zero_num : zeroʳ.num ≡ pos 0
unfolding zeroʳ ratio gcd gcd_steps
zero_num = refl

at_least_zero : (v : Rational) → v.den ≡ 1 → zeroʳ ≤ʳ v → pos 0 ≤ℤ v.num
at_least_zero v d h = let k = cross_order zeroʳ v h in let a = subst (λ z. (z *ℤ pos v.den) ≤ℤ (v.num *ℤ pos zeroʳ.den)) zero_num k in let b = subst (λ n. (pos 0 *ℤ pos v.den) ≤ℤ (v.num *ℤ pos n)) zero_whole a in let c = subst (λ n. (pos 0 *ℤ pos n) ≤ℤ (v.num *ℤ pos 1)) d b in omega (arith, ints, c)

at_most_zero : (v : Rational) → v.den ≡ 1 → v ≤ʳ zeroʳ → v.num ≤ℤ pos 0
at_most_zero v d h = let k = cross_order v zeroʳ h in let a = subst (λ z. (v.num *ℤ pos zeroʳ.den) ≤ℤ (z *ℤ pos v.den)) zero_num k in let b = subst (λ n. (v.num *ℤ pos n) ≤ℤ (pos 0 *ℤ pos v.den)) zero_whole a in let c = subst (λ n. (v.num *ℤ pos 1) ≤ℤ (pos 0 *ℤ pos n)) d b in omega (arith, ints, c)

whole_same : (v u : Rational) → v.den ≡ 1 → u.den ≡ 1 → v.num ≡ u.num → v ≡ u
whole_same v u d e h = sym (ratio_parts v) ∙ ap₂ (λ n m. ratio n m) h (d ∙ sym e) ∙ ratio_parts u

same_size : (a b : ℕ) → a ≤ b → b ≤ a → a ≡ b
same_size a b h k = omega (arith, h, k)

nums_above : (m n : ℤ) → pos 0 ≤ℤ m → pos 0 ≤ℤ n → unsigned_abs m ≡ unsigned_abs n → m ≡ n
nums_above m n h k e = omega (arith, ints, h, k, e)

nums_below : (m n : ℤ) → m ≤ℤ pos 0 → n ≤ℤ pos 0 → unsigned_abs m ≡ unsigned_abs n → m ≡ n
nums_below m n h k e = omega (arith, ints, h, k, e)

one_whole : (i : Interval) (v u : Rational) → (IsInside i zeroʳ → ⊥) → v.den ≡ 1 → u.den ≡ 1 → IsInside i v → IsInside i u → unsigned_abs v.num ≡ unsigned_abs u.num → v ≡ u
one_whole i v u n d e a b s = go (≤ʳ_total v zeroʳ) (≤ʳ_total u zeroʳ)
  where
    go : (v ≤ʳ zeroʳ) ⊎ (zeroʳ ≤ʳ v) → (u ≤ʳ zeroʳ) ⊎ (zeroʳ ≤ʳ u) → v ≡ u
    go (inl h) (inl k) = whole_same v u d e (nums_below v.num u.num (at_most_zero v d h) (at_most_zero u e k) s)
    go (inl h) (inr k) = absurd (n (between_zero i v u a b h k))
    go (inr h) (inl k) = absurd (n (between_zero i u v b a k h))
    go (inr h) (inr k) = whole_same v u d e (nums_above v.num u.num (at_least_zero v d h) (at_least_zero u e k) s)

not_both : (i : Interval) (e f : End) (w : Rational) → IsInside i w → (IsInside i zeroʳ → ⊥) → i.low ≡ Some e → i.high ≡ Some f → zeroʳ ≤ʳ e.place → f.place ≤ʳ zeroʳ → ⊥
not_both i e f w h n l g a b = n (between_zero i w w h h (≤ʳ_trans w f.place zeroʳ (to_most f w (h.to_high f g)) b) (≤ʳ_trans zeroʳ e.place w a (from_most e w (h.from_low e l))))

not_real : {A : Type 0} (ty : Ty) → (is_integral ty ≡ true) → ty ≡ Ty.UReal → A
not_real ty t e = let k : true ≡ false = sym t ∙ ap is_integral e in absurd (cc)

one_kind : (i : Interval) (ty : Ty) (v u w : Rational) → IsInside i w → Kind i ty v → Kind i ty u → v ≡ u
one_kind i ty v u w h (Kind.at_zero z e) (Kind.at_zero y f) = e ∙ sym f
one_kind i ty v u w h (Kind.at_zero z e) (Kind.at_whole n t o a m) = absurd (n z)
one_kind i ty v u w h (Kind.at_zero z e) (Kind.at_low d n t l p f) = absurd (n z)
one_kind i ty v u w h (Kind.at_zero z e) (Kind.at_high d n t l p f) = absurd (n z)
one_kind i ty v u w h (Kind.at_whole n t o a m) (Kind.at_zero y f) = absurd (n y)
one_kind i ty v u w h (Kind.at_whole n t o a m) (Kind.at_whole n' t' o' a' m') = one_whole i v u n o.whole o'.whole a a' (same_size _ _ (m u o' a') (m' v o a))
one_kind i ty v u w h (Kind.at_whole n t o a m) (Kind.at_low d n' t' l p f) = not_real ty t t'
one_kind i ty v u w h (Kind.at_whole n t o a m) (Kind.at_high d n' t' l p f) = not_real ty t t'
one_kind i ty v u w h (Kind.at_low d n t l p e) (Kind.at_zero y f) = absurd (n y)
one_kind i ty v u w h (Kind.at_low d n t l p e) (Kind.at_whole n' t' o a m) = not_real ty t' t
one_kind i ty v u w h (Kind.at_low d n t l p e) (Kind.at_low d' n' t' l' p' f) = e ∙ one_end (λ x. low_value d i.high ≡ low_value x i.high) i.low d d' l l' refl ∙ sym f
one_kind i ty v u w h (Kind.at_low d n t l p e) (Kind.at_high d' n' t' l' p' f) = absurd (not_both i d d' w h n l l' p p')
one_kind i ty v u w h (Kind.at_high d n t l p e) (Kind.at_zero y f) = absurd (n y)
one_kind i ty v u w h (Kind.at_high d n t l p e) (Kind.at_whole n' t' o a m) = not_real ty t' t
one_kind i ty v u w h (Kind.at_high d n t l p e) (Kind.at_low d' n' t' l' p' f) = absurd (not_both i d' d w h n l' l p' p)
one_kind i ty v u w h (Kind.at_high d n t l p e) (Kind.at_high d' n' t' l' p' f) = e ∙ one_end (λ x. high_value d i.low ≡ high_value x i.low) i.high d d' l l' refl ∙ sym f

pub one_choice : (i : Interval) (ty : Ty) (v u w : Rational) → IsInside i w → IsChoice i ty v → IsChoice i ty u → v ≡ u
one_choice i ty v u w h a b = one_kind i ty v u w h (kind_of i ty v a) (kind_of i ty u b)

-- If some value can be chosen, the interval contains an integer.
chosen_or_broken : (i : Interval) (ty : Ty) (v : Rational) → IsChoice i ty v → IsBroken i ty → ⊥
chosen_or_broken i ty v a b = go (kind_of i ty v a)
  where
    go : Kind i ty v → ⊥
    go (Kind.at_zero z e) = b.none_whole zeroʳ z (record { whole = zero_whole })
    go (Kind.at_whole n t o c m) = b.none_whole v c o
    go (Kind.at_low d n t l p e) = not_real ty b.whole_type t
    go (Kind.at_high d n t l p e) = not_real ty b.whole_type t

-- ---- The choices of all variables are unique

same_values : (rows : List Row) (cs : List (ℕ × Rational)) (x : ℕ) (i j : Interval) → IsIntervalOf rows cs x i → IsIntervalOf rows cs x j → SameValues i j
same_values rows cs x i j a b v = (λ h. (b.values v).1 ((a.values v).0 h), λ h. (a.values v).1 ((b.values v).0 h))

own_value : (rows : List Row) (cs : List (ℕ × Rational)) (x : ℕ) (i : Interval) (h : IsCompleted rows cs) → IsIntervalOf rows cs x i → IsInside i (h.at_values x)
own_value rows cs x i h a = (a.values (h.at_values x)).1 (with_own rows cs x h)

one_interval : (rows : List Row) (cs : List (ℕ × Rational)) (x : ℕ) (i j : Interval) → IsCompleted rows cs → IsIntervalOf rows cs x i → IsIntervalOf rows cs x j → i ≡ j
one_interval rows cs x i j h a b = same_interval i j (h.at_values x) (same_values rows cs x i j a b) (own_value rows cs x i h a)

next_completed : (rows : List Row) (vars : List Ty) (cs : List (ℕ × Rational)) (x : ℕ) (i : Interval) (v : Rational) → IsCompleted rows cs → IsIntervalOf rows cs x i → IsChoice i (types_in vars x) v → IsCompleted rows (cs ++ (x, v) ∷ [])
next_completed rows vars cs x i v h a c = (a.values v).0 (choice_inside i (types_in vars x) v (h.at_values x) (own_value rows cs x i h a) c)

one_value : (rows : List Row) (vars : List Ty) (cs : List (ℕ × Rational)) (x : ℕ) (i j : Interval) (v u : Rational) → IsCompleted rows cs → IsIntervalOf rows cs x i → IsChoice i (types_in vars x) v → IsIntervalOf rows cs x j → IsChoice j (types_in vars x) u → v ≡ u
one_value rows vars cs x i j v u h a c b d = one_choice i (types_in vars x) v u (h.at_values x) (own_value rows cs x i h a) c (subst (λ k. IsChoice k (types_in vars x) u) (sym (one_interval rows cs x i j h a b)) d)

one_way : (rows : List Row) (vars : List Ty) (xs : List ℕ) (cs : List (ℕ × Rational)) (a b : Greedy) → IsCompleted rows cs → Chooses rows vars xs cs a → Chooses rows vars xs cs b → a ≡ b
one_way rows vars _ cs _ _ h (Chooses.ends _) (Chooses.ends _) = refl
one_way rows vars _ cs a b h (Chooses.takes x xs _ i v _ p c r) (Chooses.takes _ _ _ j u _ q d s) =
    let e = one_value rows vars cs x i j v u h p c q d in
    one_way rows vars xs (cs ++ (x, v) ∷ []) a b (next_completed rows vars cs x i v h p c) r (subst (λ y. Chooses rows vars xs (cs ++ (x, y) ∷ []) b) (sym e) s)
one_way rows vars _ cs a _ h (Chooses.takes x xs _ i v _ p c r) (Chooses.breaks _ _ _ j q d) = absurd (chosen_or_broken i (types_in vars x) v c (subst (λ k. IsBroken k (types_in vars x)) (sym (one_interval rows cs x i j h p q)) d))
one_way rows vars _ cs _ b h (Chooses.breaks x xs _ i p c) (Chooses.takes _ _ _ j u _ q d s) = absurd (chosen_or_broken j (types_in vars x) u d (subst (λ k. IsBroken k (types_in vars x)) (one_interval rows cs x i j h p q) c))
one_way rows vars _ cs _ _ h (Chooses.breaks x xs _ i p c) (Chooses.breaks _ _ _ j q d) = ap (Greedy.broke x cs) (one_interval rows cs x i j h p q)

pub choices_unique : ChoicesAreUnique
choices_unique rows vars a b s p q = one_way rows vars (reverse (order_of rows (length vars))) [] a b (record { at_values = s.at_values; agrees = All-nil _; meets = s.meets }) p q

-- ---- The greedy point is unique

same_lists : (p q : List Val) → length p ≡ length q → ((x : ℕ) → x < length p → get_or p x (Truth false) ≡ get_or q x (Truth false)) → p ≡ q
same_lists [] [] e h = refl
same_lists [] (y ∷ ys) e h = absurd (omega (arith, e))
same_lists (x ∷ xs) [] e h = absurd (omega (arith, e))
same_lists (x ∷ xs) (y ∷ ys) e h = ap₂ (λ z zs. z ∷ zs) (h zero (omega arith)) (same_lists xs ys (omega (arith, e)) (λ n l. h (suc n) (omega (arith, l))))

pub points_unique : PointsAreUnique
points_unique rows vars p q a b =
    let e : Greedy.chose a.chosen ≡ Greedy.chose b.chosen = choices_unique rows vars (Greedy.chose a.chosen) (Greedy.chose b.chosen) a.solvable a.choice b.choice in
    let c : a.chosen ≡ b.chosen = cc in
    same_lists p q (a.state.each ∙ sym b.state.each) (λ x l. let m = subst (λ n. x < n) a.state.each l in a.state.values x m ∙ ap (λ ds. value_for (types_in vars x) (chosen_value x ds)) c ∙ sym (b.state.values x m))
