-- The choice in an interval is right, and inside the interval.
use Rattle.std.proofs.Common.{◌≡◌, ℕ, ◌<◌, ◌≤◌, ◌/◌, ◌^◌, refl, sym, ap, ◌∙◌, ◌↔◌, subst, arith, Bool, true, false, cond, unsigned_abs}
use Rattle.std.specs.Prelude.{ℤ, pos, ◌+ℤ◌, ◌-ℤ◌, ◌*ℤ◌, ◌<ℤ◌, Option, Some, None, IsTrue}
use Rattle.std.proofs.Math.Nat.{zero-lt-suc, eq-one_of_dvd-one, dvd-mul_right}
use Rattle.std.proofs.lemmas.Int.{by_lt_z}
use Prim.Native.Nat.{◌∣◌}
use borrow.Author.Differences.{ints}
use Rattle.heylo_formula.specs.declared.types.Ty.{Ty}
use Rattle.heyvl_num.specs.Rational.{Rational, ratio, zeroʳ, oneʳ, halfʳ, middleʳ, leqʳ, ◌+ʳ◌, ◌-ʳ◌, ◌*ʳ◌, ◌≤ʳ◌, ◌<ʳ◌}
use Rattle.heyvl_num.specs.Gcd.{gcd}
use Rattle.heyvl_num.specs.GcdLaws.{quotient_den}
use Rattle.heyvl_num.proofs.exported.Integers.{*ℤ-one}
use Rattle.heyvl_num.specs.Rounding.{whole, IsFloor, IsCeiling}
use Rattle.heyvl_num.proofs.exported.Rationals.{ratio_parts, ratio_den, ratio_cross, +ʳ_comm, +ʳ-zero, ≤ʳ_refl, ≤ʳ_trans}
use Rattle.heyvl_num.proofs.exported.Signs.{<ʳ-not, middle_above, middle_below, ≤ʳ-+ʳ_cancel, -ʳ-+ʳ}
use Rattle.linear_rows.specs.Numbers.{fits}
use Rattle.linear_rows.specs.VariableTypes.{is_numeric, is_integral}
use Rattle.linear_rows.specs.GreedyPoint.{End, Interval, IsInside, IsUpFrom, IsUpTo, IsChoice, IsBroken}
use Rattle.linear_rows.specs.GreedyPoint.IsChoice.{zero as choose_zero, nearest_whole, low_end, high_end, middle_of_low, middle_of_high, past_low, past_high}
use Rattle.interval_choice.specs.Sides.{IsWithin, IsPast}
use Rattle.interval_choice.specs.Picks.{sided, across, between, IsNearer, IsNextWhole, IsPicked, narrow_pick, broken_pick, past_place}
use Rattle.interval_choice.specs.declared.sides.Side.{Side}
use Rattle.interval_choice.specs.declared.sides.Side.TheVariants.{Low, High}
use Rattle.interval_choice.specs.declared.picks.Pick.{Pick}
use Rattle.interval_choice.specs.declared.picks.Pick.TheVariants.{Value, Great}
use Rattle.interval_choice.proofs.Wholes.{less_from, whole-zero, whole-one}
use Rattle.interval_choice.proofs.BoundedFractions.{<ʳ-≤ʳ-trans, ≤ʳ-<ʳ-trans, up_from_weak, up_to_weak, up_from_strong, up_to_strong}
use Rattle.interval_choice.proofs.Inside.{inside_past}
use Rattle.interval_choice.proofs.Middles.{whole_mono, whole_mono_out, floor_small, ceil_small}
use Rattle.interval_choice.proofs.Pasts.{zero_fits}

pub not_less : (x y : Rational) → (x <ʳ y → ⊥) → y ≤ʳ x
not_less x y n = record { holds = go (leqʳ y x) refl }
  where
    go : (b : Bool) → leqʳ y x ≡ b → leqʳ y x ≡ true
    go true e = e
    go false e = absurd (n (record { holds = e }))

pub up_further : (e : End) (u v : Rational) → IsUpFrom e u → u ≤ʳ v → IsUpFrom e v
up_further e u v h k = go e.inside h
  where
    go : (b : Bool) → cond b (e.place ≤ʳ u) (e.place <ʳ u) → cond b (e.place ≤ʳ v) (e.place <ʳ v)
    go true h = ≤ʳ_trans e.place u v h k
    go false h = <ʳ-≤ʳ-trans e.place u v h k

pub down_further : (e : End) (u v : Rational) → IsUpTo e v → u ≤ʳ v → IsUpTo e u
down_further e u v h k = go e.inside h
  where
    go : (b : Bool) → cond b (v ≤ʳ e.place) (v <ʳ e.place) → cond b (u ≤ʳ e.place) (u <ʳ e.place)
    go true h = ≤ʳ_trans u v e.place k h
    go false h = ≤ʳ-<ʳ-trans u v e.place k h

pub sided_past : (side : Side) (near : End) (far : Option End) (v : Rational) → IsInside (sided side near far) v ↔ (IsWithin side near v × IsPast (across side) far v)
sided_past Low near far v = inside_past (sided Low near far) v
sided_past High near far v = let h = inside_past (sided High near far) v in (λ k. ((h.0 k).1, (h.0 k).0), λ k. h.1 (k.1, k.0))

pub zero_out : (side : Side) (near : End) (far : Option End) → (IsWithin side near zeroʳ → ⊥) → IsInside (sided side near far) zeroʳ → ⊥
zero_out side near far n h = n ((sided_past side near far zeroʳ).0 h).0

low_above_zero : (e : End) → (IsUpFrom e zeroʳ → ⊥) → zeroʳ ≤ʳ e.place
low_above_zero e n = not_less e.place zeroʳ (λ l. n (up_from_strong e zeroʳ l))

high_below_zero : (e : End) → (IsUpTo e zeroʳ → ⊥) → e.place ≤ʳ zeroʳ
high_below_zero e n = not_less zeroʳ e.place (λ l. n (up_to_strong e zeroʳ l))

-- ---- Fractions

one_zero : oneʳ ≤ʳ zeroʳ → ⊥
one_zero h = let k = whole_mono_out (pos 1) (pos 0) (subst (λ y. y ≤ʳ whole (pos 0)) (sym whole-one) (subst (λ y. oneʳ ≤ʳ y) (sym whole-zero) h)) in absurd (omega (arith, ints, k))

one_above : (x : Rational) → x <ʳ x +ʳ oneʳ
one_above x = less_from (λ h. one_zero (≤ʳ-+ʳ_cancel oneʳ zeroʳ x (subst (λ y. y ≤ʳ zeroʳ +ʳ x) (+ʳ_comm x oneʳ) (subst (λ y. x +ʳ oneʳ ≤ʳ y) (sym (+ʳ_comm zeroʳ x ∙ +ʳ-zero x)) h))))

one_below : (x : Rational) → x -ʳ oneʳ <ʳ x
one_below x = subst (λ y. x -ʳ oneʳ <ʳ y) (-ʳ-+ʳ x oneʳ) (one_above (x -ʳ oneʳ))

-- A choice that is inside its interval.
abbrev pub Chosen : Interval → Ty → Rational → Type 0
Chosen i ty v = IsChoice i ty v × IsInside i v

pub real_inside : (side : Side) (near : End) (far : Option End) (w : Rational) → near.inside ≡ true → (IsWithin side near zeroʳ → ⊥) → IsInside (sided side near far) w → Chosen (sided side near far) Ty.UReal near.place
real_inside Low near far w e n h =
    let k = (sided_past Low near far w).0 h in
    (low_end near (zero_out Low near far n) refl (low_above_zero near n) e, (sided_past Low near far near.place).1 (own near.inside e, onward far k.1))
  where
    own : (b : Bool) → b ≡ true → cond b (near.place ≤ʳ near.place) (near.place <ʳ near.place)
    own true e = ≤ʳ_refl near.place
    own false e = absurd (cc)

    onward : (o : Option End) → IsPast High o w → IsPast High o near.place
    onward None k = tt
    onward (Some f) k = down_further f near.place w k (up_from_weak near w ((sided_past Low near far w).0 h).0)
real_inside High near far w e n h =
    let k = (sided_past High near far w).0 h in
    (high_end near (zero_out High near far n) refl (high_below_zero near n) e, (sided_past High near far near.place).1 (own near.inside e, onward far k.1))
  where
    own : (b : Bool) → b ≡ true → cond b (near.place ≤ʳ near.place) (near.place <ʳ near.place)
    own true e = ≤ʳ_refl near.place
    own false e = absurd (cc)

    onward : (o : Option End) → IsPast Low o w → IsPast Low o near.place
    onward None k = tt
    onward (Some f) k = up_further f w near.place k (up_to_weak near w ((sided_past High near far w).0 h).0)

from_open : (e : End) (w : Rational) → e.inside ≡ false → IsUpFrom e w → e.place <ʳ w
from_open e w k h = go e.inside k h
  where
    go : (b : Bool) → b ≡ false → cond b (e.place ≤ʳ w) (e.place <ʳ w) → e.place <ʳ w
    go true k h = absurd (cc)
    go false k h = h

to_open : (e : End) (w : Rational) → e.inside ≡ false → IsUpTo e w → w <ʳ e.place
to_open e w k h = go e.inside k h
  where
    go : (b : Bool) → b ≡ false → cond b (w ≤ʳ e.place) (w <ʳ e.place) → w <ʳ e.place
    go true k h = absurd (cc)
    go false k h = h

middle_turned : (x y : Rational) → middleʳ x y ≡ middleʳ y x
unfolding middleʳ
middle_turned x y = ap (λ s. halfʳ *ʳ s) (+ʳ_comm x y)

pub real_middle : (side : Side) (near f : End) (w : Rational) → near.inside ≡ false → (IsWithin side near zeroʳ → ⊥) → IsInside (sided side near (Some f)) w → Chosen (sided side near (Some f)) Ty.UReal (middleʳ near.place f.place)
real_middle Low near f w e n h =
    let k = (sided_past Low near (Some f) w).0 h in
    let l = <ʳ-≤ʳ-trans near.place w f.place (from_open near w e k.0) (up_to_weak f w k.1) in
    (middle_of_low near f (zero_out Low near (Some f) n) refl refl (low_above_zero near n) e, (sided_past Low near (Some f) (middleʳ near.place f.place)).1 (up_from_strong near _ (middle_above near.place f.place l), up_to_strong f _ (middle_below near.place f.place l)))
real_middle High near f w e n h =
    let k = (sided_past High near (Some f) w).0 h in
    let l = ≤ʳ-<ʳ-trans f.place w near.place (up_from_weak f w k.1) (to_open near w e k.0) in
    subst (Chosen (sided High near (Some f)) Ty.UReal) (middle_turned f.place near.place)
    (middle_of_high f near (zero_out High near (Some f) n) refl refl (high_below_zero near n) e, (sided_past High near (Some f) (middleʳ f.place near.place)).1 (up_to_strong near _ (middle_below f.place near.place l), up_from_strong f _ (middle_above f.place near.place l)))

pub real_past : (side : Side) (near : End) → near.inside ≡ false → (IsWithin side near zeroʳ → ⊥) → Chosen (sided side near None) Ty.UReal (past_place side near.place)
real_past Low near e n = (past_low near (zero_out Low near None n) refl refl e, (sided_past Low near None (near.place +ʳ oneʳ)).1 (up_from_strong near _ (one_above near.place), tt))
real_past High near e n = (past_high near (zero_out High near None n) refl refl e, (sided_past High near None (near.place -ʳ oneʳ)).1 (up_to_strong near _ (one_below near.place), tt))

pub picked_value : (i : Interval) (ty : Ty) (v : Rational) (p : Pick) → p ≡ narrow_pick v → Chosen i ty v → IsPicked i ty p
picked_value i ty v p e h = subst (IsPicked i ty) (sym e) (go (fits v) refl)
  where
    go : (b : Bool) → fits v ≡ b → IsPicked i ty (cond b (Value v) Great)
    go true k = (h.0, h.1, k)
    go false k = (v, h.0, k)

-- ---- Integers

pub whole_den : (n : ℤ) → (whole n).den ≡ 1
unfolding whole
whole_den n = ratio_den n 1 (zero-lt-suc 0) ∙ eq-one_of_dvd-one (subst (λ k. (1 / gcd (unsigned_abs n) 1) ∣ k) (quotient_den (unsigned_abs n) 1) (dvd-mul_right (1 / gcd (unsigned_abs n) 1) (gcd (unsigned_abs n) 1)))

pub whole_num : (n : ℤ) → (whole n).num ≡ n
unfolding whole
whole_num n = sym (*ℤ-one (ratio n 1).num) ∙ ratio_cross n 1 (zero-lt-suc 0) ∙ ap (λ d. n *ℤ pos d) (whole_den n) ∙ *ℤ-one n

whole_back : (x : Rational) → x.den ≡ 1 → whole x.num ≡ x
unfolding whole
whole_back x e = ap (λ d. ratio x.num d) (sym e) ∙ ratio_parts x

above_zero : (near : End) (n : ℤ) → IsUpFrom near (whole n) → (IsUpFrom near zeroʳ → ⊥) → pos 0 <ℤ n
above_zero near n h o = by_lt_z (pos 0) n (λ l. l) (λ l. absurd (o (up_further near (whole n) zeroʳ h (subst (λ y. whole n ≤ʳ y) whole-zero (whole_mono n (pos 0) l)))))

below_zero : (near : End) (n : ℤ) → IsUpTo near (whole n) → (IsUpTo near zeroʳ → ⊥) → n <ℤ pos 0
below_zero near n h o = by_lt_z n (pos 0) (λ l. l) (λ l. absurd (o (down_further near zeroʳ (whole n) h (subst (λ y. y ≤ʳ whole n) whole-zero (whole_mono (pos 0) n l)))))

nearer : (side : Side) (near : End) (n m : ℤ) → IsWithin side near (whole n) → (IsWithin side near zeroʳ → ⊥) → IsNearer side n m → unsigned_abs n ≤ unsigned_abs m
nearer Low near n m h o l = let k = above_zero near n h o in omega (arith, ints, k, l)
nearer High near n m h o l = let k = below_zero near n h o in omega (arith, ints, k, l)

pub whole_taken : (side : Side) (near : End) (far : Option End) (n : ℤ) (ty : Ty) → IsNextWhole side near n → (is_integral ty ≡ true) → (IsWithin side near zeroʳ → ⊥) → IsPast (across side) far (whole n) → Chosen (sided side near far) ty (whole n)
whole_taken side near far n ty h t o p =
    let i = (sided_past side near far (whole n)).1 (h.within, p) in
    (nearest_whole ty (whole n) (zero_out side near far o) t (record { whole = whole_den n }) i (λ w ww wi. subst (λ z. unsigned_abs z ≤ unsigned_abs w.num) (sym (whole_num n)) (nearer side near n w.num h.within o (h.nearest w.num (subst (IsWithin side near) (sym (whole_back w ww.whole)) ((sided_past side near far w).0 wi).0)))), i)

further : (side : Side) (f : End) (n m : ℤ) → IsNearer side n m → IsWithin (across side) f (whole m) → IsWithin (across side) f (whole n)
further Low f n m l h = down_further f (whole n) (whole m) h (whole_mono n m l)
further High f n m l h = up_further f (whole m) (whole n) h (whole_mono m n l)

whole_broken : (side : Side) (near f : End) (n : ℤ) (ty : Ty) → IsNextWhole side near n → (is_integral ty ≡ true) → (IsWithin (across side) f (whole n) → ⊥) → IsBroken (sided side near (Some f)) ty
whole_broken side near f n ty h t o = record { whole_type = t; none_whole = λ v i w. let k = (sided_past side near (Some f) v).0 i in let e = whole_back v w.whole in o (further side f n v.num (h.nearest v.num (subst (IsWithin side near) (sym e) k.0)) (subst (IsWithin (across side) f) (sym e) k.1)) }

pub whole_breaks : (side : Side) (near f : End) (n : ℤ) (ty : Ty) → IsNextWhole side near n → (is_integral ty ≡ true) → (IsWithin (across side) f (whole n) → ⊥) → IsPicked (sided side near (Some f)) ty (broken_pick side near f)
whole_breaks Low near f n ty h t o = (whole_broken Low near f n ty h t o, refl, refl)
whole_breaks High near f n ty h t o = (whole_broken High near f n ty h t o, refl, refl)

at_closed : (e : End) (v : Rational) → e.inside ≡ true → IsUpFrom e v ↔ (e.place ≤ʳ v)
at_closed e v k = go e.inside k
  where
    go : (b : Bool) → b ≡ true → cond b (e.place ≤ʳ v) (e.place <ʳ v) ↔ (e.place ≤ʳ v)
    go true k = (λ h. h, λ h. h)
    go false k = absurd (cc)

to_closed : (e : End) (v : Rational) → e.inside ≡ true → IsUpTo e v ↔ (v ≤ʳ e.place)
to_closed e v k = go e.inside k
  where
    go : (b : Bool) → b ≡ true → cond b (v ≤ʳ e.place) (v <ʳ e.place) ↔ (v ≤ʳ e.place)
    go true k = (λ h. h, λ h. h)
    go false k = absurd (cc)

pub less_of : (n : ℕ) → n ≤ 2 ^ 62 → n < 2 ^ 63
less_of n h = omega arith

pub next_low_closed : (side : Side) (e : End) (n : ℤ) → side ≡ Low → e.inside ≡ true → fits e.place ≡ true → IsCeiling e.place n → IsNextWhole side e n
next_low_closed Low e n s k h c = record { within = (at_closed e (whole n) k).1 c.at_least; nearest = λ m w. c.least m ((at_closed e (whole m) k).0 w); small = less_of _ (ceil_small e.place n h c) }
next_low_closed High e n s k h c = absurd (cc)

pub next_high_closed : (side : Side) (e : End) (n : ℤ) → side ≡ High → e.inside ≡ true → fits e.place ≡ true → IsFloor e.place n → IsNextWhole side e n
next_high_closed High e n s k h c = record { within = (to_closed e (whole n) k).1 c.at_most; nearest = λ m w. c.greatest m ((to_closed e (whole m) k).0 w); small = less_of _ (floor_small e.place n h c) }
next_high_closed Low e n s k h c = absurd (cc)

pub next_low_open : (side : Side) (e : End) (n : ℤ) → side ≡ Low → e.inside ≡ false → fits e.place ≡ true → IsFloor e.place n → IsNextWhole side e (n +ℤ pos 1)
next_low_open Low e n s k h c = record {
  within = up_from_strong e _ (less_from (λ l. let m = c.greatest (n +ℤ pos 1) l in absurd (omega (arith, ints, m))));
  nearest = λ m w. by_lt_z n m (λ l. omega (arith, ints, l)) (λ l. absurd (<ʳ-not e.place (whole m) (from_open e (whole m) k w) (≤ʳ_trans (whole m) (whole n) e.place (whole_mono m n l) c.at_most)));
  small = let b = floor_small e.place n h c in omega (arith, ints, b);
}
next_low_open High e n s k h c = absurd (cc)

pub next_high_open : (side : Side) (e : End) (n : ℤ) → side ≡ High → e.inside ≡ false → fits e.place ≡ true → IsCeiling e.place n → IsNextWhole side e (n -ℤ pos 1)
next_high_open High e n s k h c = record {
  within = up_to_strong e _ (less_from (λ l. let m = c.least (n -ℤ pos 1) l in absurd (omega (arith, ints, m))));
  nearest = λ m w. by_lt_z m n (λ l. omega (arith, ints, l)) (λ l. absurd (<ʳ-not (whole m) e.place (to_open e (whole m) k w) (≤ʳ_trans e.place (whole n) (whole m) c.at_least (whole_mono n m l))));
  small = let b = ceil_small e.place n h c in omega (arith, ints, b);
}
next_high_open Low e n s k h c = absurd (cc)

-- ---- The test whether a value satisfies an end

pub keeps_equal : (side : Side) (e : End) (v : Rational) (p : Rational) (b : Bool) → p ≡ e.place → b ≡ e.inside → p ≡ v → IsTrue b ↔ IsWithin side e v
keeps_equal side e v p b f g h = subst (λ c. IsTrue c ↔ IsWithin side e v) (sym g) (subst (λ u. IsTrue e.inside ↔ IsWithin side e u) (sym f ∙ h) (own side e.inside refl))
  where
    own : (side : Side) (b : Bool) → e.inside ≡ b → IsTrue e.inside ↔ IsWithin side e e.place
    own Low true k = (λ t. (at_closed e e.place k).1 (≤ʳ_refl e.place), λ w. k)
    own Low false k = (λ t. absurd (cc), λ w. absurd (<ʳ-not e.place e.place (from_open e e.place k w) (≤ʳ_refl e.place)))
    own High true k = (λ t. (to_closed e e.place k).1 (≤ʳ_refl e.place), λ w. k)
    own High false k = (λ t. absurd (cc), λ w. absurd (<ʳ-not e.place e.place (to_open e e.place k w) (≤ʳ_refl e.place)))

pub keeps_less_low : (side : Side) (e : End) (v p : Rational) → side ≡ Low → p ≡ e.place → p <ʳ v → IsTrue true ↔ IsWithin side e v
keeps_less_low Low e v p s f h = (λ t. up_from_strong e v (subst (λ q. q <ʳ v) f h), λ w. refl)
keeps_less_low High e v p s f h = absurd (cc)

pub keeps_less_high : (side : Side) (e : End) (v p : Rational) → side ≡ High → p ≡ e.place → p <ʳ v → IsTrue false ↔ IsWithin side e v
keeps_less_high High e v p s f h = (λ t. absurd (cc), λ w. absurd (<ʳ-not p v h (subst (λ q. v ≤ʳ q) (sym f) (up_to_weak e v w))))
keeps_less_high Low e v p s f h = absurd (cc)

pub keeps_greater_low : (side : Side) (e : End) (v p : Rational) → side ≡ Low → p ≡ e.place → v <ʳ p → IsTrue false ↔ IsWithin side e v
keeps_greater_low Low e v p s f h = (λ t. absurd (cc), λ w. absurd (<ʳ-not v p h (subst (λ q. q ≤ʳ v) (sym f) (up_from_weak e v w))))
keeps_greater_low High e v p s f h = absurd (cc)

pub keeps_greater_high : (side : Side) (e : End) (v p : Rational) → side ≡ High → p ≡ e.place → v <ʳ p → IsTrue true ↔ IsWithin side e v
keeps_greater_high High e v p s f h = (λ t. up_to_strong e v (subst (λ q. v <ʳ q) f h), λ w. refl)
keeps_greater_high Low e v p s f h = absurd (cc)

-- ---- The choice of the program

pub picked_middle : (side : Side) (near : End) (far : Option End) (f : End) (v : Rational) (p : Pick) → far ≡ Some f → v ≡ middleʳ near.place f.place → near.inside ≡ false → p ≡ narrow_pick v → (IsWithin side near zeroʳ → ⊥) → (w : Rational) → IsInside (sided side near far) w → IsPicked (sided side near far) Ty.UReal p
picked_middle side near far f v p e h k m n w i = picked_value (sided side near far) Ty.UReal v p m (subst (λ o. Chosen (sided side near o) Ty.UReal v) (sym e) (subst (Chosen (sided side near (Some f)) Ty.UReal) (sym h) (real_middle side near f w k n (subst (λ o. IsInside (sided side near o) w) e i))))

pub picked_past : (side : Side) (near : End) (far : Option End) (v : Rational) (p : Pick) → far ≡ None → v ≡ past_place side near.place → near.inside ≡ false → p ≡ narrow_pick v → (IsWithin side near zeroʳ → ⊥) → IsPicked (sided side near far) Ty.UReal p
picked_past side near far v p e h k m n = picked_value (sided side near far) Ty.UReal v p m (subst (λ o. Chosen (sided side near o) Ty.UReal v) (sym e) (subst (Chosen (sided side near None) Ty.UReal) (sym h) (real_past side near k n)))

pub picked_broken : (side : Side) (near : End) (far : Option End) (f : End) (n : ℤ) (v : Rational) (s : Side) (b : Bool) (p : Pick) → far ≡ Some f → v ≡ whole n → s ≡ across side → (IsTrue b ↔ IsWithin s f v) → b ≡ false → p ≡ broken_pick side near f → IsNextWhole side near n → (ty : Ty) → (is_integral ty ≡ true) → IsPicked (sided side near far) ty p
picked_broken side near far f n v s b p e h k m l q x ty t = subst (IsPicked (sided side near far) ty) (sym q) (subst (λ o. IsPicked (sided side near o) ty (broken_pick side near f)) (sym e) (whole_breaks side near f n ty x t (λ w. absurd (let y = m.1 (subst (λ z. IsWithin z f v) (sym k) (subst (IsWithin (across side) f) (sym h) w)) in cc))))

pub past_some : (side : Side) (far : Option End) (f : End) (v : Rational) (s : Side) (b : Bool) → far ≡ Some f → s ≡ across side → (IsTrue b ↔ IsWithin s f v) → b ≡ true → IsPast (across side) far v
past_some side far f v s b e k m l = subst (λ o. IsPast (across side) o v) (sym e) (subst (λ z. IsWithin z f v) k (m.0 l))

pub past_none : (side : Side) (far : Option End) (v : Rational) → far ≡ None → IsPast (across side) far v
past_none side far v e = subst (λ o. IsPast (across side) o v) (sym e) tt

pub picked_whole : (side : Side) (near : End) (far : Option End) (n : ℤ) (v : Rational) (p : Pick) → v ≡ whole n → IsPast (across side) far v → p ≡ narrow_pick v → IsNextWhole side near n → (ty : Ty) → (is_integral ty ≡ true) → (IsWithin side near zeroʳ → ⊥) → IsPicked (sided side near far) ty p
picked_whole side near far n v p e h q x ty t o = picked_value (sided side near far) ty v p q (subst (Chosen (sided side near far) ty) (sym e) (whole_taken side near far n ty x t o (subst (IsPast (across side) far) e h)))

pub taken_out : (side : Side) (end far : Option End) (near : End) (ty : Ty) (p : Pick) (z : Rational) (b : Bool) → end ≡ Some near → (is_numeric ty ≡ true → (IsWithin side near zeroʳ → ⊥) → (w : Rational) → IsInside (sided side near far) w → IsPicked (sided side near far) ty p) → (IsTrue b ↔ IsWithin side near z) → z ≡ zeroʳ → b ≡ false → is_numeric ty ≡ true → (w : Rational) → IsInside (between side end far) w → IsPicked (between side end far) ty p
taken_out side end far near ty p z b e f k m n q w i = subst (λ o. IsPicked (between side o far) ty p) (sym e) (f q (λ y. absurd (let l = k.1 (subst (IsWithin side near) (sym m) y) in cc)) w (subst (λ o. IsInside (between side o far) w) e i))

pub zero_taken : (low high : Option End) (ty : Ty) (z : Rational) → z ≡ zeroʳ → IsPast Low low zeroʳ → IsPast High high zeroʳ → IsPicked (between Low low high) ty (Value z)
zero_taken low high ty z e l h = let i = (inside_past (between Low low high) zeroʳ).1 (l, h) in subst (λ v. IsPicked (between Low low high) ty (Value v)) (sym e) (choose_zero ty i, i, zero_fits)
