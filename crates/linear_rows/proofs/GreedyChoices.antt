-- The value chosen in an interval is inside it, and an integer for a type of integers.
use Rattle.std.proofs.Common.{◌≡◌, ℕ, List, [], ◌∷◌, ◌++◌, refl, sym, ◌∙◌, subst, Bool, true, false, cond}
use Rattle.std.specs.Prelude.{Option, Some, None}
use Rattle.std.specs.List.{All}
use Rattle.std.proofs.lemmas.List.Elements.{All-push}
use Rattle.heyvl_num.specs.Gcd.{gcd, gcd_steps}
use Rattle.heyvl_num.specs.Rational.{Rational, ratio, zeroʳ, oneʳ, middleʳ, ◌+ʳ◌, ◌-ʳ◌, leqʳ, ◌≤ʳ◌, ◌<ʳ◌}
use Rattle.heyvl_num.proofs.exported.Rationals.{≤ʳ_refl, ≤ʳ_trans, +ʳ_comm, zero-+ʳ}
use Rattle.heyvl_num.proofs.exported.Signs.{<ʳ-≤ʳ, <ʳ-not, middle_above, middle_below, ≤ʳ-+ʳ_cancel, -ʳ-+ʳ}
use Rattle.heylo_formula.specs.declared.types.Ty.{Ty}
use Rattle.linear_rows.specs.Row.{Row}
use Rattle.linear_rows.specs.GreedyPoint.{IsCompleted, End, Interval, IsUpFrom, IsUpTo, IsInside, IsChoice, Greedy, Chooses}
use Rattle.heylo_formula.specs.Typing.{types_in}
use Rattle.linear_rows.specs.VariableTypes.{is_integral}

-- ---- Below and at most

not_true : (b : Bool) → (b ≡ true → ⊥) → b ≡ false
not_true true n = absurd (n refl)
not_true false n = refl

pub most_less : (x y z : Rational) → x ≤ʳ y → y <ʳ z → x <ʳ z
most_less x y z h k = record { holds = not_true _ (λ e. <ʳ-not y z k (≤ʳ_trans z x y (record { holds = e }) h)) }

pub less_most : (x y z : Rational) → x <ʳ y → y ≤ʳ z → x <ʳ z
less_most x y z h k = record { holds = not_true _ (λ e. <ʳ-not x y h (≤ʳ_trans y z x k (record { holds = e }))) }

one_above : oneʳ ≤ʳ zeroʳ → ⊥
unfolding oneʳ zeroʳ leqʳ ratio gcd gcd_steps
one_above h = let k = h.holds in absurd (cc)

pub less_next : (x : Rational) → x <ʳ x +ʳ oneʳ
less_next x = record { holds = not_true _ (λ e. one_above (≤ʳ-+ʳ_cancel oneʳ zeroʳ x (subst (λ y. y ≤ʳ zeroʳ +ʳ x) (+ʳ_comm x oneʳ) (subst (λ y. x +ʳ oneʳ ≤ʳ y) (sym (zero-+ʳ x)) (record { holds = e }))))) }

pub less_before : (x : Rational) → x -ʳ oneʳ <ʳ x
less_before x = subst (λ y. x -ʳ oneʳ <ʳ y) (-ʳ-+ʳ x oneʳ) (less_next (x -ʳ oneʳ))

-- ---- Ends

pub from_most : (e : End) (v : Rational) → IsUpFrom e v → e.place ≤ʳ v
from_most e v h = go e.inside h
  where
    go : (b : Bool) → cond b (e.place ≤ʳ v) (e.place <ʳ v) → e.place ≤ʳ v
    go true h = h
    go false h = <ʳ-≤ʳ _ _ h

pub to_most : (e : End) (v : Rational) → IsUpTo e v → v ≤ʳ e.place
to_most e v h = go e.inside h
  where
    go : (b : Bool) → cond b (v ≤ʳ e.place) (v <ʳ e.place) → v ≤ʳ e.place
    go true h = h
    go false h = <ʳ-≤ʳ _ _ h

pub from_less : (e : End) (v : Rational) → e.place <ʳ v → IsUpFrom e v
from_less e v h = go e.inside
  where
    go : (b : Bool) → cond b (e.place ≤ʳ v) (e.place <ʳ v)
    go true = <ʳ-≤ʳ _ _ h
    go false = h

pub to_less : (e : End) (v : Rational) → v <ʳ e.place → IsUpTo e v
to_less e v h = go e.inside
  where
    go : (b : Bool) → cond b (v ≤ʳ e.place) (v <ʳ e.place)
    go true = <ʳ-≤ʳ _ _ h
    go false = h

pub from_more : (e : End) (v w : Rational) → v ≤ʳ w → IsUpFrom e v → IsUpFrom e w
from_more e v w l h = go e.inside h
  where
    go : (b : Bool) → cond b (e.place ≤ʳ v) (e.place <ʳ v) → cond b (e.place ≤ʳ w) (e.place <ʳ w)
    go true h = ≤ʳ_trans _ _ _ h l
    go false h = less_most _ _ _ h l

pub to_fewer : (e : End) (v w : Rational) → w ≤ʳ v → IsUpTo e v → IsUpTo e w
to_fewer e v w l h = go e.inside h
  where
    go : (b : Bool) → cond b (v ≤ʳ e.place) (v <ʳ e.place) → cond b (w ≤ʳ e.place) (w <ʳ e.place)
    go true h = ≤ʳ_trans _ _ _ l h
    go false h = most_less _ _ _ l h

pub own_from : (e : End) → e.inside ≡ true → IsUpFrom e e.place
own_from e k = subst (λ b. cond b (e.place ≤ʳ e.place) (e.place <ʳ e.place)) (sym k) (≤ʳ_refl e.place)

pub own_to : (e : End) → e.inside ≡ true → IsUpTo e e.place
own_to e k = subst (λ b. cond b (e.place ≤ʳ e.place) (e.place <ʳ e.place)) (sym k) (≤ʳ_refl e.place)

pub beyond_from : (e : End) (v : Rational) → e.inside ≡ false → IsUpFrom e v → e.place <ʳ v
beyond_from e v k h = subst (λ b. cond b (e.place ≤ʳ v) (e.place <ʳ v)) k h

pub beyond_to : (e : End) (v : Rational) → e.inside ≡ false → IsUpTo e v → v <ʳ e.place
beyond_to e v k h = subst (λ b. cond b (v ≤ʳ e.place) (v <ʳ e.place)) k h

-- The end of an interval is unique.
pub one_end : (P : End → Type 0) (o : Option End) (e f : End) → o ≡ Some e → o ≡ Some f → P e → P f
one_end P o e f k l p = let m : Some e ≡ Some f = sym k ∙ l in let n : e ≡ f = cc in subst P n p

pub no_end : (P : Type 0) (o : Option End) (e : End) → o ≡ None → o ≡ Some e → P
no_end P o e k l = absurd (let m : None ≡ Some e = sym k ∙ l in cc)

-- ---- Choices

between : (i : Interval) (e f : End) (m : Rational) → i.low ≡ Some e → i.high ≡ Some f → e.place <ʳ m → m <ʳ f.place → IsInside i m
between i e f m l h p q = record { from_low = λ d k. one_end (λ d. IsUpFrom d m) i.low e d l k (from_less e m p); to_high = λ d k. one_end (λ d. IsUpTo d m) i.high f d h k (to_less f m q) }

-- If some value is inside an interval, the chosen value is inside.
pub choice_inside : (i : Interval) (ty : Ty) (v w : Rational) → IsInside i w → IsChoice i ty v → IsInside i v
choice_inside i _ _ w h (IsChoice.zero ty z) = z
choice_inside i _ _ w h (IsChoice.nearest_whole ty v n k l a m) = a
choice_inside i _ _ w h (IsChoice.low_end e n l z k) = record {
  from_low = λ d q. one_end (λ d. IsUpFrom d e.place) i.low e d l q (own_from e k);
  to_high = λ d q. to_fewer d w e.place (from_most e w (h.from_low e l)) (h.to_high d q);
}
choice_inside i _ _ w h (IsChoice.high_end e n l z k) = record {
  from_low = λ d q. from_more d w e.place (to_most e w (h.to_high e l)) (h.from_low d q);
  to_high = λ d q. one_end (λ d. IsUpTo d e.place) i.high e d l q (own_to e k);
}
choice_inside i _ _ w h (IsChoice.middle_of_low e f n l g z k) = let m = less_most e.place w f.place (beyond_from e w k (h.from_low e l)) (to_most f w (h.to_high f g)) in between i e f (middleʳ e.place f.place) l g (middle_above e.place f.place m) (middle_below e.place f.place m)
choice_inside i _ _ w h (IsChoice.middle_of_high e f n l g z k) = let m = most_less e.place w f.place (from_most e w (h.from_low e l)) (beyond_to f w k (h.to_high f g)) in between i e f (middleʳ e.place f.place) l g (middle_above e.place f.place m) (middle_below e.place f.place m)
choice_inside i _ _ w h (IsChoice.past_low e n l g k) = record {
  from_low = λ d q. one_end (λ d. IsUpFrom d (e.place +ʳ oneʳ)) i.low e d l q (from_less e (e.place +ʳ oneʳ) (less_next e.place));
  to_high = λ d q. no_end (IsUpTo d (e.place +ʳ oneʳ)) i.high d g q;
}
choice_inside i _ _ w h (IsChoice.past_high e n l g k) = record {
  from_low = λ d q. no_end (IsUpFrom d (e.place -ʳ oneʳ)) i.low d l q;
  to_high = λ d q. one_end (λ d. IsUpTo d (e.place -ʳ oneʳ)) i.high e d g q (to_less e (e.place -ʳ oneʳ) (less_before e.place));
}

pub zero_whole : zeroʳ.den ≡ 1
unfolding zeroʳ ratio gcd gcd_steps
zero_whole = refl

choice_whole : (i : Interval) (ty : Ty) (v : Rational) → IsChoice i ty v → (is_integral ty ≡ true) → v.den ≡ 1
choice_whole i _ _ (IsChoice.zero ty z) t = zero_whole
choice_whole i _ _ (IsChoice.nearest_whole ty v n k l a m) t = l.whole
choice_whole i _ _ (IsChoice.low_end e n l z k) t = absurd (cc)
choice_whole i _ _ (IsChoice.high_end e n l z k) t = absurd (cc)
choice_whole i _ _ (IsChoice.middle_of_low e f n l g z k) t = absurd (cc)
choice_whole i _ _ (IsChoice.middle_of_high e f n l g z k) t = absurd (cc)
choice_whole i _ _ (IsChoice.past_low e n l g k) t = absurd (cc)
choice_whole i _ _ (IsChoice.past_high e n l g k) t = absurd (cc)

-- ---- All choices

-- A completion gives one more variable its value there.
pub with_own : (rows : List Row) (cs : List (ℕ × Rational)) (x : ℕ) (h : IsCompleted rows cs) → IsCompleted rows (cs ++ (x, h.at_values x) ∷ [])
with_own rows cs x h = record { at_values = h.at_values; agrees = All-push (λ c. h.at_values c.0 ≡ c.1) cs (x, h.at_values x) h.agrees refl; meets = h.meets }

pub completed : (rows : List Row) (vars : List Ty) (xs : List ℕ) (cs ds : List (ℕ × Rational)) → Chooses rows vars xs cs (Greedy.chose ds) → IsCompleted rows cs → IsCompleted rows ds
completed rows vars _ _ ds (Chooses.ends _) h = h
completed rows vars _ cs ds (Chooses.takes x xs _ i v _ a c r) h = completed rows vars xs (cs ++ (x, v) ∷ []) ds r ((a.values v).0 (choice_inside i (types_in vars x) v (h.at_values x) ((a.values (h.at_values x)).1 (with_own rows cs x h)) c))

abbrev pub AreWhole : List Ty → List (ℕ × Rational) → Type 0
AreWhole vars cs = All (λ c. (is_integral (types_in vars c.0) ≡ true) → c.1.den ≡ 1) cs

pub chosen_whole : (rows : List Row) (vars : List Ty) (xs : List ℕ) (cs ds : List (ℕ × Rational)) → Chooses rows vars xs cs (Greedy.chose ds) → AreWhole vars cs → AreWhole vars ds
chosen_whole rows vars _ _ ds (Chooses.ends _) h = h
chosen_whole rows vars _ cs ds (Chooses.takes x xs _ i v _ a c r) h = chosen_whole rows vars xs (cs ++ (x, v) ∷ []) ds r (All-push (λ c. (is_integral (types_in vars c.0) ≡ true) → c.1.den ≡ 1) cs (x, v) h (choice_whole i (types_in vars x) v c))
