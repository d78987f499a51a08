-- If the values of a state satisfy a row, they satisfy its inequality: the constant is rounded up.
use Rattle.std.proofs.Common.{◌≡◌, ℕ, List, [], ◌∷◌, refl, sym, ap, ◌∙◌, arith, lit<, subst, Bool, true, false, not, cond}
use Rattle.std.specs.Prelude.{ℤ, pos, negsuc, ◌+ℤ◌, ◌≤ℤ◌, Option, Some, None}
use borrow.Author.Differences.{ints}
use Prim.Native.Nat.{zero, suc}
use Rattle.std.specs.List.{All}
use Rattle.std.proofs.lemmas.List.Elements.{All-head, All-tail}
use Rattle.heyvl_num.specs.Gcd.{gcd, gcd_steps}
use Rattle.heyvl_num.specs.Rational.{Rational, ratio, zeroʳ, ◌+ʳ◌, ◌*ʳ◌, leqʳ, ◌≤ʳ◌}
use Rattle.heyvl_num.specs.Rounding.{whole, floorʳ}
use Rattle.heyvl_num.proofs.exported.Rationals.{≤ʳ_trans, ≤ʳ_refl, +ʳ_mono, +ʳ_comm, *ʳ_assoc, *ʳ_comm, one-*ʳ, zero-+ʳ, order_cross, nonnegative_num}
use Rattle.heyvl_num.proofs.exported.Roundings.{floor-is, ceil-is}
use Rattle.heyvl_num.proofs.exported.Signs.{≤ʳ-+ʳ_cancel}
use Rattle.heylo_formula.specs.State.{Env, number_of}
use Rattle.heylo_formula.specs.Typing.{Types}
use Rattle.linear_rows.specs.Solutions.{sum_of, IsBelowZero, MeetsAt}
use Rattle.linear_values.specs.Lin.{Terms, total}
use Rattle.linear_rows.specs.Numbers.{is_negative}
use Rattle.linear_values.specs.Claims.{IsClaimed, AllClaimed}
use Rattle.linear_values.specs.Nonzero.{AreNonzero, AllNonzero}
use Rattle.linear_values.specs.Tightening.{with_row, all_tightened, Claim, sign_of, rounded, are_whole, tight_row, tightened, factor, whole_terms}
use Rattle.linear_rows.specs.Row.{Row}
use Rattle.linear_values.specs.WholeTimes.{AreWholeTimes}
use Rattle.linear_values.proofs.exported.TightRows.{IsPositive, keeps_sign, positive_ratio, positive-*, factor_positive, factor_whole, value_scaled, further_whole, cleared, zero_row, taken_row}

abbrev numbers : Env → ℕ → Rational
numbers s x = number_of (s x)

-- ---- Signs

negative_is : (strict : Bool) (x : Rational) → IsBelowZero strict x → is_negative x strict ≡ true
negative_is false x h = h.holds
negative_is true x h = ap not h.holds

inverse_positive : (w : Rational) (p : IsPositive w) → IsPositive p.inverse
inverse_positive w p = record { above = p.inverse_above; inverse = w; inverse_above = p.above; one = *ʳ_comm w p.inverse ∙ p.one }

divided : (w x : Rational) (strict : Bool) → IsPositive w → IsBelowZero strict (w *ʳ x) → is_negative x strict ≡ true
divided w x strict p h = negative_is strict x (subst (IsBelowZero strict) (sym (*ʳ_assoc p.inverse w x) ∙ ap (λ y. y *ʳ x) p.one ∙ one-*ʳ x) (keeps_sign p.inverse (w *ʳ x) strict (inverse_positive w p) (negative_is strict (w *ʳ x) h)))

-- ---- Without variables the sign decides

at_most : (c : Rational) → c.num ≤ℤ pos 0 → c ≤ʳ zeroʳ
unfolding zeroʳ ratio gcd gcd_steps
at_most c h = order_cross c zeroʳ (omega (arith, ints, h))

not_at_least : (c : Rational) (m : ℕ) → c.num ≡ negsuc m → leqʳ zeroʳ c ≡ false
not_at_least c m e = go (leqʳ zeroʳ c) refl
  where
    go : (b : Bool) → leqʳ zeroʳ c ≡ b → leqʳ zeroʳ c ≡ false
    go true k = absurd (let h = nonnegative_num c (record { holds = k }) in omega (arith, ints, h, e))
    go false k = k

none_above : (strict : Bool) → IsBelowZero strict (zeroʳ +ʳ whole (pos 1)) → ⊥
unfolding whole zeroʳ ◌+ʳ◌ leqʳ ratio gcd gcd_steps
none_above false h = let k = h.holds in absurd (cc)
none_above true h = let k = h.holds in absurd (cc)

none_below_itself : IsBelowZero true (zeroʳ +ʳ whole (pos 0)) → ⊥
none_below_itself h = let k = (subst (IsBelowZero true) zero_row h).holds in let l = (≤ʳ_refl zeroʳ).holds in absurd (let m : true ≡ false = sym l ∙ k in cc)

sign_claims : (c : Rational) (strict : Bool) → IsBelowZero strict (zeroʳ +ʳ whole (sign_of c.num)) → is_negative c strict ≡ true
sign_claims c strict h = go c.num refl strict h
  where
    go : (n : ℤ) → c.num ≡ n → (strict : Bool) → IsBelowZero strict (zeroʳ +ʳ whole (sign_of n)) → is_negative c strict ≡ true
    go (pos zero) k false h = (at_most c (omega (arith, ints, k))).holds
    go (pos zero) k true h = absurd (none_below_itself h)
    go (pos (suc m)) k strict h = absurd (none_above strict h)
    go (negsuc m) k false h = (at_most c (omega (arith, ints, k))).holds
    go (negsuc m) k true h = ap not (not_at_least c m k)

-- ---- Over integer variables the constant is rounded up

rounded_claims : (x c : Rational) (strict : Bool) → x +ʳ whole (rounded strict c) ≤ʳ zeroʳ → IsBelowZero strict (x +ʳ c)
rounded_claims x c false h = ≤ʳ_trans _ _ _ (+ʳ_mono _ _ _ _ (≤ʳ_refl x) (ceil-is c).at_least) h
rounded_claims x c true h = record { holds = go (leqʳ zeroʳ (x +ʳ c)) refl }
  where
    next : (n : ℤ) → (n +ℤ pos 1) ≤ℤ n → ⊥
    next n h = omega (arith, ints, h)

    never : zeroʳ ≤ʳ x +ʳ c → ⊥
    never k =
        let m : x +ʳ whole (floorʳ c +ℤ pos 1) ≤ʳ x +ʳ c = ≤ʳ_trans _ _ _ h k in
        let n : whole (floorʳ c +ℤ pos 1) ≤ʳ c = ≤ʳ-+ʳ_cancel _ c x (subst (λ y. y ≤ʳ c +ʳ x) (+ʳ_comm x _) (subst (λ y. x +ʳ whole (floorʳ c +ℤ pos 1) ≤ʳ y) (+ʳ_comm x c) m)) in
        next (floorʳ c) ((floor-is c).greatest (floorʳ c +ℤ pos 1) n)

    go : (b : Bool) → leqʳ zeroʳ (x +ʳ c) ≡ b → leqʳ zeroʳ (x +ʳ c) ≡ false
    go true k = absurd (never (record { holds = k }))
    go false k = k

-- ---- With a UReal the row is scaled to integers

exact_claims : (w c : Rational) (ts : Terms) (s : Env) (strict : Bool) → IsPositive w → AreWholeTimes w ts → IsBelowZero strict (sum_of (numbers s) (whole_terms (ratio (pos (w *ʳ c).den) 1 *ʳ w) ts) +ʳ whole (w *ʳ c).num) → is_negative (total ts s +ʳ c) strict ≡ true
exact_claims w c ts s strict p h e = divided (ratio (pos (w *ʳ c).den) 1 *ʳ w) (total ts s +ʳ c) strict (positive-* _ w (positive_ratio (w *ʳ c).den 1 (w *ʳ c).positive (lit< tt)) p) (subst (IsBelowZero strict) (sym (sym (value_scaled (ratio (pos (w *ʳ c).den) 1 *ʳ w) ts c s (further_whole (w *ʳ c).den w ts h)) ∙ ap (λ x. sum_of (numbers s) (whole_terms (ratio (pos (w *ʳ c).den) 1 *ʳ w) ts) +ʳ x) (*ʳ_assoc (ratio (pos (w *ʳ c).den) 1) w c ∙ sym (cleared (w *ʳ c))))) e)

-- ---- Each row

row_claims : (types : Types) (s : Env) (ts : Terms) (c : Rational) (strict : Bool) → AreNonzero ts → MeetsAt (numbers s) (tight_row types ts c strict) → is_negative (total ts s +ʳ c) strict ≡ true
unfolding sum_of
row_claims types s [] c strict n m = ap (λ x. is_negative x strict) (zero-+ʳ c) ∙ sign_claims c strict m.met
row_claims types s (x ∷ ts) c strict n m = go (are_whole types (x ∷ ts)) m
  where
    go : (b : Bool) → MeetsAt (numbers s) (cond b (record { terms = whole_terms (factor (x ∷ ts)) (x ∷ ts); rest = rounded strict (factor (x ∷ ts) *ʳ c); strict = false }) (record { terms = whole_terms (ratio (pos (factor (x ∷ ts) *ʳ c).den) 1 *ʳ factor (x ∷ ts)) (x ∷ ts); rest = (factor (x ∷ ts) *ʳ c).num; strict = strict })) → is_negative (total (x ∷ ts) s +ʳ c) strict ≡ true
    go true m = divided (factor (x ∷ ts)) (total (x ∷ ts) s +ʳ c) strict (factor_positive x ts n) (subst (IsBelowZero strict) (value_scaled (factor (x ∷ ts)) (x ∷ ts) c s (factor_whole x ts n)) (rounded_claims (sum_of (numbers s) (whole_terms (factor (x ∷ ts)) (x ∷ ts))) (factor (x ∷ ts) *ʳ c) strict m.met))
    go false m = exact_claims (factor (x ∷ ts)) c (x ∷ ts) s strict (factor_positive x ts n) (factor_whole x ts n) m.met

tightened_claims : (types : Types) (s : Env) (k : Claim) (r : Row) → AreNonzero k.left.terms → tightened types k ≡ Some r → MeetsAt (numbers s) r → IsClaimed s k
unfolding tightened
tightened_claims types s k r n e m = record { claimed = row_claims types s k.left.terms k.left.rest k.strict n (subst (MeetsAt (numbers s)) (sym (taken_row _ (tight_row types k.left.terms k.left.rest k.strict) r e)) m) }

pub rows_claim : (types : Types) (s : Env) (ks : List Claim) (rows : List Row) → AllNonzero ks → all_tightened types ks ≡ Some rows → All (MeetsAt (numbers s)) rows → AllClaimed s ks
rows_claim types s [] rows n e m = tt
rows_claim types s (k ∷ ks) rows n e m = go (tightened types k) refl (all_tightened types ks) refl e (λ qs. rows_claim types s ks qs n.1)
  where
    go : (o : Option Row) → tightened types k ≡ o → (p : Option (List Row)) → all_tightened types ks ≡ p → with_row o p ≡ Some rows → ((qs : List Row) → all_tightened types ks ≡ Some qs → All (MeetsAt (numbers s)) qs → AllClaimed s ks) → AllClaimed s (k ∷ ks)
    go (Some r) a (Some qs) b e ih =
        let i : rows ≡ (r ∷ qs) = cc in
        let j = subst (All (MeetsAt (numbers s))) i m in
        (tightened_claims types s k r n.0 a (All-head (MeetsAt (numbers s)) r qs j), ih qs b (All-tail (MeetsAt (numbers s)) r qs j))
    go (Some r) a None b e ih = absurd (cc)
    go None a (Some qs) b e ih = absurd (cc)
    go None a None b e ih = absurd (cc)
