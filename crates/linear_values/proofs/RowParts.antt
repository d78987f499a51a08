-- The row of an inequality, from its parts.
use Rattle.std.proofs.Common.{◌≡◌, ℕ, ◌<◌, length, List, [], ◌∷◌, refl, sym, ap, ap₂, ◌∙◌, subst, arith, lit<, Bool, true, false, cond, ◌&&◌}
use Prim.Native.Nat.{zero, suc}
use Rattle.std.specs.Prelude.{ℤ, pos, negsuc, Option, Some, None, Result, Ok, Err, IfOk}
use Rattle.heyvl_num.specs.Rational.{Rational, ratio, oneʳ, ◌*ʳ◌}
use Rattle.heyvl_num.specs.Exact.{exact_product, product_fits}
use Rattle.heyvl_num.proofs.exported.Exactness.{exact_product_some, exact_product_none}
use Rattle.heyvl_num.proofs.exported.Rationals.{one-*ʳ}
use Rattle.heylo_formula.specs.Typing.{Types}
use Rattle.linear_rows.specs.Row.{Row}
use Rattle.linear_values.specs.Lin.{Lin, Terms, AreNormal, all_fit, is_sized}
use Rattle.linear_rows.specs.Numbers.{fits}
use Rattle.linear_rows.specs.Terms.{is_narrow}
use Rattle.linear_values.specs.Operator.{narrow_value}
use Rattle.linear_values.specs.Nonzero.{AreNonzero}
use Rattle.linear_rows.specs.TermResults.{are_narrow}
use Rattle.linear_values.specs.Tightening.{Claim, tightened, tight_row, sign_of, rounded, are_whole, factor, whole_terms, constant_fits}
use Rattle.linear_values.specs.WholeTimes.{AreWholeTimes}
use Rattle.linear_values.proofs.TightRows.{factor_whole}
use Rattle.linear_values.proofs.Factors.{times_wide, normal_nonzero}

-- The row with integer variables, and the row with a UReal.
abbrev pub whole_row : Terms → Rational → Bool → Row
whole_row ts c strict = record { terms = whole_terms (ratio (pos 1) 1 *ʳ factor ts) ts; rest = rounded strict (factor ts *ʳ c); strict = false }

abbrev pub exact_row : Terms → Rational → Bool → Row
exact_row ts c strict = record { terms = whole_terms (ratio (pos (factor ts *ʳ c).den) 1 *ʳ factor ts) ts; rest = (factor ts *ʳ c).num; strict = strict }

abbrev pub claim_of : Terms → Rational → Bool → Claim
claim_of ts c strict = record { left = record { terms = ts; rest = c }; strict = strict }

abbrev pub chosen : Bool → Row → Option Row
chosen b r = cond b (Some r) None

pub unit_factor : (w : Rational) → ratio (pos 1) 1 *ʳ w ≡ w
unfolding oneʳ
unit_factor w = one-*ʳ w

pub row_is : (types : Types) (ts : Terms) (c : Rational) (strict : Bool) → 0 < length ts → is_sized (record { terms = ts; rest = c }) ≡ true → tightened types (claim_of ts c strict) ≡ cond (product_fits (factor ts) c) (cond (are_whole types ts) (chosen (are_narrow (whole_row ts c strict).terms && is_narrow (whole_row ts c strict).rest) (whole_row ts c strict)) (chosen (are_narrow (exact_row ts c strict).terms && is_narrow (exact_row ts c strict).rest) (exact_row ts c strict))) None
unfolding tightened
row_is types [] c strict h z = absurd (omega arith)
row_is types (t ∷ ts) c strict h z = ap (λ b. cond (b && (constant_fits (t ∷ ts) c && (are_narrow r.terms && is_narrow r.rest))) (Some r) None) z ∙ go (product_fits (factor (t ∷ ts)) c) (are_whole types (t ∷ ts))
  where
    r : Row
    r = tight_row types (t ∷ ts) c strict

    plain : Row
    plain = record { terms = whole_terms (factor (t ∷ ts)) (t ∷ ts); rest = rounded strict (factor (t ∷ ts) *ʳ c); strict = false }

    both : plain ≡ whole_row (t ∷ ts) c strict
    both = ap (λ w. record { terms = whole_terms w (t ∷ ts); rest = rounded strict (factor (t ∷ ts) *ʳ c); strict = false }) (sym (unit_factor (factor (t ∷ ts))))

    go : (b d : Bool) → cond (true && (b && (are_narrow (cond d plain (exact_row (t ∷ ts) c strict)).terms && is_narrow (cond d plain (exact_row (t ∷ ts) c strict)).rest))) (Some (cond d plain (exact_row (t ∷ ts) c strict))) None ≡ cond b (cond d (chosen (are_narrow (whole_row (t ∷ ts) c strict).terms && is_narrow (whole_row (t ∷ ts) c strict).rest) (whole_row (t ∷ ts) c strict)) (chosen (are_narrow (exact_row (t ∷ ts) c strict).terms && is_narrow (exact_row (t ∷ ts) c strict).rest) (exact_row (t ∷ ts) c strict))) None
    go true true = ap (λ (r : Row). cond (are_narrow r.terms && is_narrow r.rest) (Some r) None) both
    go true false = refl
    go false true = refl
    go false false = refl

-- The rows of a factor.
abbrev pub WholeRow : Rational → Terms → Rational → Bool → Row
WholeRow w ts c strict = record { terms = whole_terms (ratio (pos 1) 1 *ʳ w) ts; rest = rounded strict (w *ʳ c); strict = false }

abbrev pub ExactRow : Rational → Terms → Rational → Bool → Row
ExactRow w ts c strict = record { terms = whole_terms (ratio (pos (w *ʳ c).den) 1 *ʳ w) ts; rest = (w *ʳ c).num; strict = strict }

abbrev pub row_choice : Bool → Bool → Row → Row → Option Row
row_choice p d r q = cond p (cond d (chosen (are_narrow r.terms && is_narrow r.rest) r) (chosen (are_narrow q.terms && is_narrow q.rest) q)) None

pub row_of : (types : Types) (ts : Terms) (c w : Rational) (strict : Bool) → 0 < length ts → is_sized (record { terms = ts; rest = c }) ≡ true → w ≡ factor ts → tightened types (claim_of ts c strict) ≡ row_choice (product_fits w c) (are_whole types ts) (WholeRow w ts c strict) (ExactRow w ts c strict)
row_of types ts c w strict h z e = subst (λ w. tightened types (claim_of ts c strict) ≡ row_choice (product_fits w c) (are_whole types ts) (WholeRow w ts c strict) (ExactRow w ts c strict)) (sym e) (row_is types ts c strict h z)

factor_whole_of : (ts : Terms) → 0 < length ts → AreNonzero ts → AreWholeTimes (factor ts) ts
factor_whole_of [] h n = tt
factor_whole_of (t ∷ ts) h n = factor_whole t ts n

pub whole_of : (ts : Terms) (w : Rational) → 0 < length ts → AreNormal ts → w ≡ factor ts → AreWholeTimes w ts
whole_of ts w h n e = subst (λ w. AreWholeTimes w ts) (sym e) (factor_whole_of ts h (normal_nonzero ts n))

no_choice : (p d : Bool) (r q : Row) → are_narrow r.terms ≡ false → are_narrow q.terms ≡ false → row_choice p d r q ≡ None
no_choice true true r q e f = rw e
no_choice true false r q e f = rw f
no_choice false true r q e f = refl
no_choice false false r q e f = refl

pub lost_factor : (types : Types) (ts : Terms) (c : Rational) (strict : Bool) → 0 < length ts → is_sized (record { terms = ts; rest = c }) ≡ true → AreNormal ts → are_narrow (whole_terms (factor ts) ts) ≡ false → None ≡ tightened types (claim_of ts c strict)
lost_factor types ts c strict h z n e = let k = whole_of ts (factor ts) h n refl in sym (row_of types ts c (factor ts) strict h z refl ∙ no_choice (product_fits (factor ts) c) (are_whole types ts) (WholeRow (factor ts) ts c strict) (ExactRow (factor ts) ts c strict) (times_wide 1 (factor ts) ts (lit< tt) k e) (times_wide (factor ts *ʳ c).den (factor ts) ts (factor ts *ʳ c).positive k e))

pub lost_product : (types : Types) (ts : Terms) (c w : Rational) (strict : Bool) → 0 < length ts → is_sized (record { terms = ts; rest = c }) ≡ true → w ≡ factor ts → None ≡ exact_product w c → None ≡ tightened types (claim_of ts c strict)
lost_product types ts c w strict h z e f = sym (row_of types ts c w strict h z e ∙ ap (λ p. row_choice p (are_whole types ts) (WholeRow w ts c strict) (ExactRow w ts c strict)) (exact_product_none w c f))

made_fits : (w c k : Rational) → Some k ≡ exact_product w c → product_fits w c ≡ true
unfolding exact_product
made_fits w c k h = go (product_fits w c) h
  where
    go : (b : Bool) → Some k ≡ cond b (Some (w *ʳ c)) None → b ≡ true
    go true h = refl
    go false h = absurd (cc)

narrow_lost : (z : ℤ) → None ≡ narrow_value z → is_narrow z ≡ false
narrow_lost z h = go (is_narrow z) h
  where
    go : (b : Bool) → None ≡ cond b (Some z) None → b ≡ false
    go true h = absurd (cc)
    go false h = refl

narrow_found : (z r : ℤ) → Some r ≡ narrow_value z → (is_narrow z ≡ true) × (r ≡ z)
narrow_found z r h = go (is_narrow z) h
  where
    go : (b : Bool) → Some r ≡ cond b (Some z) None → (b ≡ true) × (r ≡ z)
    go true h = (refl, cc)
    go false h = absurd (cc)

not_chosen : (a m : Bool) (r : Row) → m ≡ false → chosen (a && m) r ≡ None
not_chosen true m r e = rw e
not_chosen false m r e = refl

finish : (a m : Bool) (r q : Row) → m ≡ true → q ≡ r → cond a (Some q) None ≡ chosen (a && m) r
finish true m r q e f = ap Some f ∙ ap (λ b. chosen b r) (sym e)
finish false m r q e f = refl

choice : (types : Types) (ts : Terms) (c w k : Rational) (strict : Bool) (d : Bool) → 0 < length ts → is_sized (record { terms = ts; rest = c }) ≡ true → w ≡ factor ts → Some k ≡ exact_product w c → d ≡ are_whole types ts → tightened types (claim_of ts c strict) ≡ row_choice true d (WholeRow w ts c strict) (ExactRow w ts c strict)
choice types ts c w k strict d h z e f g = row_of types ts c w strict h z e ∙ ap₂ (λ p d. row_choice p d (WholeRow w ts c strict) (ExactRow w ts c strict)) (made_fits w c k f) (sym g)

pub lost_whole : (types : Types) (ts : Terms) (c w k : Rational) (strict d : Bool) → 0 < length ts → is_sized (record { terms = ts; rest = c }) ≡ true → w ≡ factor ts → Some k ≡ exact_product w c → d ≡ are_whole types ts → d ≡ true → None ≡ narrow_value (rounded strict k) → None ≡ tightened types (claim_of ts c strict)
lost_whole types ts c w k strict d h z e f g i n = sym (choice types ts c w k strict d h z e f g ∙ ap (λ d. row_choice true d (WholeRow w ts c strict) (ExactRow w ts c strict)) i ∙ not_chosen (are_narrow (WholeRow w ts c strict).terms) (is_narrow (rounded strict (w *ʳ c))) (WholeRow w ts c strict) (ap (λ x. is_narrow (rounded strict x)) (sym (exact_product_some w c k f)) ∙ narrow_lost (rounded strict k) n))

pub lost_exact : (types : Types) (ts : Terms) (c w k : Rational) (strict d : Bool) (m : ℤ) → 0 < length ts → is_sized (record { terms = ts; rest = c }) ≡ true → w ≡ factor ts → Some k ≡ exact_product w c → d ≡ are_whole types ts → d ≡ false → m ≡ k.num → None ≡ narrow_value m → None ≡ tightened types (claim_of ts c strict)
lost_exact types ts c w k strict d m h z e f g i j n = sym (choice types ts c w k strict d h z e f g ∙ ap (λ d. row_choice true d (WholeRow w ts c strict) (ExactRow w ts c strict)) i ∙ not_chosen (are_narrow (ExactRow w ts c strict).terms) (is_narrow (w *ʳ c).num) (ExactRow w ts c strict) (ap (λ (x : Rational). is_narrow x.num) (sym (exact_product_some w c k f)) ∙ ap is_narrow (sym j) ∙ narrow_lost m n))

pub made_whole : (types : Types) (ts : Terms) (c w k : Rational) (strict d : Bool) (r : ℤ) (o : Option Row) → 0 < length ts → is_sized (record { terms = ts; rest = c }) ≡ true → w ≡ factor ts → Some k ≡ exact_product w c → d ≡ are_whole types ts → d ≡ true → Some r ≡ narrow_value (rounded strict k) → o ≡ cond (are_narrow (whole_terms (ratio (pos 1) 1 *ʳ w) ts)) (Some (record { terms = whole_terms (ratio (pos 1) 1 *ʳ w) ts; rest = r; strict = false })) None → o ≡ tightened types (claim_of ts c strict)
made_whole types ts c w k strict d r o h z e f g i n x =
    let p = exact_product_some w c k f in
    let q = narrow_found (rounded strict k) r n in
    x ∙ finish (are_narrow (whole_terms (ratio (pos 1) 1 *ʳ w) ts)) (is_narrow (rounded strict (w *ʳ c))) (WholeRow w ts c strict) (record { terms = whole_terms (ratio (pos 1) 1 *ʳ w) ts; rest = r; strict = false }) (ap (λ x. is_narrow (rounded strict x)) (sym p) ∙ q.0) (ap (λ z. record { terms = whole_terms (ratio (pos 1) 1 *ʳ w) ts; rest = z; strict = false }) (q.1 ∙ ap (λ x. rounded strict x) p))
    ∙ sym (choice types ts c w k strict d h z e f g ∙ ap (λ d. row_choice true d (WholeRow w ts c strict) (ExactRow w ts c strict)) i)

pub made_exact : (types : Types) (ts : Terms) (c w k : Rational) (strict d : Bool) (m s r : ℤ) (o : Option Row) → 0 < length ts → is_sized (record { terms = ts; rest = c }) ≡ true → w ≡ factor ts → Some k ≡ exact_product w c → d ≡ are_whole types ts → d ≡ false → m ≡ k.num → s ≡ pos k.den → Some r ≡ narrow_value m → o ≡ cond (are_narrow (whole_terms (ratio s 1 *ʳ w) ts)) (Some (record { terms = whole_terms (ratio s 1 *ʳ w) ts; rest = r; strict = strict })) None → o ≡ tightened types (claim_of ts c strict)
made_exact types ts c w k strict d m s r o h z e f g i j l n x =
    let p = exact_product_some w c k f in
    let q = narrow_found m r n in
    let y : s ≡ pos (w *ʳ c).den = l ∙ ap (λ (x : Rational). pos x.den) p in
    let v : r ≡ (w *ʳ c).num = q.1 ∙ j ∙ ap (λ (x : Rational). x.num) p in
    x ∙ ap (λ s. cond (are_narrow (whole_terms (ratio s 1 *ʳ w) ts)) (Some (record { terms = whole_terms (ratio s 1 *ʳ w) ts; rest = r; strict = strict })) None) y
    ∙ finish (are_narrow (ExactRow w ts c strict).terms) (is_narrow (w *ʳ c).num) (ExactRow w ts c strict) (record { terms = (ExactRow w ts c strict).terms; rest = r; strict = strict }) (ap is_narrow (sym v) ∙ ap is_narrow q.1 ∙ q.0) (ap (λ z. record { terms = (ExactRow w ts c strict).terms; rest = z; strict = strict }) v)
    ∙ sym (choice types ts c w k strict d h z e f g ∙ ap (λ d. row_choice true d (WholeRow w ts c strict) (ExactRow w ts c strict)) i)

-- ---- Without terms, and if a number of the claim overflows

pub too_large : (types : Types) (a : Lin) (strict : Bool) → is_sized a ≡ false → None ≡ tightened types (record { left = a; strict = strict })
unfolding tightened
too_large types a strict e = rw e

pub sized_terms : (ts : Terms) (c : Rational) → is_sized (record { terms = ts; rest = c }) ≡ true → all_fit ts ≡ true
unfolding is_sized
sized_terms ts c h = go (fits c) h
  where
    go : (b : Bool) → (b && all_fit ts) ≡ true → all_fit ts ≡ true
    go true h = h
    go false h = absurd (cc)

pub sized_rest : (ts : Terms) (c : Rational) → is_sized (record { terms = ts; rest = c }) ≡ true → fits c ≡ true
unfolding is_sized
sized_rest ts c h = go (fits c) h
  where
    go : (b : Bool) → (b && all_fit ts) ≡ true → b ≡ true
    go true h = refl
    go false h = absurd (cc)

sign_narrow : (z : ℤ) → is_narrow (sign_of z) ≡ true
sign_narrow (pos zero) = refl
sign_narrow (pos (suc n)) = refl
sign_narrow (negsuc n) = refl

pub constant_row : (types : Types) (ts : Terms) (c : Rational) (strict : Bool) (r : ℤ) → length ts ≡ 0 → is_sized (record { terms = ts; rest = c }) ≡ true → r ≡ sign_of c.num → Some (record { terms = []; rest = r; strict = strict }) ≡ tightened types (claim_of ts c strict)
unfolding tightened
constant_row types [] c strict r h z e = ap (λ r. Some (record { terms = []; rest = r; strict = strict })) e ∙ ap₂ (λ a b. cond (a && b) (Some (record { terms = []; rest = sign_of c.num; strict = strict })) None) (sym z) (sym (sign_narrow c.num))
constant_row types (t ∷ ts) c strict r h z e = absurd (omega arith)

pub ok_then : {A : Type 0} {E : Type 0} (r : Result A E) (P Q : A → Type 0) → ((a : A) → P a → Q a) → IfOk r P → IfOk r Q
ok_then (Ok a) P Q f h = f a h
ok_then (Err e) P Q f h = h

pub sign_lost : (c : Rational) (m : ℤ) (P : Type 0) → m ≡ sign_of c.num → None ≡ narrow_value m → P
sign_lost c m P e h = absurd (let k = sym (narrow_lost m h) ∙ ap is_narrow e ∙ sign_narrow c.num in cc)

pub sign_found : (c : Rational) (m r : ℤ) → m ≡ sign_of c.num → Some r ≡ narrow_value m → r ≡ sign_of c.num
sign_found c m r e h = (narrow_found m r h).1 ∙ e

pub empty_row : (ts : List (ℕ × ℤ)) (r : ℤ) (strict : Bool) → ts ≡ [] → ◌≡◌ {A = Option Row} (Some (record { terms = ts; rest = r; strict = strict })) (Some (record { terms = []; rest = r; strict = strict }))
empty_row ts r strict e = ap (λ ts. Some (record { terms = ts; rest = r; strict = strict })) e
