-- Rows of one variable, whose coefficient is 1 or -1, with an integer constant.
use Rattle.std.proofs.Common.{◌≡◌, ℕ, [], ◌∷◌, refl, sym, ap, ap₂, ◌∙◌, subst, arith, lit<, Bool, true, false, cond, ◌&&◌, ◌*◌, ◌/◌, nat_lt, ◌^◌, unsigned_abs, to_z, of_z, FitsSigned}
use Rattle.std.specs.Prelude.{Some, None, ◌≤ℤ◌}
use Rattle.std.proofs.Math.IntN.{ℤ, pos, ◌+ℤ◌}
use Rattle.std.specs.Int.{w128}
use mir.Syntax.{w64}
use borrow.Author.Differences.{ints}
use Rattle.heyvl_num.specs.Gcd.{gcd, gcd_steps}
use Rattle.heyvl_num.specs.Rational.{Rational, ratio, oneʳ, ◌*ʳ◌, ◌≤ʳ◌}
use Rattle.heyvl_num.specs.Rounding.{whole, floorʳ, ceilʳ}
use Rattle.heyvl_num.proofs.exported.Integers.{*ℤ-one}
use Rattle.heyvl_num.proofs.exported.Rationals.{one-*ʳ, cross_order, ≤ʳ_refl}
use Rattle.heyvl_num.proofs.exported.Roundings.{floor-is, ceil-is}
use Rattle.heylo_formula.specs.Typing.{Types}
use Rattle.linear_rows.specs.Row.{Row}
use Rattle.linear_rows.specs.Numbers.{fits}
use Rattle.linear_values.specs.Lin.{is_sized}
use Rattle.linear_rows.specs.Terms.{is_narrow}
use Rattle.linear_values.specs.Tightening.{tightened, rounded, factor, common_multiple, common_divisor}
use Rattle.linear_rows.specs.VariableTypes.{is_integral}
use Rattle.linear_values.specs.Operator.{narrow_value}
use Rattle.linear_values.proofs.Factors.{whole_num}
use Rattle.linear_rows.proofs.exported.Narrow.{seen, product_fits_narrow}
use Rattle.linear_values.proofs.RowParts.{claim_of, row_choice, row_of, unit_factor, WholeRow, ExactRow}
use Rattle.linear_values.proofs.TightRows.{whole_den}

-- ---- Rounding preserves integers

below_of : (a b : ℤ) → whole a ≤ʳ whole b → a ≤ℤ b
below_of a b h = rw (whole_num a, whole_den b, whole_num b, whole_den a, *ℤ-one a, *ℤ-one b) at (cross_order (whole a) (whole b) h)

level : (a b : ℤ) → a ≤ℤ b → b ≤ℤ a → a ≡ b
level a b h k = omega (arith, ints, h, k)

floor_whole : (k : ℤ) → floorʳ (whole k) ≡ k
floor_whole k = level _ _ (below_of _ _ (floor-is (whole k)).at_most) ((floor-is (whole k)).greatest k (≤ʳ_refl (whole k)))

ceil_whole : (k : ℤ) → ceilʳ (whole k) ≡ k
ceil_whole k = level _ _ ((ceil-is (whole k)).least k (≤ʳ_refl (whole k))) (below_of _ _ (ceil-is (whole k)).at_least)

pub rounded_up : (k : ℤ) → k ≡ rounded false (whole k)
rounded_up k = sym (ceil_whole k)

pub rounded_above : (k : ℤ) → k +ℤ pos 1 ≡ rounded true (whole k)
rounded_above k = ap (λ z. z +ℤ pos 1) (sym (floor_whole k))

more : (k : ℤ) → FitsSigned w64 k → FitsSigned w128 (k +ℤ pos 1)
more k h = omega (arith, ints, h)

pub above_seen : (k n : ℤ) → n ≡ k → FitsSigned w64 k → FitsSigned w128 n → to_z w128 (of_z w128 (to_z w128 (of_z w128 n) +ℤ pos 1)) ≡ k +ℤ pos 1
above_seen k n e h f = let s = ap (λ a. a +ℤ pos 1) (seen n k e f) in seen _ _ s (subst (λ (z : ℤ). FitsSigned w128 z) (sym s) (more k h))

-- ---- The row

narrow_fits : (n : ℤ) → is_narrow n ≡ true → fits (whole n) ≡ true
unfolding fits
narrow_fits n e = ap₂ (λ a d. is_narrow a && is_narrow (pos d)) (whole_num n) (whole_den n) ∙ rw e

unit_narrow : (c : ℤ) → unsigned_abs c ≡ 1 → is_narrow c ≡ true
unit_narrow c e = ap (λ n. nat_lt n (2 ^ 62)) e

and_true : (b : Bool) → (b && true) ≡ b
and_true true = refl
and_true false = refl

factor_unit : (x : ℕ) (c : ℤ) → unsigned_abs c ≡ 1 → oneʳ ≡ factor ((x, whole c) ∷ [])
unfolding factor common_multiple common_divisor oneʳ gcd gcd_steps
factor_unit x c e = sym (ap₂ (λ d n. ratio (pos (d * 1 / gcd d 1)) (gcd (n * (d * 1 / gcd d 1 / d)) 0)) (whole_den c) (ap unsigned_abs (whole_num c) ∙ e))

-- The row of `c * x + k`.
abbrev pub unit : ℕ → ℤ → ℤ → Bool → Row
unit x c r strict = record { terms = (x, c) ∷ []; rest = r; strict = strict }

module _ (types : Types) (x : ℕ) (c k : ℤ) (strict : Bool) (e : unsigned_abs c ≡ 1) (h : is_narrow k ≡ true) where
  sized : is_sized (record { terms = (x, whole c) ∷ []; rest = whole k }) ≡ true
  unfolding is_sized
  sized = rw (narrow_fits k h, narrow_fits c (unit_narrow c e))

  one_fits : fits oneʳ ≡ true
  unfolding oneʳ fits ratio gcd gcd_steps
  one_fits = refl

  entry : ((ratio (pos 1) 1 *ʳ oneʳ) *ʳ whole c).num ≡ c
  entry = ap (λ (w : Rational). (w *ʳ whole c).num) (unit_factor oneʳ) ∙ ap (λ (w : Rational). w.num) (one-*ʳ (whole c)) ∙ whole_num c

  whole_is : WholeRow oneʳ ((x, whole c) ∷ []) (whole k) strict ≡ unit x c (rounded strict (whole k)) false
  whole_is = ap₂ (λ c r. unit x c r false) entry (ap (rounded strict) (one-*ʳ (whole k)))

  exact_is : ExactRow oneʳ ((x, whole c) ∷ []) (whole k) strict ≡ unit x c k strict
  exact_is = ap₂ (λ c r. unit x c r strict) (ap (λ d. ((ratio (pos d) 1 *ʳ oneʳ) *ʳ whole c).num) (ap (λ (w : Rational). w.den) (one-*ʳ (whole k)) ∙ whole_den k) ∙ entry) (ap (λ (w : Rational). w.num) (one-*ʳ (whole k)) ∙ whole_num k)

  chosen : (b : Bool) → row_choice true b (unit x c (rounded strict (whole k)) false) (unit x c k strict) ≡ cond b (cond (is_narrow (rounded strict (whole k))) (Some (unit x c (rounded strict (whole k)) false)) None) (Some (unit x c k strict))
  chosen b = ap₂ (λ n m. cond b (cond ((n && true) && is_narrow (rounded strict (whole k))) (Some (unit x c (rounded strict (whole k)) false)) None) (cond ((n && true) && m) (Some (unit x c k strict)) None)) (unit_narrow c e) h

  row_is : tightened types (claim_of ((x, whole c) ∷ []) (whole k) strict) ≡ cond (is_integral (types x)) (cond (is_narrow (rounded strict (whole k))) (Some (unit x c (rounded strict (whole k)) false)) None) (Some (unit x c k strict))
  row_is = row_of types ((x, whole c) ∷ []) (whole k) oneʳ strict (lit< tt) sized (factor_unit x c e)
      ∙ ap₂ (λ p b. row_choice p b (WholeRow oneʳ ((x, whole c) ∷ []) (whole k) strict) (ExactRow oneʳ ((x, whole c) ∷ []) (whole k) strict)) (product_fits_narrow oneʳ (whole k) one_fits (narrow_fits k h)) (and_true (is_integral (types x)))
      ∙ ap₂ (λ r q. row_choice true (is_integral (types x)) r q) whole_is exact_is
      ∙ chosen (is_integral (types x))

  pub unit_lost : (b : Bool) → b ≡ is_integral (types x) → b ≡ true → None ≡ narrow_value (rounded strict (whole k)) → None ≡ tightened types (claim_of ((x, whole c) ∷ []) (whole k) strict)
  unit_lost b f g n = sym (row_is ∙ ap (λ b. cond b (cond (is_narrow (rounded strict (whole k))) (Some (unit x c (rounded strict (whole k)) false)) None) (Some (unit x c k strict))) (sym f ∙ g) ∙ go (is_narrow (rounded strict (whole k))) n)
    where
      go : (m : Bool) → None ≡ cond m (Some (rounded strict (whole k))) None → cond m (Some (unit x c (rounded strict (whole k)) false)) None ≡ None
      go true n = absurd (cc)
      go false n = refl

  pub unit_whole : (b : Bool) (r : ℤ) → b ≡ is_integral (types x) → b ≡ true → Some r ≡ narrow_value (rounded strict (whole k)) → Some (unit x c r false) ≡ tightened types (claim_of ((x, whole c) ∷ []) (whole k) strict)
  unit_whole b r f g n = sym (row_is ∙ ap (λ b. cond b (cond (is_narrow (rounded strict (whole k))) (Some (unit x c (rounded strict (whole k)) false)) None) (Some (unit x c k strict))) (sym f ∙ g) ∙ go (is_narrow (rounded strict (whole k))) n)
    where
      go : (m : Bool) → Some r ≡ cond m (Some (rounded strict (whole k))) None → cond m (Some (unit x c (rounded strict (whole k)) false)) None ≡ Some (unit x c r false)
      go true n = let l : rounded strict (whole k) ≡ r = cc in ap (λ r. Some (unit x c r false)) l
      go false n = absurd (cc)

  pub unit_exact : (b : Bool) → b ≡ is_integral (types x) → b ≡ false → Some (unit x c k strict) ≡ tightened types (claim_of ((x, whole c) ∷ []) (whole k) strict)
  unit_exact b f g = sym (row_is ∙ ap (λ b. cond b (cond (is_narrow (rounded strict (whole k))) (Some (unit x c (rounded strict (whole k)) false)) None) (Some (unit x c k strict))) (sym f ∙ g))
