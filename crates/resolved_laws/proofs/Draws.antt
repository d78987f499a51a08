-- The parts of a draw without findings fit its variable, and the formula of a flip is a
-- probability.
use Rattle.heylo_formula.proofs.exported.Plain.{finite_plain}
use Rattle.heylo_formula.specs.Formula.{Form}
use Rattle.heylo_formula.specs.NumericVariables.{has_variable}
use Rattle.heylo_formula.specs.Typing.NumberType.{eureal, int, uint, ureal}
use Rattle.heylo_formula.specs.Typing.{NumberType, TermFits, Types, constant_type, fits, is_finite_type, is_unsigned, number_type, type_of}
use Rattle.heylo_formula.specs.declared.types.Ty.{Ty}
use Rattle.heyvl_acts.specs.Rules.{Each}
use Rattle.heyvl_acts.specs.Tosses.{flip_parts}
use Rattle.heyvl_acts.specs.WellTypedActs.{DrawFits, IsProbability, PartsFit}
use Rattle.heyvl_num.proofs.exported.Integers.{*ℤ-one}
use Rattle.heyvl_num.proofs.exported.Rationals.{leq_ratio, ratio_den, ratio_nonnegative}
use Rattle.heyvl_num.proofs.exported.Signs.{difference_nonnegative}
use Rattle.heyvl_num.specs.Gcd.{gcd}
use Rattle.heyvl_num.specs.Rational.{Rational, leqʳ, oneʳ, ratio, zeroʳ, ◌≤ʳ◌}
use Rattle.heyvl_num.specs.Value.Value.{finite}
use Rattle.heyvl_syntax.specs.Expressions.{Expression}
use Rattle.heyvl_syntax.specs.Statements.{RightSide}
use Rattle.heyvl_syntax.specs.declared.types.TypeName.{TypeName}
use Rattle.resolved_laws.proofs.RightSides.{RightKept}
use Rattle.resolved_laws.proofs.Types.{NumberFits, choices_fit, number_fits, truth_fits, value_fits}
use Rattle.resolved_laws.proofs.Weights.{probability_small, weight_nonnegative}
use Rattle.static_rules.specs.Literals.{ends_wrong, integer, is_negative, is_probability, is_weight_literal, weight, weight_value}
use Rattle.static_rules.specs.RightSides.{ValueType, flip_wrong, is_probability_type, mismatches, type_of_expression, type_of_meaning}
use Rattle.static_rules.specs.StatementActs.{choose_parts, integer_parts, unif_parts, whole_term}
use Rattle.std.proofs.Common.{Bool, List, None, Option, Some, [], ap, arith, false, negsuc, pos, refl, subst, suc, true, zero, ◌∙◌, ◌∷◌, ◌≡◌, ℕ, ℤ}
use Rattle.std.proofs.Math.Nat.{div-le_self}
use Rattle.std.proofs.lemmas.Bool.{le-leb, not-false}
use Rattle.std.proofs.lemmas.Int.{ints}
use Rattle.std.specs.Int.Signed.{le_z}
use Rattle.std.specs.Prelude.{if◌then◌else◌, unsigned_abs, ◌+ℤ◌, ◌-ℤ◌, ◌||◌}
use Rattle.typed_expressions.proofs.exported.TypedMeanings.{good}
use Rattle.typed_expressions.specs.ExpressionLaws.{Agrees, IsTyped}
use Rattle.typed_expressions.specs.Scopes.{Scope}
use Rattle.typed_expressions.specs.Signatures.{Called}
use Rattle.typed_expressions.specs.Table.{Meaning, declarable, given}
use Rattle.typed_expressions.specs.TypedExpressions.{elaborate}
use Rattle.typed_expressions.specs.Values.{form}

-- ---- Integers

whole_den : (k : ℤ) → (ratio k 1).den ≡ 1
whole_den k = let d = ratio_den k 1 (omega arith) in let p = (ratio k 1).positive in let l = div-le_self 1 (gcd (unsigned_abs k) 1) in omega (arith, d, p, l)

whole_sign : (k : ℤ) → leqʳ zeroʳ (ratio k 1) ≡ le_z (pos 0) k
unfolding zeroʳ
whole_sign k = leq_ratio (pos 0) 1 k 1 (omega arith) (omega arith) ∙ rw (*ℤ-one k) refl

-- An integer from 0 on is a UInt, any other one an Int.
whole_type : (k : ℤ) → constant_type (finite (ratio k 1)) ≡ Some (if le_z (pos 0) k then uint else int)
whole_type k = rw (whole_sign k, whole_den k) (go (le_z (pos 0) k))
  where
    go : (b : Bool) → (if b then Some uint else Some int) ≡ Some (if b then uint else int)
    go true = refl
    go false = refl

uint_fits : (o : Option NumberType) → fits (Some uint) o ≡ true
uint_fits (Some u) = refl
uint_fits None = refl

-- An integer fits a variable whose type is wide enough for the smallest integer of the range.
whole_fits : (types : Types) (ty : Ty) (negative : Bool) (k : ℤ) → (negative ≡ false → le_z (pos 0) k ≡ true) → NumberFits (if negative then int else uint) ty → TermFits types ty (whole_term k)
whole_fits types ty negative k h f = (f.0, rw (whole_type k) (go negative (le_z (pos 0) k) h f.1))
  where
    go : (n b : Bool) → (n ≡ false → b ≡ true) → fits (Some (if n then int else uint)) (number_type ty) ≡ true → fits (Some (if b then uint else int)) (number_type ty) ≡ true
    go n true h f = uint_fits (number_type ty)
    go true false h f = f
    go false false h f = absurd (let i = h refl in cc)

next_natural : (k : ℤ) → le_z (pos 0) k ≡ true → le_z (pos 0) (k +ℤ pos 1) ≡ true
next_natural (pos n) h = le-leb 0 _ (omega arith)
next_natural (negsuc n) h = absurd (cc)

integers_fit : (types : Types) (x : ℕ) (w : Rational) → zeroʳ ≤ʳ w → (negative : Bool) → NumberFits (if negative then int else uint) (types x) → (k : ℤ) (n : ℕ) → (negative ≡ false → le_z (pos 0) k ≡ true) → PartsFit types x (integer_parts w k n)
integers_fit types x w p negative f k zero h = tt
integers_fit types x w p negative f k (suc n) h = ((p, whole_fits types (types x) negative k h f), integers_fit types x w p negative f (k +ℤ pos 1) n (λ e. next_natural k (h e)))

unif_fits : (types : Types) (x : ℕ) (a b : Option ℤ) → ends_wrong a b ≡ false → NumberFits (if is_negative a then int else uint) (types x) → DrawFits types x (unif_parts a b)
unif_fits types x (Some a) (Some b) h f =
    integers_fit types x _ (ratio_nonnegative (pos 1) (suc (unsigned_abs (b -ℤ a))) (omega arith) (omega (arith, ints))) (is_negative (Some a)) f a (suc (unsigned_abs (b -ℤ a))) (λ e. not-false (le_z (pos 0) a) e)
unif_fits types x (Some a) None h f = absurd (cc)
unif_fits types x None b h f = absurd (cc)

-- ---- Draws and flips

-- A formula of a finite type has no binder.
finite_probability : (types : Types) (a : Form) (t : NumberType) → type_of types a ≡ Some t → is_unsigned (Some t) ≡ true → is_finite_type (Some t) ≡ true → has_variable a ≡ false → IsProbability types a
finite_probability types a t e u f v = let k = ap is_finite_type e ∙ f in ((ap is_unsigned e ∙ u, finite_plain types a k), (k, v))

probability_meant : (types : Types) (o : Option Meaning) → ((m : Meaning) → o ≡ Some m → IsTyped types m) → is_probability_type (given o type_of_meaning) ≡ true → has_variable (form o) ≡ false → IsProbability types (form o)
probability_meant types None i h v = absurd (cc)
probability_meant types (Some (Meaning.truth g)) i h v = absurd (cc)
probability_meant types (Some (Meaning.number uint a)) i h v = finite_probability types a uint (i (Meaning.number uint a) refl) refl refl v
probability_meant types (Some (Meaning.number ureal a)) i h v = finite_probability types a ureal (i (Meaning.number ureal a) refl) refl refl v
probability_meant types (Some (Meaning.number int a)) i h v = absurd (cc)
probability_meant types (Some (Meaning.number eureal a)) i h v = absurd (cc)
probability_meant types (Some Meaning.real) i h v = absurd (cc)

module _ (types : Types) (c : Called) (n : ℕ) (sc : Scope) (g : Agrees types n sc) (x : ℕ) (t : TypeName) (d : declarable t ≡ Some (types x)) where
  choices_parts : (ps : List (Expression × Expression)) → Each (λ p. mismatches (type_of_expression n sc p.1) t ≡ false) ps → PartsFit types x (choose_parts n sc ps)
  choices_parts [] h = tt
  choices_parts (p ∷ ps) h = ((weight_nonnegative p.0, value_fits types n sc g p.1 t (types x) d h.0), choices_parts ps h.1)

  -- The target of a flip is a Bool, and its probability is a weight literal or of the right type.
  flip_target : (b : Bool) → mismatches (if b then Some ValueType.truth else None) t ≡ false → (types x ≡ Ty.Bool) × (b ≡ true)
  flip_target true m = (truth_fits t (types x) d m, refl)
  flip_target false m = absurd (cc)

  pub flip_drawn : (p : Expression) → is_weight_literal (weight p) ≡ true → RightKept c n sc (Some t ∷ []) (RightSide.flip p) → DrawFits types x (flip_parts (weight_value (weight p)))
  flip_drawn p l k =
      let b = (flip_target (is_weight_literal (weight p) || is_probability_type (type_of_expression n sc p)) k.matches).0 in
      let w = subst (λ r. flip_wrong r (is_probability (weight p)) (has_variable (form (elaborate n sc p))) ≡ false) l k.literals in
      ((weight_nonnegative p, (b, refl)), (((difference_nonnegative (weight_value (weight p)) oneʳ).1 (probability_small (weight p) w k.divisors), (b, refl)), tt))

  pub flip_tossed : (p : Expression) → is_weight_literal (weight p) ≡ false → RightKept c n sc (Some t ∷ []) (RightSide.flip p) → (types x ≡ Ty.Bool) × IsProbability types (form (elaborate n sc p))
  flip_tossed p l k =
      let b = flip_target (is_weight_literal (weight p) || is_probability_type (type_of_expression n sc p)) k.matches in
      let y = subst (λ r. (r || is_probability_type (type_of_expression n sc p)) ≡ true) l b.1 in
      let v = subst (λ r. flip_wrong r (is_probability (weight p)) (has_variable (form (elaborate n sc p))) ≡ false) l k.literals in
      (b.0, probability_meant types (elaborate n sc p) (λ m i. (good types n sc g p m i).typed) y v)

  pub unif_drawn : (a b : Expression) → RightKept c n sc (Some t ∷ []) (RightSide.unif a b) → DrawFits types x (unif_parts (integer a) (integer b))
  unif_drawn a b k = unif_fits types x (integer a) (integer b) k.literals (number_fits t (types x) (if is_negative (integer a) then int else uint) d k.matches)

  pub choose_drawn : (ps : List (Expression × Expression)) → RightKept c n sc (Some t ∷ []) (RightSide.choose ps) → DrawFits types x (choose_parts n sc ps)
  choose_drawn [] k = absurd (let m = k.matches in cc)
  choose_drawn (p ∷ ps) k = choices_parts (p ∷ ps) (choices_fit n sc p ps t k.matches)
