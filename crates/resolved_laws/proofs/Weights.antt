-- The weights of a draw without findings are not negative and sum to 1.
use Rattle.heylo_formula.specs.Formula.{Term}
use Rattle.heyvl_acts.proofs.exported.Tosses.{flips_weigh}
use Rattle.heyvl_acts.specs.Acts.{Variable}
use Rattle.heyvl_acts.specs.Rules.{WeighsOne}
use Rattle.heyvl_num.proofs.exported.Rationals.{+ʳ-zero, +ʳ_assoc, zero-+ʳ, ratio-+, ratio_nonnegative, ratio_same, ≤ʳ_antisym, ≤ʳ_refl}
use Rattle.heyvl_num.proofs.exported.WeightedSums.{total_weight-cons, total_weight-empty}
use Rattle.heyvl_num.specs.Rational.{Rational, leqʳ, oneʳ, ratio, zeroʳ, ◌+ʳ◌, ◌<ʳ◌, ◌≤ʳ◌}
use Rattle.heyvl_num.specs.Value.{is_zero_num}
use Rattle.heyvl_num.specs.WeightedSums.{total_weight}
use Rattle.heyvl_places.specs.declared.spans.Span.{Span}
use Rattle.heyvl_syntax.specs.Expressions.{Expression}
use Rattle.heyvl_syntax.specs.Statements.{RightSide, Statement}
use Rattle.heyvl_syntax.specs.declared.literals.Lit.{Lit}
use Rattle.heyvl_syntax.specs.declared.operators.BinaryOp.{BinaryOp}
use Rattle.heyvl_syntax.specs.declared.types.TypeName.{TypeName}
use Rattle.resolved_laws.proofs.Flips.{of_flip}
use Rattle.resolved_laws.proofs.RightSides.{RightKept, assign_kept, var_kept}
use Rattle.resolved_laws.proofs.Walk.{Alone, Locally}
use Rattle.static_rules.specs.Literals.{ends_wrong, integer, is_over_zero, is_probability, is_step, is_too_wide, is_usable, literal_quotient, sums_wrong, weigh_wrong, weight, weight_of_quotient, weight_of_value, weight_value}
use Rattle.static_rules.specs.RightSides.{weights}
use Rattle.static_rules.specs.StatementActs.{assigned, choose_parts, first_or_zero, havocs, integer_parts, targets, unif_parts}
use Rattle.static_rules.specs.declared.settings.Setting.{Setting}
use Rattle.static_rules.specs.declared.weights.Weight.TheVariants.{NotLiteral, OverZero, TooWide, Value}
use Rattle.static_rules.specs.declared.weights.Weight.{Weight}
use Rattle.std.proofs.Common.{Bool, List, None, Option, Some, [], ap, arith, false, negsuc, pos, refl, suc, sym, true, zero, ◌*◌, ◌<◌, ◌^◌, ◌∙◌, ◌∷◌, ◌≡◌, ℕ, ℤ}
use Rattle.std.proofs.Math.Nat.{mul-pos}
use Rattle.std.proofs.lemmas.Bool.{and_parts, not-false, not-true, or_parts}
use Rattle.std.proofs.lemmas.Int.{ints}
use Rattle.std.specs.Int.Signed.{le_z}
use Rattle.std.specs.List.{list_any}
use Rattle.std.specs.Prelude.{if◌then◌else◌, length, nat_lt, not, unsigned_abs, ◌&&◌, ◌+ℤ◌, ◌*ℤ◌, ◌-ℤ◌, ◌||◌, ◌≤ℤ◌}
use Rattle.typed_expressions.proofs.exported.LiteralFractions.{power_positive}
use Rattle.typed_expressions.proofs.exported.TypedMeanings.{literal_nonnegative}
use Rattle.typed_expressions.specs.LiteralValues.{is_written, is_zero_literal, literal_value}
use Rattle.typed_expressions.specs.Scopes.{Scope, types_of_names}
use Rattle.typed_expressions.specs.Signatures.{Called}
use Rattle.typed_expressions.specs.TypedExpressions.{elaborate}
use Rattle.typed_expressions.specs.Values.{term}

-- ---- Weights

value_of_small : (q : Rational) → zeroʳ ≤ʳ q → zeroʳ ≤ʳ weight_value (weight_of_value q)
value_of_small q h = go (is_too_wide q)
  where
    go : (b : Bool) → zeroʳ ≤ʳ weight_value (if b then TooWide else Value q)
    go true = ≤ʳ_refl zeroʳ
    go false = h

natural : (d : ℤ) (n : ℕ) → le_z (pos 0) d ≡ true → pos 0 ≤ℤ (d *ℤ pos n)
natural (pos d) n h = omega (arith, ints)
natural (negsuc d) n h = absurd (cc)

quotient_nonnegative : (n m : Lit) → le_z (pos 0) n.digits ≡ true → is_zero_literal m ≡ false → zeroʳ ≤ʳ literal_quotient n m
unfolding literal_quotient
quotient_nonnegative n m h z = ratio_nonnegative (n.digits *ℤ pos (10 ^ m.places)) (10 ^ n.places * unsigned_abs m.digits) (mul-pos (power_positive n.places) (above m.digits z)) (natural n.digits (10 ^ m.places) h)
  where
    above : (d : ℤ) → is_zero_num d ≡ false → 0 < unsigned_abs d
    above (pos zero) e = absurd (cc)
    above (pos (suc d)) e = omega arith
    above (negsuc d) e = omega arith

pub weight_nonnegative : (e : Expression) → zeroʳ ≤ʳ weight_value (weight e)
weight_nonnegative (Expression.number n s) = go (is_written n) refl
  where
    go : (b : Bool) → is_written n ≡ b → zeroʳ ≤ʳ weight_value (if b then weight_of_value (literal_value n) else NotLiteral)
    go true h = value_of_small (literal_value n) (record { holds = literal_nonnegative n (and_parts (le_z (pos 0) n.digits) _ h).0 })
    go false h = ≤ʳ_refl zeroʳ
weight_nonnegative (Expression.binary BinaryOp.Slash (Expression.number n s) (Expression.number m t) u) = go (is_written n && is_written m) refl
  where
    quotient : (b : Bool) → is_zero_literal m ≡ b → le_z (pos 0) n.digits ≡ true → zeroʳ ≤ʳ weight_value (if b then OverZero else weight_of_value (literal_quotient n m))
    quotient true z h = ≤ʳ_refl zeroʳ
    quotient false z h = value_of_small (literal_quotient n m) (quotient_nonnegative n m h z)

    go : (b : Bool) → (is_written n && is_written m) ≡ b → zeroʳ ≤ʳ weight_value (if b then weight_of_quotient n m else NotLiteral)
    go true h = quotient (is_zero_literal m) refl (and_parts (le_z (pos 0) n.digits) _ (and_parts (is_written n) (is_written m) h).0).0
    go false h = ≤ʳ_refl zeroʳ
weight_nonnegative e = ≤ʳ_refl zeroʳ

pub step_above : (w : Weight) → not (is_step w) ≡ false → is_over_zero w ≡ false → zeroʳ <ʳ weight_value w
step_above NotLiteral h z = absurd (cc)
step_above OverZero h z = absurd (cc)
step_above TooWide h z = absurd (cc)
step_above (Value q) h z = record { holds = not-true (leqʳ q zeroʳ) (not-false _ h) }

pub probability_small : (w : Weight) → not (is_probability w) ≡ false → is_over_zero w ≡ false → weight_value w ≤ʳ oneʳ
probability_small NotLiteral h z = absurd (cc)
probability_small OverZero h z = absurd (cc)
probability_small TooWide h z = absurd (cc)
probability_small (Value q) h z = record { holds = not-false (leqʳ q oneʳ) h }

-- ---- Sums

one_more : (n d : ℕ) → 0 < d → ratio (pos 1) d +ʳ ratio (pos n) d ≡ ratio (pos (suc n)) d
one_more n d h = ratio-+ (pos 1) d (pos n) d h h ∙ ratio_same _ (d * d) (pos (suc n)) d (mul-pos h h) h (omega (arith, ints))

zero_over : (d : ℕ) → 0 < d → zeroʳ ≡ ratio (pos 0) d
unfolding zeroʳ
zero_over d h = ratio_same (pos 0) 1 (pos 0) d (omega arith) h (omega (arith, ints))

integers_sum : (d : ℕ) → 0 < d → (a : ℤ) (n : ℕ) → total_weight (integer_parts (ratio (pos 1) d) a n) ≡ ratio (pos n) d
integers_sum d h a zero = total_weight-empty Term ∙ zero_over d h
integers_sum d h a (suc n) = total_weight-cons (ratio (pos 1) d) _ _ ∙ ap (λ x. ratio (pos 1) d +ʳ x) (integers_sum d h (a +ℤ pos 1) n) ∙ one_more n d h

whole_one : (d : ℕ) → 0 < d → ratio (pos d) d ≡ oneʳ
unfolding oneʳ
whole_one d h = ratio_same (pos d) d (pos 1) 1 h (omega arith) (omega (arith, ints))

unif_one : (a b : Option ℤ) → ends_wrong a b ≡ false → total_weight (unif_parts a b) ≡ oneʳ
unif_one (Some a) (Some b) h = integers_sum (suc (unsigned_abs (b -ℤ a))) (omega arith) a (suc (unsigned_abs (b -ℤ a))) ∙ whole_one (suc (unsigned_abs (b -ℤ a))) (omega arith)
unif_one (Some a) None h = absurd (cc)
unif_one None b h = absurd (cc)

module _ (n : ℕ) (sc : Scope) where
  sums_one : (sum : Rational) (ps : List (Expression × Expression)) → sums_wrong sum (weights ps) ≡ false → sum +ʳ total_weight (choose_parts n sc ps) ≡ oneʳ
  sums_one sum [] h =
      let q = and_parts (leqʳ sum oneʳ) (leqʳ oneʳ sum) (not-false _ h) in
      ap (λ x. sum +ʳ x) (total_weight-empty Term) ∙ +ʳ-zero sum ∙ ≤ʳ_antisym sum oneʳ (record { holds = q.0 }) (record { holds = q.1 })
  sums_one sum (p ∷ ps) h =
      ap (λ x. sum +ʳ x) (total_weight-cons (weight_value (weight p.0)) (term (elaborate n sc p.1)) (choose_parts n sc ps))
      ∙ sym (+ʳ_assoc sum (weight_value (weight p.0)) (total_weight (choose_parts n sc ps)))
      ∙ sums_one (sum +ʳ weight_value (weight p.0)) ps (or_parts (is_too_wide (sum +ʳ weight_value (weight p.0))) _ h).1

  choose_one : (ps : List (Expression × Expression)) → weigh_wrong (weights ps) ≡ false → list_any is_over_zero (weights ps) ≡ false → total_weight (choose_parts n sc ps) ≡ oneʳ
  choose_one ps h z =
      let q = (or_parts (list_any (λ w. not (is_usable w)) (weights ps) || nat_lt 16 (length (weights ps))) _ h).1 in
      sym (zero-+ʳ _) ∙ sums_one zeroʳ ps (rest (list_any is_over_zero (weights ps)) (sums_wrong zeroʳ (weights ps)) z q)
    where
      rest : (a b : Bool) → a ≡ false → (not a && b) ≡ false → b ≡ false
      rest true b z q = absurd (cc)
      rest false b z q = q

-- ---- Acts

weighs_assigned : (c : Called) (n : ℕ) (sc : Scope) (xs : List ℕ) (ts : List (Option TypeName)) (r : RightSide) (s : Span) → RightKept c n sc ts r → WeighsOne (assigned c n sc xs r s)
weighs_assigned c n sc xs ts (RightSide.plain e) s k = tt
weighs_assigned c n sc xs ts (RightSide.flip p) s k = of_flip WeighsOne n sc (first_or_zero xs) p s (flips_weigh (weight_value (weight p))) tt
weighs_assigned c n sc xs ts (RightSide.unif a b) s k = unif_one (integer a) (integer b) k.literals
weighs_assigned c n sc xs ts (RightSide.choose parts) s k = choose_one n sc parts k.literals k.divisors
weighs_assigned c n sc xs ts (RightSide.call f es) s k = tt

weighs_havocs : (sc : Scope) (co : Bool) (xs : List (List ℕ)) (s : Span) → Alone WeighsOne (havocs sc co xs s)
weighs_havocs sc co [] s = tt
weighs_havocs sc co (x ∷ xs) s = (tt, weighs_havocs sc co xs s)

pub weighs : (vs : List Variable) (h : Setting) (c : Called) → Locally vs h c WeighsOne
weighs vs h c bound n m sc (Statement.var x t None s) k l e = (tt, tt)
weighs vs h c bound n m sc (Statement.var x t (Some r) s) k l e = (weighs_assigned c n sc (n ∷ []) (Some t ∷ []) r s (var_kept h c n sc bound x t r s e), tt)
weighs vs h c bound n m sc (Statement.assign xs r s) k l e = (weighs_assigned c n sc (targets sc xs) (types_of_names sc xs) r s (assign_kept h c n sc bound xs r s e), tt)
weighs vs h c bound n m sc (Statement.check kind a s) k l e = (tt, tt)
weighs vs h c bound n m sc (Statement.validate co s) k l e = (tt, tt)
weighs vs h c bound n m sc (Statement.havoc co xs s) k l e = weighs_havocs sc co xs s
weighs vs h c bound n m sc (Statement.reward a s) k l e = (tt, tt)
weighs vs h c bound n m sc (Statement.branch arms other s) k l e = (tt, tt)
weighs vs h c bound n m sc (Statement.pick up a b s) k l e = (tt, tt)
weighs vs h c bound n m sc (Statement.loop rules g b s) k l e = (tt, tt)
