-- A weight literal without a static error means its weight.
use Rattle.heylo_formula.specs.Formula.{Form}
use Rattle.heylo_formula.specs.Operators.{finite_part}
use Rattle.heylo_formula.specs.State.{Env}
use Rattle.heylo_formula.specs.Typing.NumberType.{uint, ureal}
use Rattle.heyvl_acts.specs.Tosses.{toss_weight}
use Rattle.heyvl_num.proofs.exported.Rationals.{*ʳ_comm, ratio-*}
use Rattle.heyvl_num.specs.Rational.{Rational, leqʳ, oneʳ, ◌*ʳ◌}
use Rattle.heyvl_num.specs.Value.Value.{finite}
use Rattle.heyvl_num.specs.Value.{is_zero_num, leqᵛ, oneᵛ, ◌*ᵛ◌}
use Rattle.heyvl_num.specs.ValueOperators.{minᵛ}
use Rattle.heyvl_places.specs.declared.spans.Span.{Span}
use Rattle.heyvl_syntax.specs.Expressions.{Expression}
use Rattle.heyvl_syntax.specs.declared.literals.Lit.{Lit}
use Rattle.heyvl_syntax.specs.declared.operators.BinaryOp.TheVariants as ops
use Rattle.heyvl_syntax.specs.declared.operators.BinaryOp.{BinaryOp}
use Rattle.static_rules.specs.Literals.{is_over_zero, is_probability, is_too_wide, is_weight_literal, literal_quotient, weight, weight_of_quotient, weight_of_value, weight_value}
use Rattle.std.proofs.Common.{Bool, ap, arith, false, inl, inr, negsuc, pos, refl, suc, true, zero, ◌+◌, ◌<◌, ◌^◌, ◌∙◌, ◌≡◌, ◌≤◌, ◌⊎◌, ℕ, ℤ}
use Rattle.std.proofs.Math.Nat.{pow-suc}
use Rattle.std.proofs.lemmas.Bool.{and_parts}
use Rattle.std.specs.Prelude.{if◌then◌else◌, unsigned_abs, ◌&&◌, ◌==◌}
use Rattle.typed_expressions.specs.LiteralValues.{inverse_value, is_written, is_zero_literal, literal_value}
use Rattle.typed_expressions.specs.Scopes.{Scope}
use Rattle.typed_expressions.specs.Table.{Meaning, quotient}
use Rattle.typed_expressions.specs.TypedExpressions.{elaborate}
use Rattle.typed_expressions.specs.Values.{form}

chosen : {A : Type 0} (P : A → Type 0) (b : Bool) (x y : A) → P (if b then x else y) → ((b ≡ true) × P x) ⊎ ((b ≡ false) × P y)
chosen P true x y h = inl (refl, h)
chosen P false x y h = inr (refl, h)

-- If a number is at most 1, it is the smaller one of itself and 1.
smaller : (q : Rational) → leqʳ q oneʳ ≡ true → finite_part (minᵛ (finite q) oneᵛ) ≡ q
unfolding minᵛ leqᵛ oneᵛ
smaller q h = rw h refl

-- ---- Literals

of_value : (q : Rational) → is_probability (weight_of_value q) ≡ true → finite_part (minᵛ (finite q) oneᵛ) ≡ weight_value (weight_of_value q)
of_value q h = go (chosen (λ w. is_probability w ≡ true) (is_too_wide q) _ _ h)
  where
    go : ((is_too_wide q ≡ true) × (false ≡ true)) ⊎ ((is_too_wide q ≡ false) × (leqʳ q oneʳ ≡ true)) → finite_part (minᵛ (finite q) oneᵛ) ≡ weight_value (weight_of_value q)
    go (inl k) = absurd (let e = k.1 in cc)
    go (inr k) = rw k.0 (smaller q k.1)

up : (d n m : ℕ) → d + n ≡ m → 10 ^ n ≤ 10 ^ m
up zero n m e = let q : n ≡ m = omega (arith, e) in rw q (omega arith)
up (suc d) n zero e = absurd (omega (arith, e))
up (suc d) n (suc m) e = let h = up d n m (omega (arith, e)) in let p = pow-suc 10 m in omega (arith, h, p)

power_positive : (n : ℕ) → 0 < 10 ^ n
power_positive n = let u = up n 0 n (omega arith) in let k : 10 ^ 0 ≡ 1 = refl in omega (arith, u, k)

nonzero : (d : ℤ) → is_zero_num d ≡ false → 0 < unsigned_abs d
nonzero (pos zero) h = absurd (cc)
nonzero (pos (suc d)) h = omega arith
nonzero (negsuc d) h = omega arith

quotient_is : (n m : Lit) → 0 < unsigned_abs m.digits → literal_value n *ʳ inverse_value m ≡ literal_quotient n m
unfolding literal_value inverse_value literal_quotient
quotient_is n m p = ratio-* n.digits (10 ^ n.places) (pos (10 ^ m.places)) (unsigned_abs m.digits) (power_positive n.places) p

product_is : (x y : Rational) → finite x *ᵛ finite y ≡ finite (y *ʳ x)
unfolding ◌*ᵛ◌
product_is x y = ap finite (*ʳ_comm x y)

-- One literal divided by another, of either type.
divided : (q w : Rational) (b : Bool) (s : Env) → toss_weight (form (quotient q (Meaning.number (if b then uint else ureal) (Form.number (finite w))))) s ≡ finite_part (minᵛ (finite (w *ʳ q)) oneᵛ)
divided q w true s = ap (λ v. finite_part (minᵛ v oneᵛ)) (product_is q w)
divided q w false s = ap (λ v. finite_part (minᵛ v oneᵛ)) (product_is q w)

-- The conditions that a weight without a static error satisfies.
abbrev pub Likely : Expression → Type 0
Likely p = (is_probability (weight p) ≡ true) × (is_over_zero (weight p) ≡ false)

-- The expression means its weight.
abbrev pub MeansItsWeight : Expression → Scope → Env → Type 0
MeansItsWeight p sc s = toss_weight (form (elaborate 0 sc p)) s ≡ weight_value (weight p)

number_chance : (n : Lit) (u : Span) (sc : Scope) (s : Env) → is_weight_literal (weight (Expression.number n u)) ≡ true → is_probability (weight (Expression.number n u)) ≡ true → toss_weight (form (elaborate 0 sc (Expression.number n u))) s ≡ weight_value (weight (Expression.number n u))
number_chance n u sc s l h = go (chosen (λ w. (is_weight_literal w ≡ true) × (is_probability w ≡ true)) (is_written n) _ _ (l, h))
  where
    go : ((is_written n ≡ true) × ((is_weight_literal (weight_of_value (literal_value n)) ≡ true) × (is_probability (weight_of_value (literal_value n)) ≡ true))) ⊎ ((is_written n ≡ false) × ((false ≡ true) × (false ≡ true))) → toss_weight (form (elaborate 0 sc (Expression.number n u))) s ≡ weight_value (weight (Expression.number n u))
    go (inl k) = rw k.0 (of_value (literal_value n) k.1.1)
    go (inr k) = absurd (let e = k.1.0 in cc)

quotient_chance : (n m : Lit) (a b u : Span) (sc : Scope) (s : Env) → is_weight_literal (weight (Expression.binary ops.Slash (Expression.number n a) (Expression.number m b) u)) ≡ true → Likely (Expression.binary ops.Slash (Expression.number n a) (Expression.number m b) u)
    → toss_weight (form (elaborate 0 sc (Expression.binary ops.Slash (Expression.number n a) (Expression.number m b) u))) s ≡ weight_value (weight (Expression.binary ops.Slash (Expression.number n a) (Expression.number m b) u))
quotient_chance n m a b u sc s l h = written (chosen (λ w. (is_weight_literal w ≡ true) × ((is_probability w ≡ true) × (is_over_zero w ≡ false))) (is_written n && is_written m) _ _ (l, h))
  where
    nonzero_divisor : (is_written n ≡ true) × (is_written m ≡ true) → ((is_zero_literal m ≡ true) × ((true ≡ true) × (true ≡ false))) ⊎ ((is_zero_literal m ≡ false) × ((is_probability (weight_of_value (literal_quotient n m)) ≡ true) × (is_over_zero (weight_of_value (literal_quotient n m)) ≡ false))) → MeansItsWeight (Expression.binary ops.Slash (Expression.number n a) (Expression.number m b) u) sc s
    nonzero_divisor w (inl k) = absurd (let e = k.1.1 in cc)
    nonzero_divisor w (inr k) = rw (w.0, w.1, k.0, w.1) (divided (inverse_value m) (literal_value n) ((literal_value n).den == 1) s ∙ (ap (λ q. finite_part (minᵛ (finite q) oneᵛ)) (quotient_is n m (nonzero m.digits k.0)) ∙ of_value (literal_quotient n m) k.1.0))

    written : (((is_written n && is_written m) ≡ true) × ((is_weight_literal (weight_of_quotient n m) ≡ true) × ((is_probability (weight_of_quotient n m) ≡ true) × (is_over_zero (weight_of_quotient n m) ≡ false)))) ⊎ (((is_written n && is_written m) ≡ false) × ((false ≡ true) × ((false ≡ true) × (false ≡ false)))) → MeansItsWeight (Expression.binary ops.Slash (Expression.number n a) (Expression.number m b) u) sc s
    written (inl k) = nonzero_divisor (and_parts (is_written n) (is_written m) k.0) (chosen (λ w. (is_probability w ≡ true) × (is_over_zero w ≡ false)) (is_zero_literal m) _ _ k.1.1)
    written (inr k) = absurd (let e = k.1.0 in cc)

pub literal_chance : (p : Expression) (sc : Scope) (s : Env) → is_weight_literal (weight p) ≡ true → Likely p → toss_weight (form (elaborate 0 sc p)) s ≡ weight_value (weight p)
literal_chance (Expression.number n u) sc s l h = number_chance n u sc s l h.0
literal_chance (Expression.binary BinaryOp.Slash (Expression.number n a) (Expression.number m b) u) sc s l h = quotient_chance n m a b u sc s l h
literal_chance p sc s l h = absurd (cc)
