-- The findings in a `flip` and its act, by whether its probability is a weight literal.
use Rattle.heyvl_acts.specs.Acts.{Act as Plain}
use Rattle.heyvl_acts.specs.PlainActs.{act_of}
use Rattle.heyvl_acts.specs.Tosses.{flip_parts}
use Rattle.heyvl_acts.specs.declared.acts.Act as A
use Rattle.heylo_formula.specs.NumericVariables.{has_variable}
use Rattle.heyvl_places.specs.declared.spans.Span.{Span}
use Rattle.heyvl_syntax.specs.Expressions.{Expression}
use Rattle.heyvl_syntax.specs.Statements.{RightSide}
use Rattle.typed_expressions.specs.Answers.{Gives}
use Rattle.typed_expressions.specs.Findings.{at}
use Rattle.static_rules.specs.Literals.{is_over_zero, is_probability, is_weight_literal, weight, weight_value}
use Rattle.static_rules.specs.RightSides.{ValueType, flip_type, flip_wrong, has_over_zero, literal_wrong, right_findings, right_type, type_of_expression}
use Rattle.typed_expressions.specs.Scopes.{Scope}
use Rattle.static_rules.specs.StatementActs.{assigned, draw_or_toss, first_or_zero}
use Rattle.typed_expressions.specs.Values.{form}
use Rattle.typed_expressions.specs.TypedExpressions.{closed_findings, elaborate}
use Rattle.typed_expressions.specs.declared.demands.Demand.{Demand}
use Rattle.typed_right_sides.specs.declared.right_sides.Targets.{Targets}
use Rattle.typed_expressions.specs.declared.stops.ResolveStop.{ResolveStop}
use Rattle.static_rules.specs.declared.weights.Weight.TheVariants.{NotLiteral, OverZero, TooWide, Value}
use Rattle.static_rules.specs.declared.weights.Weight.{Weight}
use Rattle.typed_right_sides.specs.internal.RightSideRules.{value_rules}
use Rattle.std.proofs.Common.{Bool, Result, Some, [], false, refl, subst, sym, true, ◌++◌, ◌≡◌, ℕ}
use Rattle.std.specs.Prelude.{if◌then◌else◌, not}

no_divisor : (w : Weight) → is_weight_literal w ≡ false → is_over_zero w ≡ false
no_divisor NotLiteral h = refl
no_divisor OverZero h = absurd (cc)
no_divisor TooWide h = refl
no_divisor (Value q) h = refl

module _ (r : Result A.Act ResolveStop) (n : ℕ) (sc : Scope) (t : Targets) (p : Expression) (s : Span) where
  -- The answer on a `flip`. The Booleans say whether its probability is a weight literal, and
  -- whether its divisor is 0.
  abbrev FlipGives : Bool → Bool → Type 0
  FlipGives literal zero = Gives act_of r ((if literal then [] else closed_findings Demand.Any n sc p) ++ at s (value_rules t (flip_type literal (type_of_expression n sc p)) (flip_wrong literal (is_probability (weight p)) (has_variable (form (elaborate n sc p)))) zero)) (draw_or_toss literal (first_or_zero t.numbers.items) (weight_value (weight p)) (form (elaborate n sc p)) s)

  abbrev Given : Type 0
  Given = Gives act_of r (right_findings n sc (RightSide.flip p) ++ at s (value_rules t (right_type n sc (RightSide.flip p)) (literal_wrong n sc (RightSide.flip p)) (has_over_zero (RightSide.flip p)))) (assigned [] n sc t.numbers.items (RightSide.flip p) s)

  pub likely_gives : is_weight_literal (weight p) ≡ true → Gives act_of r (at s (value_rules t (Some ValueType.truth) (not (is_probability (weight p))) (is_over_zero (weight p)))) (Plain.draw (first_or_zero t.numbers.items) (flip_parts (weight_value (weight p))) s) → Given
  likely_gives l g = subst (λ b. FlipGives b (is_over_zero (weight p))) (sym l) g

  pub toss_gives : is_weight_literal (weight p) ≡ false → Gives act_of r (closed_findings Demand.Any n sc p ++ at s (value_rules t (flip_type false (type_of_expression n sc p)) (has_variable (form (elaborate n sc p))) false)) (Plain.toss (first_or_zero t.numbers.items) (form (elaborate n sc p)) s) → Given
  toss_gives l g = subst (λ b. FlipGives b (is_over_zero (weight p))) (sym l) (subst (λ z. FlipGives false z) (sym (no_divisor (weight p) l)) g)
