-- The act of a flip: a draw if its probability is a weight literal, otherwise a flip with a
-- formula.
use Rattle.heyvl_acts.specs.Acts.{Act}
use Rattle.heyvl_acts.specs.Tosses.{flip_parts}
use Rattle.heyvl_num.specs.Rational.{Rational}
use Rattle.heylo_formula.specs.Formula.{Form}
use Rattle.heyvl_places.specs.declared.spans.Span.{Span}
use Rattle.heyvl_syntax.specs.Expressions.{Expression}
use Rattle.static_rules.specs.Literals.{is_weight_literal, weight, weight_value}
use Rattle.typed_expressions.specs.Scopes.{Scope}
use Rattle.static_rules.specs.StatementActs.{draw_or_toss, flip_act}
use Rattle.typed_expressions.specs.Values.{form}
use Rattle.typed_expressions.specs.TypedExpressions.{elaborate}
use Rattle.std.proofs.Common.{Bool, false, refl, true, ◌≡◌, ℕ}

module _ (P : Act → Type 0) where
  either : (literal : Bool) (x : ℕ) (w : Rational) (f : Form) (s : Span) → (literal ≡ true → P (Act.draw x (flip_parts w) s)) → (literal ≡ false → P (Act.toss x f s)) → P (draw_or_toss literal x w f s)
  either true x w f s d t = d refl
  either false x w f s d t = t refl

  module _ (n : ℕ) (sc : Scope) (x : ℕ) (p : Expression) (s : Span) where
    -- A property, by the kind of the probability.
    pub by_flip : (is_weight_literal (weight p) ≡ true → P (Act.draw x (flip_parts (weight_value (weight p))) s)) → (is_weight_literal (weight p) ≡ false → P (Act.toss x (form (elaborate n sc p)) s)) → P (flip_act n sc x p s)
    by_flip d t = either (is_weight_literal (weight p)) x (weight_value (weight p)) (form (elaborate n sc p)) s d t

    -- A property of both acts.
    pub of_flip : P (Act.draw x (flip_parts (weight_value (weight p))) s) → P (Act.toss x (form (elaborate n sc p)) s) → P (flip_act n sc x p s)
    of_flip d t = by_flip (λ l. d) (λ l. t)
