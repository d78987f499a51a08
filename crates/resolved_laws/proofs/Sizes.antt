-- The sizes of the formulas, conditions and terms of typed acts, by their expressions.
use Rattle.heylo_formula.specs.Sizes.{nodes, nodes_in, nodes_in_term}
use Rattle.heylo_formula.specs.Typing.{Types}
use Rattle.heyvl_num.specs.Rational.{Rational, ratio}
use Rattle.heyvl_syntax.specs.Expressions.{Expression}
use Rattle.heyvl_syntax.specs.Sizes.{nodes as expression_nodes, nodes_of_all, nodes_of_right, nodes_of_rule}
use Rattle.heyvl_syntax.specs.Statements.{LoopRule, RightSide}
use Rattle.heyvl_places.specs.declared.spans.Span.{Span}
use Rattle.typed_expressions.proofs.exported.TypedMeanings.{good}
use Rattle.typed_expressions.specs.ExpressionLaws.{Agrees}
use Rattle.static_rules.specs.Literals.{integer}
use Rattle.heyvl_acts.specs.FormSizes.{ActWithin, RankWithin}
use Rattle.heyvl_acts.specs.Rules.{Each}
use Rattle.resolved_laws.proofs.Flips.{of_flip}
use Rattle.typed_expressions.specs.Scopes.{Scope}
use Rattle.typed_expressions.specs.Signatures.{Called}
use Rattle.static_rules.specs.StatementActs.{assigned, choose_parts, first_or_zero, integer_parts, invariant_of, ranking_of, unif_parts}
use Rattle.typed_expressions.specs.Values.{condition, form, term, terms}
use Rattle.typed_expressions.specs.Table.{Meaning}
use Rattle.typed_expressions.specs.TypedExpressions.{elaborate}
use Rattle.std.proofs.Common.{List, None, Option, Some, [], arith, pos, refl, suc, zero, ◌*◌, ◌+◌, ◌≡◌, ◌≤◌, ◌∷◌, ℕ, ℤ}
use Rattle.std.proofs.lemmas.List.Sums.{sum_by-cons}
use Rattle.std.specs.List.{sum_by}
use Rattle.std.specs.Prelude.{unsigned_abs, ◌+ℤ◌, ◌-ℤ◌}

pub some_node : (e : Expression) → 1 ≤ expression_nodes e
some_node (Expression.number v s) = omega arith
some_node (Expression.truth b s) = omega arith
some_node (Expression.infinity s) = omega arith
some_node (Expression.name x s) = omega arith
some_node (Expression.group a s) = omega arith
some_node (Expression.bracket a s) = omega arith
some_node (Expression.embed a s) = omega arith
some_node (Expression.unary op a s) = omega arith
some_node (Expression.binary op a b s) = omega arith
some_node (Expression.choice a b c s) = omega arith
some_node (Expression.bound up x t a s) = omega arith

module _ (types : Types) (n : ℕ) (sc : Scope) (h : Agrees types n sc) where
  pub form_small : (e : Expression) → nodes (form (elaborate n sc e)) ≤ 2 * expression_nodes e
  form_small e = go (elaborate n sc e) refl
    where
      go : (o : Option Meaning) → elaborate n sc e ≡ o → nodes (form o) ≤ 2 * expression_nodes e
      go None i = let l = some_node e in omega (arith, l)
      go (Some (Meaning.truth g)) i = let l = some_node e in omega (arith, l)
      go (Some (Meaning.number t a)) i = (good types n sc h e (Meaning.number t a) i).small
      go (Some Meaning.real) i = let l = some_node e in omega (arith, l)

  pub condition_small : (e : Expression) → nodes_in (condition (elaborate n sc e)) ≤ 2 * expression_nodes e
  condition_small e = go (elaborate n sc e) refl
    where
      go : (o : Option Meaning) → elaborate n sc e ≡ o → nodes_in (condition o) ≤ 2 * expression_nodes e
      go None i = let l = some_node e in omega (arith, l)
      go (Some (Meaning.truth g)) i = (good types n sc h e (Meaning.truth g) i).small
      go (Some (Meaning.number t a)) i = let l = some_node e in omega (arith, l)
      go (Some Meaning.real) i = let l = some_node e in omega (arith, l)

  term_small : (e : Expression) → nodes_in_term (term (elaborate n sc e)) ≤ 2 * expression_nodes e
  term_small e = go (elaborate n sc e) refl
    where
      go : (o : Option Meaning) → elaborate n sc e ≡ o → nodes_in_term (term o) ≤ 2 * expression_nodes e
      go None i = let l = some_node e in omega (arith, l)
      go (Some (Meaning.truth g)) i = (good types n sc h e (Meaning.truth g) i).small
      go (Some (Meaning.number t a)) i = (good types n sc h e (Meaning.number t a) i).small
      go (Some Meaning.real) i = let l = some_node e in omega (arith, l)

  terms_small : (most : ℕ) (es : List Expression) → 2 * nodes_of_all es ≤ most → Each (λ t. nodes_in_term t ≤ most) (terms n sc es)
  terms_small most [] l = tt
  terms_small most (e ∷ es) l =
      let c = sum_by-cons expression_nodes e es in
      let i = term_small e in
      (omega (arith, c, i, l), terms_small most es (omega (arith, c, l)))

  choices_small : (most : ℕ) (ps : List (Expression × Expression)) → 2 * sum_by (λ p. expression_nodes p.0 + expression_nodes p.1) ps ≤ most → Each (λ p. nodes_in_term p.1 ≤ most) (choose_parts n sc ps)
  choices_small most [] l = tt
  choices_small most (p ∷ ps) l =
      let c = sum_by-cons (λ p. expression_nodes p.0 + expression_nodes p.1) p ps in
      let i = term_small p.1 in
      (omega (arith, c, i, l), choices_small most ps (omega (arith, c, l)))

  integers_small : (most : ℕ) (w : Rational) (a : ℤ) (k : ℕ) → 1 ≤ most → Each (λ p. nodes_in_term p.1 ≤ most) (integer_parts w a k)
  integers_small most w a zero l = tt
  integers_small most w a (suc k) l = (l, integers_small most w (a +ℤ pos 1) k l)

  unif_small : (most : ℕ) (a b : Option ℤ) → 1 ≤ most → Each (λ p. nodes_in_term p.1 ≤ most) (unif_parts a b)
  unif_small most (Some a) (Some b) l = integers_small most (ratio (pos 1) (suc (unsigned_abs (b -ℤ a)))) a (suc (unsigned_abs (b -ℤ a))) l
  unif_small most (Some a) None l = tt
  unif_small most None b l = tt

  pub assigned_small : (most : ℕ) (called : Called) (xs : List ℕ) (r : RightSide) (s : Span) → 2 * nodes_of_right r + 1 ≤ most → ActWithin most (assigned called n sc xs r s)
  assigned_small most called xs (RightSide.plain e) s l = let i = term_small e in omega (arith, i, l)
  assigned_small most called xs (RightSide.flip p) s l = of_flip (ActWithin most) n sc (first_or_zero xs) p s (omega (arith, l), (omega (arith, l), tt)) (let i = form_small p in omega (arith, i, l))
  assigned_small most called xs (RightSide.unif a b) s l = unif_small most (integer a) (integer b) (omega (arith, l))
  assigned_small most called xs (RightSide.choose parts) s l = choices_small most parts (omega (arith, l))
  assigned_small most called xs (RightSide.call f arguments) s l = terms_small most arguments (omega (arith, l))

  pub invariant_small : (most : ℕ) (rules : List LoopRule) → 2 * sum_by nodes_of_rule rules + 1 ≤ most → nodes (invariant_of n sc rules) ≤ most
  invariant_small most [] l = omega (arith, l)
  invariant_small most (LoopRule.invariant i s ∷ rs) l =
      let c = sum_by-cons nodes_of_rule (LoopRule.invariant i s) rs in
      let j = form_small i in
      omega (arith, c, j, l)
  invariant_small most (LoopRule.k_induction k i s ∷ rs) l =
      let c = sum_by-cons nodes_of_rule (LoopRule.k_induction k i s) rs in
      let j = form_small i in
      omega (arith, c, j, l)
  invariant_small most (LoopRule.ranking e r s ∷ rs) l = let c = sum_by-cons nodes_of_rule (LoopRule.ranking e r s) rs in invariant_small most rs (omega (arith, c, l))

  pub ranking_small : (most : ℕ) (rules : List LoopRule) → 2 * sum_by nodes_of_rule rules ≤ most → RankWithin most (ranking_of n sc rules)
  ranking_small most [] l = tt
  ranking_small most (LoopRule.ranking e r s ∷ rs) l =
      let c = sum_by-cons nodes_of_rule (LoopRule.ranking e r s) rs in
      let j = form_small r in
      omega (arith, c, j, l)
  ranking_small most (LoopRule.invariant i s ∷ rs) l = let c = sum_by-cons nodes_of_rule (LoopRule.invariant i s) rs in ranking_small most rs (omega (arith, c, l))
  ranking_small most (LoopRule.k_induction k i s ∷ rs) l = let c = sum_by-cons nodes_of_rule (LoopRule.k_induction k i s) rs in ranking_small most rs (omega (arith, c, l))
