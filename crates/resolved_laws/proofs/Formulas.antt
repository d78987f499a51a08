-- The elaborated expression of one without findings, where a formula or a condition is demanded.
use Rattle.heylo_formula.specs.Typing.{IsFormula, Types, is_well_typed}
use Rattle.heylo_formula.specs.Variables.{IsOver}
use Rattle.heylo_formula.specs.Binders.{has_binder}
use Rattle.heyvl_syntax.specs.Expressions.{Expression}
use Rattle.typed_expressions.proofs.exported.TypedMeanings.{good}
use Rattle.typed_expressions.proofs.exported.Free.{IsBelow, IsOverMeaning, becomes_over}
use Rattle.resolved_laws.proofs.Nodes.{meeting, node_kept}
use Rattle.resolved_laws.proofs.Quantifiers.{IsPlain, becomes_plain, closed_plain}
use Rattle.typed_expressions.specs.ExpressionLaws.{Agrees, IsTyped}
use Rattle.typed_expressions.specs.Scopes.{Scope}
use Rattle.typed_expressions.specs.Values.{condition, form}
use Rattle.typed_expressions.specs.Table.{Meaning, meets}
use Rattle.typed_expressions.specs.TypedExpressions.{closed_findings, elaborate, findings, has_quantifier, lacks}
use Rattle.heyvl_acts.specs.WellTypedActs.{IsHeld}
use Rattle.typed_expressions.specs.declared.demands.Demand.{Demand}
use Rattle.typed_expressions.specs.declared.demands.Front.{Front}
use Rattle.std.proofs.Common.{None, Option, Some, [], false, refl, subst, sym, true, ◌≡◌, ℕ}

-- ---- Meanings

formula_meant : (types : Types) (m : Meaning) → meets Demand.Formula m ≡ true → IsTyped types m → IsFormula types (form (Some m))
formula_meant types (Meaning.truth g) h t = absurd (cc)
formula_meant types (Meaning.number u a) h t = rw t h
formula_meant types Meaning.real h t = absurd (cc)

plain_meant : (m : Meaning) → IsPlain m → has_binder (form (Some m)) ≡ false
plain_meant (Meaning.truth g) h = refl
plain_meant (Meaning.number u a) h = h
plain_meant Meaning.real h = refl

condition_meant : (types : Types) (m : Meaning) → meets Demand.Truth m ≡ true → IsTyped types m → is_well_typed types (condition (Some m)) ≡ true
condition_meant types (Meaning.truth g) h t = t
condition_meant types (Meaning.number u a) h t = absurd (cc)
condition_meant types Meaning.real h t = absurd (cc)

over_meant : (k : ℕ) (o : Option Meaning) → ((m : Meaning) → o ≡ Some m → IsOverMeaning k m) → IsOver k (form o)
over_meant k None h = λ x e. absurd (cc)
over_meant k (Some (Meaning.truth g)) h = λ x e. absurd (cc)
over_meant k (Some (Meaning.number u a)) h = h (Meaning.number u a) refl
over_meant k (Some Meaning.real) h = λ x e. absurd (cc)

-- ---- Expressions

-- The free variables are visible.
pub form_over : (k n : ℕ) (sc : Scope) → IsBelow k sc → (e : Expression) → IsOver k (form (elaborate n sc e))
form_over k n sc h e = over_meant k (elaborate n sc e) (becomes_over k n sc h e)

module _ (types : Types) (n : ℕ) (sc : Scope) (g : Agrees types n sc) (e : Expression) where
  pub is_formula : lacks Demand.Formula (elaborate n sc e) ≡ false → IsFormula types (form (elaborate n sc e))
  is_formula h =
      let m = meeting Demand.Formula (elaborate n sc e) h in
      subst (λ o. IsFormula types (form o)) (sym m.is) (formula_meant types m.meaning m.meets (good types n sc g e m.meaning m.is).typed)

  -- A formula without quantifiers.
  pub is_held : has_quantifier e ≡ false → lacks Demand.Formula (elaborate n sc e) ≡ false → IsHeld types (form (elaborate n sc e))
  is_held q h =
      let m = meeting Demand.Formula (elaborate n sc e) h in
      (is_formula h, subst (λ o. has_binder (form o) ≡ false) (sym m.is) (plain_meant m.meaning (becomes_plain n sc e m.meaning q m.is)))

  pub closed_held : closed_findings Demand.Formula n sc e ≡ [] → IsHeld types (form (elaborate n sc e))
  closed_held h = is_held (closed_plain Demand.Formula n sc e h) (node_kept Front.Closed Demand.Formula n sc e h).meets

  pub front_formula : (f : Front) → findings f Demand.Formula n sc e ≡ [] → IsFormula types (form (elaborate n sc e))
  front_formula f h = is_formula (node_kept f Demand.Formula n sc e h).meets

  pub closed_condition : closed_findings Demand.Truth n sc e ≡ [] → is_well_typed types (condition (elaborate n sc e)) ≡ true
  closed_condition h =
      let m = meeting Demand.Truth (elaborate n sc e) (node_kept Front.Closed Demand.Truth n sc e h).meets in
      subst (λ o. is_well_typed types (condition o) ≡ true) (sym m.is) (condition_meant types m.meaning m.meets (good types n sc g e m.meaning m.is).typed)
