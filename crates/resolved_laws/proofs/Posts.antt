-- The post of a procedure without quantifiers in its post clauses has no binder.
use Rattle.heylo_formula.specs.Binders.{has_binder}
use Rattle.heyvl_acts.specs.Rules.{Each}
use Rattle.heyvl_syntax.specs.Expressions.{Expression}
use Rattle.resolved_laws.proofs.Clauses.{IsJoined, clause_holds}
use Rattle.resolved_laws.proofs.Quantifiers.{IsPlain, becomes_plain}
use Rattle.static_rules.specs.Files.{clause, post_forms}
use Rattle.std.proofs.Common.{Bool, List, None, Option, Some, [], false, refl, ◌+◌, ◌≡◌, ◌∷◌, ℕ}
use Rattle.std.proofs.lemmas.Bool.{or_from, or_parts}
use Rattle.std.specs.List.{list_any}
use Rattle.std.specs.Prelude.{length}
use Rattle.typed_expressions.specs.DeclaredVariables.{front_variables}
use Rattle.typed_expressions.specs.Scopes.{Scope}
use Rattle.typed_expressions.specs.Table.{Meaning}
use Rattle.typed_expressions.specs.TypedExpressions.{elaborate, has_quantifier}
use Rattle.typed_expressions.specs.Values.{form}

plain_form : (o : Option Meaning) → ((m : Meaning) → o ≡ Some m → IsPlain m) → has_binder (form o) ≡ false
plain_form None p = refl
plain_form (Some (Meaning.truth g)) p = refl
plain_form (Some (Meaning.number t a)) p = p (Meaning.number t a) refl
plain_form (Some Meaning.real) p = refl

plain_join : IsJoined (λ f. has_binder f ≡ false)
plain_join = record { zero = refl; infinity = refl; max = λ f g p q. or_from _ _ p q; min = λ f g p q. or_from _ _ p q }

plain_forms : (n : ℕ) (sc : Scope) (es : List Expression) → list_any has_quantifier es ≡ false → Each (λ f. has_binder f ≡ false) (post_forms n sc es)
plain_forms n sc [] q = tt
plain_forms n sc (e ∷ es) q =
    (plain_form (elaborate n sc e) (λ m i. becomes_plain n sc e m (or_parts _ _ q).0 i), plain_forms (n + length (front_variables e)) sc es (or_parts _ _ q).1)

pub plain_post : (co : Bool) (n : ℕ) (sc : Scope) (es : List Expression) → list_any has_quantifier es ≡ false → has_binder (clause co (post_forms n sc es)) ≡ false
plain_post co n sc es q = clause_holds (λ f. has_binder f ≡ false) plain_join co (post_forms n sc es) (plain_forms n sc es q)
