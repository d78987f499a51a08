-- The binders of a post are named after the variables of the leading quantifiers of its clauses.
use Rattle.heylo_formula.proofs.exported.BinderNames.{unnamed}
use Rattle.heylo_formula.specs.BinderNames.{Binder, binders}
use Rattle.heylo_formula.specs.Formula.{Form}
use Rattle.heylo_formula.specs.Typing.{is_unsigned}
use Rattle.heylo_formula.specs.declared.types.Ty.{Ty}
use Rattle.heyvl_acts.specs.Acts.{variables}
use Rattle.heyvl_acts.specs.Rules.{AreNamed, Each, HasNamedBinders}
use Rattle.heyvl_syntax.specs.Expressions.{Expression}
use Rattle.heyvl_syntax.specs.Procedures.{Procedure}
use Rattle.resolved_laws.proofs.Clauses.{IsJoined, clause_holds}
use Rattle.static_rules.proofs.exported.Findings.{back_none, front_none}
use Rattle.resolved_laws.proofs.Heads.{IsClean, length_parameters}
use Rattle.resolved_laws.proofs.Quantifiers.{IsPlain, becomes_plain, closed_plain}
use Rattle.static_rules.specs.Files.{first_quantified, front_of, head_scope, post_forms, posts_findings, typed}
use Rattle.static_rules.specs.Variables.{locals_of_body, parameters}
use Rattle.std.proofs.Common.{Bool, List, None, Option, Some, [], arith, false, length, length-append, refl, subst, suc, sym, true, ◌+◌, ◌++◌, ◌<◌, ◌∷◌, ◌≡◌, ◌≤◌, ℕ}
use Rattle.typed_expressions.proofs.exported.TypedMeanings.{become, given_some, never}
use Rattle.typed_expressions.specs.DeclaredVariables.{front_variables, fronts_variables}
use Rattle.typed_expressions.specs.Scopes.{Scope, with_local}
use Rattle.typed_expressions.specs.Signatures.{Called}
use Rattle.typed_expressions.specs.Table.{Meaning, bound, declarable, extended, quantified}
use Rattle.typed_expressions.specs.TypedExpressions.{elaborate, findings}
use Rattle.typed_expressions.specs.Values.{form}
use Rattle.typed_expressions.specs.declared.demands.Demand.{Demand}
use Rattle.typed_expressions.specs.declared.demands.Front.{Front}

module _ (k : ℕ) where
  named_both : (xs ys : List Binder) → AreNamed k xs → AreNamed k ys → AreNamed k (xs ++ ys)
  named_both [] ys p q = q
  named_both (x ∷ xs) ys p q = (p.0, named_both xs ys p.1 q)

  abbrev IsNamed : Form → Type 0
  IsNamed f = AreNamed k (binders f)

  named_join : IsJoined IsNamed
  named_join = record {
    zero = tt;
    infinity = tt;
    max = λ f g p q. named_both (binders f) (binders g) p q;
    min = λ f g p q. named_both (binders f) (binders g) p q;
  }

  abbrev IsNamedMeaning : Meaning → Type 0
  IsNamedMeaning (Meaning.truth g) = Unit {0}
  IsNamedMeaning (Meaning.number t a) = IsNamed a
  IsNamedMeaning Meaning.real = Unit {0}

  plain_named : (m : Meaning) → IsPlain m → IsNamedMeaning m
  plain_named (Meaning.truth g) h = tt
  plain_named (Meaning.number t a) h = subst (AreNamed k) (sym (unnamed a h)) tt
  plain_named Meaning.real h = tt

  bound_named : (up : Bool) (n : ℕ) (ty : Ty) (x m : Meaning) → n < k → IsNamedMeaning x → bound up n ty x ≡ Some m → IsNamedMeaning m
  bound_named up n ty (Meaning.truth g) m l h e = never m e
  bound_named up n ty Meaning.real m l h e = never m e
  bound_named up n ty (Meaning.number t f) m l h e = go (is_unsigned (Some t)) e
    where
      go : (b : Bool) → extended b (Form.bind up n n ty f) ≡ Some m → IsNamedMeaning m
      go true i = become IsNamedMeaning _ m i (l, h)
      go false i = never m i

  -- The variables of the leading quantifiers are below `k`, and so is the name of each binder.
  becomes_named : (f : Front) (d : Demand) (n : ℕ) (sc : Scope) (e : Expression) (m : Meaning) → n + length (front_variables e) ≤ k → findings f d n sc e ≡ [] → elaborate n sc e ≡ Some m → IsNamedMeaning m
  becomes_named f d n sc (Expression.bound up x t a s) m l h e =
      let i = given_some (elaborate (suc n) (with_local x (record { number = n; ty = t }) sc) a) (quantified up n t) m e in
      let y = given_some (declarable t) (λ ty. bound up n ty i.0) m i.2 in
      bound_named up n y.0 i.0 m (omega (arith, l)) (becomes_named f Demand.Any (suc n) _ a i.0 (omega (arith, l)) (front_none _ _ h) i.1) y.2
  becomes_named f d n sc e m l h i = plain_named m (becomes_plain n sc e m (closed_plain d n sc e h) i)

  meant_named : (o : Option Meaning) → ((m : Meaning) → o ≡ Some m → IsNamedMeaning m) → IsNamed (form o)
  meant_named None h = tt
  meant_named (Some (Meaning.truth g)) h = tt
  meant_named (Some (Meaning.number t a)) h = h (Meaning.number t a) refl
  meant_named (Some Meaning.real) h = tt

  each_named : (f : Front) (n : ℕ) (sc : Scope) (es : List Expression) → n + length (fronts_variables es) ≤ k → posts_findings f n sc es ≡ [] → Each IsNamed (post_forms n sc es)
  each_named f n sc [] l h = tt
  each_named f n sc (e ∷ es) l h =
      let both = length-append (front_variables e) (fronts_variables es) in (
        meant_named (elaborate n sc e) (λ m i. becomes_named f Demand.Formula n sc e m (omega (arith, l, both)) (front_none _ _ h) i),
        each_named f (n + length (front_variables e)) sc es (omega (arith, l, both)) (back_none _ _ h),
      )

-- The parameters, the local variables of the body and the variables of the leading quantifiers.
all_variables : (c : Called) (p : Procedure) → first_quantified p + length (fronts_variables p.posts) ≤ length (variables (typed c p))
all_variables c p =
    let a = length-append (parameters p.inputs) (parameters p.outputs ++ (locals_of_body p.body ++ fronts_variables p.posts)) in
    let b = length-append (parameters p.outputs) (locals_of_body p.body ++ fronts_variables p.posts) in
    let d = length-append (locals_of_body p.body) (fronts_variables p.posts) in
    omega (arith, a, b, d, length_parameters p.inputs, length_parameters p.outputs)

pub post_named : (c : Called) (p : Procedure) → IsClean c p → HasNamedBinders (typed c p)
post_named c p k =
    let n = length (variables (typed c p)) in
    clause_holds (IsNamed n) (named_join n) p.co _ (each_named n (front_of p.co) (first_quantified p) (head_scope p) p.posts (all_variables c p) k.posts)
