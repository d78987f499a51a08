-- An expression without findings at a place without quantifiers has none, and is elaborated without
-- binders.
use Rattle.heylo_formula.specs.Binders.{has_binder, has_binder_in}
use Rattle.heyvl_syntax.specs.Expressions.{Expression}
use Rattle.heyvl_syntax.specs.declared.types.TypeName.{TypeName}
use Rattle.typed_expressions.proofs.exported.TypedMeanings.{become, given_some, map_some}
use Rattle.static_rules.proofs.exported.Findings.{back_none, front_none}
use Rattle.resolved_laws.proofs.Nodes.{own_kept}
use Rattle.typed_expressions.proofs.exported.PartTests.{Fails, Spreads, fails_bracket, fails_choice, fails_embedding, fails_literal, fails_operated, fails_unary}
use Rattle.typed_expressions.specs.Scopes.{Scope, find}
use Rattle.typed_expressions.specs.Table.{Meaning, bracket, choice, embedding, given, unary, variable, variable_of}
use Rattle.typed_expressions.specs.TypedExpressions.{closed_findings, elaborate, has_quantifier, operated}
use Rattle.typed_expressions.specs.declared.demands.Demand.{Demand}
use Rattle.typed_expressions.specs.declared.demands.Front.{Front}
use Rattle.std.proofs.Common.{Some, false, refl, ◌≡◌, [], ℕ}
use Rattle.std.specs.Prelude.{◌||◌}
use Rattle.std.proofs.lemmas.Bool.{or_from, or_parts}

pub closed_plain : (d : Demand) (n : ℕ) (sc : Scope) (e : Expression) → closed_findings d n sc e ≡ [] → has_quantifier e ≡ false
closed_plain d n sc (Expression.number v s) h = refl
closed_plain d n sc (Expression.truth b s) h = refl
closed_plain d n sc (Expression.infinity s) h = refl
closed_plain d n sc (Expression.name x s) h = refl
closed_plain d n sc (Expression.group a s) h = closed_plain Demand.Any n sc a (front_none _ _ h)
closed_plain d n sc (Expression.bracket a s) h = closed_plain Demand.Any n sc a (front_none _ _ h)
closed_plain d n sc (Expression.embed a s) h = closed_plain Demand.Any n sc a (front_none _ _ h)
closed_plain d n sc (Expression.unary op a s) h = closed_plain Demand.Any n sc a (front_none _ _ h)
closed_plain d n sc (Expression.binary op a b s) h =
    let i = front_none _ _ h in or_from _ _ (closed_plain Demand.Any n sc a (front_none _ _ i)) (closed_plain Demand.Any n sc b (back_none _ _ i))
closed_plain d n sc (Expression.choice a b c s) h =
    let i = front_none _ _ h in
    let j = front_none _ _ i in
    or_from _ _ (or_from _ _ (closed_plain Demand.Any n sc a (front_none _ _ j)) (closed_plain Demand.Any n sc b (back_none _ _ j))) (closed_plain Demand.Any n sc c (back_none _ _ i))
closed_plain d n sc (Expression.bound up x t a s) h = (own_kept Front.Closed d n sc (Expression.bound up x t a s) (back_none _ _ h)).placed

pub binders_spread : Spreads has_binder has_binder_in
binders_spread = record {
  number = λ v. refl;
  sum = λ a b p q. rw (p, q) refl;
  difference = λ a b p q. rw (p, q) refl;
  cut = λ a b p q. rw (p, q) refl;
  scale = λ w a p. p;
  product = λ a b s p q. rw (p, q) refl;
  min = λ a b p q. rw (p, q) refl;
  max = λ a b p q. rw (p, q) refl;
  imply = λ a b p q. rw (p, q) refl;
  co_imply = λ a b p q. rw (p, q) refl;
  embed = λ g p. p;
  iverson = λ g p. p;
  select = λ g a b p q r. rw (p, q, r) refl;
  constant = λ b. refl;
  not = λ g p. p;
  and = λ g h p q. rw (p, q) refl;
  or = λ g h p q. rw (p, q) refl;
  same = λ g h p q. rw (p, q) refl;
  le = λ a b p q. rw (p, q) refl;
  lt = λ a b p q. rw (p, q) refl;
  equal = λ a b p q. rw (p, q) refl;
  ite = λ g h k p q r. rw (p, q, r) refl;
}

-- The elaborated expression has no binder.
abbrev pub IsPlain : Meaning → Type 0
IsPlain m = Fails has_binder has_binder_in m

plain_variable : (t : TypeName) (x : ℕ) → IsPlain (variable_of t x)
plain_variable TypeName.Bool x = refl
plain_variable TypeName.Int x = refl
plain_variable TypeName.UInt x = refl
plain_variable TypeName.UReal x = refl
plain_variable TypeName.EUReal x = refl
plain_variable TypeName.Real x = tt

pub becomes_plain : (n : ℕ) (sc : Scope) (e : Expression) (m : Meaning) → has_quantifier e ≡ false → elaborate n sc e ≡ Some m → IsPlain m
becomes_plain n sc (Expression.number v s) m h e = fails_literal has_binder has_binder_in binders_spread v m e
becomes_plain n sc (Expression.truth b s) m h e = become IsPlain _ m e refl
becomes_plain n sc (Expression.infinity s) m h e = become IsPlain _ m e refl
becomes_plain n sc (Expression.name x s) m h e = let l = map_some (find sc x) variable m e in become IsPlain _ m l.2 (plain_variable l.0.ty l.0.number)
becomes_plain n sc (Expression.group a s) m h e = becomes_plain n sc a m h e
becomes_plain n sc (Expression.bracket a s) m h e =
    let x = given_some (elaborate n sc a) bracket m e in fails_bracket has_binder has_binder_in binders_spread x.0 m (becomes_plain n sc a x.0 h x.1) x.2
becomes_plain n sc (Expression.embed a s) m h e =
    let x = given_some (elaborate n sc a) embedding m e in fails_embedding has_binder has_binder_in binders_spread x.0 m (becomes_plain n sc a x.0 h x.1) x.2
becomes_plain n sc (Expression.unary op a s) m h e =
    let x = given_some (elaborate n sc a) (unary op) m e in fails_unary has_binder has_binder_in binders_spread op x.0 m (becomes_plain n sc a x.0 h x.1) x.2
becomes_plain n sc (Expression.binary op a b s) m h e =
    let q = or_parts (has_quantifier a) (has_quantifier b) h in
    let x = given_some (elaborate n sc a) (λ x. given (elaborate n sc b) (operated op s b x)) m e in
    let y = given_some (elaborate n sc b) (operated op s b x.0) m x.2 in
    fails_operated has_binder has_binder_in binders_spread op s b x.0 y.0 m (becomes_plain n sc a x.0 q.0 x.1) (becomes_plain n sc b y.0 q.1 y.1) y.2
becomes_plain n sc (Expression.choice a b c s) m h e =
    let r = or_parts (has_quantifier a || has_quantifier b) (has_quantifier c) h in
    let q = or_parts (has_quantifier a) (has_quantifier b) r.0 in
    let x = given_some (elaborate n sc a) (λ x. given (elaborate n sc b) (λ y. given (elaborate n sc c) (choice x y))) m e in
    let y = given_some (elaborate n sc b) (λ y. given (elaborate n sc c) (choice x.0 y)) m x.2 in
    let z = given_some (elaborate n sc c) (choice x.0 y.0) m y.2 in
    fails_choice has_binder has_binder_in binders_spread x.0 y.0 z.0 m (becomes_plain n sc a x.0 q.0 x.1) (becomes_plain n sc b y.0 q.1 y.1) (becomes_plain n sc c z.0 r.1 z.1) z.2
becomes_plain n sc (Expression.bound up x t a s) m h e = absurd (cc)
