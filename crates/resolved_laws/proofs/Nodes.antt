-- The rules at the node of an expression without findings.
use Rattle.heyvl_syntax.specs.Expressions.{Expression}
use Rattle.static_rules.proofs.exported.Findings.{all_kept, back_none}
use Rattle.std.proofs.Common.{None, Option, Some, false, refl, true, ◌≡◌, ◌∷◌, [], ℕ}
use Rattle.std.proofs.lemmas.Bool.{not-false}
use Rattle.typed_expressions.specs.Scopes.{Scope}
use Rattle.typed_expressions.specs.Table.{Meaning, meets}
use Rattle.typed_expressions.specs.TypedExpressions.{divides_wrong, elaborate, findings, is_given_twice, is_misplaced, is_unknown, lacks, own, place}
use Rattle.typed_expressions.specs.declared.demands.Demand.{Demand}
use Rattle.typed_expressions.specs.declared.demands.Front.{Front}

-- No rule of the node is broken.
pub record NodeKept (f : Front) (d : Demand) (n : ℕ) (sc : Scope) (e : Expression) : Type 0 where
  pub known : is_unknown sc e ≡ false
  pub new : is_given_twice sc e ≡ false
  pub meets : lacks d (elaborate n sc e) ≡ false
  pub divides : divides_wrong e ≡ false
  pub placed : is_misplaced f e ≡ false

pub own_kept : (f : Front) (d : Demand) (n : ℕ) (sc : Scope) (e : Expression) → own f d n sc e ≡ [] → NodeKept f d n sc e
own_kept f d n sc e h =
    let k = all_kept (place e) ((10, is_unknown sc e) ∷ (11, is_given_twice sc e) ∷ (12, lacks d (elaborate n sc e)) ∷ (16, divides_wrong e) ∷ (23, is_misplaced f e) ∷ []) h in
    record { known = k.0; new = k.1.0; meets = k.1.1.0; divides = k.1.1.1.0; placed = k.1.1.1.1.0 }

-- The findings at the node come after those in its parts.
pub node_kept : (f : Front) (d : Demand) (n : ℕ) (sc : Scope) (e : Expression) → findings f d n sc e ≡ [] → NodeKept f d n sc e
node_kept f d n sc (Expression.number v s) h = own_kept f d n sc _ h
node_kept f d n sc (Expression.truth b s) h = own_kept f d n sc _ h
node_kept f d n sc (Expression.infinity s) h = own_kept f d n sc _ h
node_kept f d n sc (Expression.name x s) h = own_kept f d n sc _ h
node_kept f d n sc (Expression.group a s) h = own_kept f d n sc (Expression.group a s) (back_none _ _ h)
node_kept f d n sc (Expression.bracket a s) h = own_kept f d n sc (Expression.bracket a s) (back_none _ _ h)
node_kept f d n sc (Expression.embed a s) h = own_kept f d n sc (Expression.embed a s) (back_none _ _ h)
node_kept f d n sc (Expression.unary op a s) h = own_kept f d n sc (Expression.unary op a s) (back_none _ _ h)
node_kept f d n sc (Expression.binary op a b s) h = own_kept f d n sc (Expression.binary op a b s) (back_none _ _ h)
node_kept f d n sc (Expression.choice a b c s) h = own_kept f d n sc (Expression.choice a b c s) (back_none _ _ h)
node_kept f d n sc (Expression.bound up x t a s) h = own_kept f d n sc (Expression.bound up x t a s) (back_none _ _ h)

-- An elaborated expression that satisfies the demand.
pub record Meeting (d : Demand) (o : Option Meaning) : Type 0 where
  pub meaning : Meaning
  pub is : o ≡ Some meaning
  pub meets : meets d meaning ≡ true

pub meeting : (d : Demand) (o : Option Meaning) → lacks d o ≡ false → Meeting d o
meeting d None h = absurd (cc)
meeting d (Some m) h = record { meaning = m; is = refl; meets = not-false (meets d m) h }
