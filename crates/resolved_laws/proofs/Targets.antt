-- Targets are variables of the procedure with their declared types, and not inputs.
use Rattle.heylo_formula.specs.Typing.{Types}
use Rattle.heyvl_acts.specs.Acts.{TypedProcedure, variables}
use Rattle.heyvl_acts.specs.Rules.{Each, HasOwnTargets, IsOwn}
use Rattle.heyvl_places.specs.declared.spans.Span.{Span}
use Rattle.heyvl_syntax.specs.Statements.{RightSide, Statement}
use Rattle.heyvl_syntax.specs.declared.types.TypeName.{TypeName}
use Rattle.static_rules.proofs.exported.Findings.{all_kept, back_none}
use Rattle.resolved_laws.proofs.Flips.{of_flip}
use Rattle.resolved_laws.proofs.Locals.{Stands, stands_within}
use Rattle.resolved_laws.proofs.Walk.{Alone, Known, Locally}
use Rattle.static_rules.specs.RightSides.{counts_wrong, right_findings}
use Rattle.static_rules.specs.StatementActs.{assigned, declared_act, first_or_zero, havocs, number_or_zero, targets}
use Rattle.static_rules.specs.StatementRules.{assign_rules, havoc_rules}
use Rattle.static_rules.specs.declared.settings.Setting.{Setting}
use Rattle.std.proofs.Common.{Bool, List, None, Option, Some, [], arith, false, length, refl, suc, ◌==◌, ◌∷◌, ◌≡◌, ◌≤◌, ℕ}
use Rattle.std.proofs.lemmas.Bool.{eqb-true, ltb-false, not-false, or_parts}
use Rattle.std.proofs.lemmas.List.{length-map}
use Rattle.std.specs.Option.{is_none}
use Rattle.std.specs.Prelude.{not, option_map}
use Rattle.typed_expressions.specs.DeclaredVariables.{declared}
use Rattle.typed_expressions.specs.ExpressionLaws.{Agrees}
use Rattle.typed_expressions.specs.Scopes.{Scope, any_input, any_unknown, find, is_input, types_of_names}
use Rattle.typed_expressions.specs.Signatures.{Called}
use Rattle.typed_expressions.specs.Table.{declarable}
use Rattle.typed_expressions.specs.declared.scopes.Local.{Local}

-- ---- Types

-- Each variable has its declared type.
abbrev pub AreOfTypes : Types → List ℕ → List (Option TypeName) → Type 0
AreOfTypes types [] [] = Unit {0}
AreOfTypes types [] (t ∷ ts) = ⊥
AreOfTypes types (x ∷ xs) [] = ⊥
AreOfTypes types (x ∷ xs) (None ∷ ts) = ⊥
AreOfTypes types (x ∷ xs) (Some t ∷ ts) = (declarable t ≡ Some (types x)) × AreOfTypes types xs ts

pub targets_typed : (types : Types) (n : ℕ) (sc : Scope) → Agrees types n sc → (xs : List (List ℕ)) → any_unknown sc xs ≡ false → AreOfTypes types (targets sc xs) (types_of_names sc xs)
targets_typed types n sc g [] e = tt
targets_typed types n sc g (x ∷ xs) e = let q = or_parts (is_none (find sc x)) (any_unknown sc xs) e in go (find sc x) refl q.0 (targets_typed types n sc g xs q.1)
  where
    go : (o : Option Local) → find sc x ≡ o → is_none o ≡ false → AreOfTypes types (targets sc xs) (types_of_names sc xs) → AreOfTypes types (number_or_zero o ∷ targets sc xs) (option_map (λ l. l.ty) o ∷ types_of_names sc xs)
    go None i h more = absurd (cc)
    go (Some l) i h more = (g.declared x l i, more)

-- The only target of a statement.
pub record IsOne (types : Types) (xs : List ℕ) (ts : List (Option TypeName)) : Type 0 where
  pub target : ℕ
  pub ty : TypeName
  pub target_is : xs ≡ target ∷ []
  pub ty_is : ts ≡ Some ty ∷ []
  pub typed : declarable ty ≡ Some (types target)

pub one_target : (types : Types) (xs : List ℕ) (ts : List (Option TypeName)) → AreOfTypes types xs ts → not (length ts == 1) ≡ false → IsOne types xs ts
one_target types [] [] h e = absurd (cc)
one_target types [] (t ∷ ts) h e = absurd h
one_target types (x ∷ xs) [] h e = absurd h
one_target types (x ∷ xs) (None ∷ ts) h e = absurd h
one_target types (x ∷ []) (Some t ∷ []) h e = record { target = x; ty = t; target_is = refl; ty_is = refl; typed = h.0 }
one_target types (x ∷ []) (Some t ∷ (u ∷ ts)) h e = absurd h.1
one_target types (x ∷ (y ∷ xs)) (Some t ∷ []) h e = absurd h.1
one_target types (x ∷ (y ∷ xs)) (Some t ∷ (u ∷ ts)) h e = absurd (let i : suc (suc (length ts)) ≡ 1 = eqb-true (suc (suc (length ts))) 1 (not-false _ e) in omega (arith, i))

-- ---- Variables of the procedure

module _ (p : TypedProcedure) (h : Setting) (c : Called) (same : h.inputs ≡ length p.inputs) where
  own_local : (n : ℕ) (sc : Scope) → Known (variables p) h c n sc → n ≤ length (variables p) → (x : List ℕ) (o : Option Local) → find sc x ≡ o → is_none o ≡ false → is_input h.inputs o ≡ false → IsOwn p (number_or_zero o)
  own_local n sc k w x None e u i = absurd (cc)
  own_local n sc k w x (Some l) e u i = record {
    no_input = let j = ltb-false l.number h.inputs i in omega (arith, j, same);
    below = let j = k.agrees.below x l e in omega (arith, j, w);
  }

  own_targets : (n : ℕ) (sc : Scope) → Known (variables p) h c n sc → n ≤ length (variables p) → (xs : List (List ℕ)) → any_unknown sc xs ≡ false → any_input h.inputs sc xs ≡ false → Each (IsOwn p) (targets sc xs)
  own_targets n sc k w [] u i = tt
  own_targets n sc k w (x ∷ xs) u i =
      let u1 = or_parts (is_none (find sc x)) (any_unknown sc xs) u in
      let i1 = or_parts (is_input h.inputs (find sc x)) (any_input h.inputs sc xs) i in
      (own_local n sc k w x (find sc x) refl u1.0 i1.0, own_targets n sc k w xs u1.1 i1.1)

  own_havocs : (n : ℕ) (sc : Scope) → Known (variables p) h c n sc → n ≤ length (variables p) → (co : Bool) (xs : List (List ℕ)) (s : Span) → any_unknown sc xs ≡ false → any_input h.inputs sc xs ≡ false → Alone (HasOwnTargets p) (havocs sc co xs s)
  own_havocs n sc k w co [] s u i = tt
  own_havocs n sc k w co (x ∷ xs) s u i =
      let u1 = or_parts (is_none (find sc x)) (any_unknown sc xs) u in
      let i1 = or_parts (is_input h.inputs (find sc x)) (any_input h.inputs sc xs) i in
      (own_local n sc k w x (find sc x) refl u1.0 i1.0, own_havocs n sc k w co xs s u1.1 i1.1)

  one_own : (xs : List ℕ) → length xs ≡ 1 → Each (IsOwn p) xs → IsOwn p (first_or_zero xs)
  one_own [] e q = absurd (omega (arith, e))
  one_own (x ∷ xs) e q = q.0

  -- A right side other than a call has one target.
  abbrev OneUnlessCall : RightSide → ℕ → Type 0
  OneUnlessCall (RightSide.plain e) k = k ≡ 1
  OneUnlessCall (RightSide.flip q) k = k ≡ 1
  OneUnlessCall (RightSide.unif a b) k = k ≡ 1
  OneUnlessCall (RightSide.choose parts) k = k ≡ 1
  OneUnlessCall (RightSide.call q es) k = Unit {0}

  one_unless_call : (r : RightSide) (ts : List (Option TypeName)) → counts_wrong c r ts ≡ false → OneUnlessCall r (length ts)
  one_unless_call (RightSide.plain e) ts h = eqb-true (length ts) 1 (not-false _ h)
  one_unless_call (RightSide.flip q) ts h = eqb-true (length ts) 1 (not-false _ h)
  one_unless_call (RightSide.unif a b) ts h = eqb-true (length ts) 1 (not-false _ h)
  one_unless_call (RightSide.choose parts) ts h = eqb-true (length ts) 1 (not-false _ h)
  one_unless_call (RightSide.call q es) ts h = tt

  own_assigned : (n : ℕ) (sc : Scope) (xs : List ℕ) (r : RightSide) (s : Span) → OneUnlessCall r (length xs) → Each (IsOwn p) xs → HasOwnTargets p (assigned c n sc xs r s)
  own_assigned n sc xs (RightSide.plain e) s k q = one_own xs k q
  own_assigned n sc xs (RightSide.flip e) s k q = of_flip (HasOwnTargets p) n sc (first_or_zero xs) e s (one_own xs k q) (one_own xs k q)
  own_assigned n sc xs (RightSide.unif a b) s k q = one_own xs k q
  own_assigned n sc xs (RightSide.choose parts) s k q = one_own xs k q
  own_assigned n sc xs (RightSide.call f es) s k q = q

  -- A declared variable has the next number.
  own_next : (n : ℕ) (sc : Scope) (x : List ℕ) (t : TypeName) → Known (variables p) h c n sc → Stands (variables p) n (declared x t ∷ []) → IsOwn p n
  own_next n sc x t k l = record {
    no_input = let i = k.inputs in omega (arith, i, same);
    below = let i = stands_within (variables p) n (declared x t ∷ []) l in omega (arith, i);
  }

  own_declared : (n : ℕ) (sc : Scope) (t : TypeName) (r : Option RightSide) (s : Span) → IsOwn p n → HasOwnTargets p (declared_act h c n sc t r s)
  own_declared n sc t None s q = q
  own_declared n sc t (Some (RightSide.plain e)) s q = q
  own_declared n sc t (Some (RightSide.flip e)) s q = of_flip (HasOwnTargets p) n sc n e s q q
  own_declared n sc t (Some (RightSide.unif a b)) s q = q
  own_declared n sc t (Some (RightSide.choose parts)) s q = q
  own_declared n sc t (Some (RightSide.call f es)) s q = (q, tt)

  pub own : Locally (variables p) h c (HasOwnTargets p)
  own bound n m sc (Statement.var x t r s) k l e = (own_declared n sc t r s (own_next n sc x t k l), tt)
  own bound n m sc (Statement.assign xs r s) k l e =
      let w : n ≤ length (variables p) = let i = stands_within (variables p) n [] l in omega (arith, i) in
      let kept = all_kept s (assign_rules h c n sc xs r) (back_none (right_findings n sc r) _ e) in
      let u = (or_parts (any_unknown sc xs) _ kept.0).0 in
      let one = one_unless_call r (types_of_names sc xs) kept.1.1.1.1.0 in
      (own_assigned n sc (targets sc xs) r s (same_length r xs one) (own_targets n sc k w xs u kept.1.1.1.0), tt)
    where
      same_length : (r : RightSide) (xs : List (List ℕ)) → OneUnlessCall r (length (types_of_names sc xs)) → OneUnlessCall r (length (targets sc xs))
      same_length (RightSide.plain e) xs i = omega (arith, i, length-map xs (λ x. option_map (λ l. l.ty) (find sc x)), length-map xs (λ x. number_or_zero (find sc x)))
      same_length (RightSide.flip e) xs i = omega (arith, i, length-map xs (λ x. option_map (λ l. l.ty) (find sc x)), length-map xs (λ x. number_or_zero (find sc x)))
      same_length (RightSide.unif a b) xs i = omega (arith, i, length-map xs (λ x. option_map (λ l. l.ty) (find sc x)), length-map xs (λ x. number_or_zero (find sc x)))
      same_length (RightSide.choose parts) xs i = omega (arith, i, length-map xs (λ x. option_map (λ l. l.ty) (find sc x)), length-map xs (λ x. number_or_zero (find sc x)))
      same_length (RightSide.call f es) xs i = tt
  own bound n m sc (Statement.check kind a s) k l e = (tt, tt)
  own bound n m sc (Statement.validate co s) k l e = (tt, tt)
  own bound n m sc (Statement.havoc co xs s) k l e =
      let w : n ≤ length (variables p) = let i = stands_within (variables p) n [] l in omega (arith, i) in
      let kept = all_kept s (havoc_rules h sc co xs) e in
      own_havocs n sc k w co xs s kept.0 kept.1.1.0
  own bound n m sc (Statement.reward a s) k l e = (tt, tt)
  own bound n m sc (Statement.branch arms other s) k l e = (tt, tt)
  own bound n m sc (Statement.pick up a b s) k l e = (tt, tt)
  own bound n m sc (Statement.loop rules g b s) k l e = (tt, tt)
