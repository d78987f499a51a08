-- The acts of a procedure without findings are well typed.
use Rattle.heylo_formula.specs.Typing.{Types}
use Rattle.heyvl_acts.specs.Acts.{TypedProcedure, types_of, variables}
use Rattle.heyvl_acts.specs.Rules.{CallFits, Each, GuardsFit, IsTypedAct, LoopFits, RankFits}
use Rattle.heyvl_acts.specs.WellTypedActs.{IsHeld}
use Rattle.heyvl_places.specs.declared.spans.Span.{Span}
use Rattle.heyvl_syntax.specs.Expressions.{Expression}
use Rattle.heyvl_syntax.specs.Statements as text
use Rattle.heyvl_syntax.specs.Statements.{LoopRule, RightSide, Statement}
use Rattle.heyvl_syntax.specs.declared.types.TypeName.{TypeName}
use Rattle.resolved_laws.proofs.Calls.{AreCallees, IsCallee, parameters_declared}
use Rattle.resolved_laws.proofs.Draws.{choose_drawn, flip_drawn, flip_tossed, unif_drawn}
use Rattle.static_rules.proofs.exported.Findings.{all_kept, back_none, front_none}
use Rattle.resolved_laws.proofs.Flips.{by_flip}
use Rattle.resolved_laws.proofs.Formulas.{closed_condition, closed_held, is_held}
use Rattle.resolved_laws.proofs.Locals.{agrees_up, declared_at, type_at}
use Rattle.resolved_laws.proofs.Quantifiers.{closed_plain}
use Rattle.resolved_laws.proofs.RightSides.{RightKept, assign_kept, targets_known, var_kept}
use Rattle.resolved_laws.proofs.Targets.{AreOfTypes, IsOne, one_target, targets_typed}
use Rattle.resolved_laws.proofs.Types.{arguments_fit, targets_fit, value_fits}
use Rattle.resolved_laws.proofs.Walk.{Alone, Known, Locally, var_declarable}
use Rattle.resolved_laws.proofs.Weights.{step_above}
use Rattle.static_rules.specs.Literals.{is_over_zero, weight}
use Rattle.static_rules.specs.LoopRules.{count_of_invariants, count_of_rankings, is_no_formula, loop_rules, rules_findings, rules_wrong, step_wrong, steps_over_zero}
use Rattle.static_rules.specs.RightSides.{any_argument_mismatches, any_output_mismatches, call_counts_wrong, call_mismatches, weight_findings}
use Rattle.static_rules.specs.StatementActs.{arms_acts, assigned, callee, havocs, invariant_of, loops_of_block, number_or_zero, ranking_of, targets, type_of_local}
use Rattle.static_rules.specs.StatementRules.{arms_bind, arms_findings, block_findings, block_is_rankable, havoc_rules}
use Rattle.static_rules.specs.Variables.{locals_of_block}
use Rattle.static_rules.specs.declared.settings.Setting.{Setting}
use Rattle.std.proofs.Common.{Bool, List, None, Option, Some, [], arith, false, length, refl, subst, sym, true, ◌+◌, ◌++◌, ◌==◌, ◌∙◌, ◌∷◌, ◌≡◌, ◌≤◌, ℕ}
use Rattle.std.proofs.lemmas.Bool.{and_parts, eqb-true, not-false, or_parts}
use Rattle.std.proofs.lemmas.List.{length-map}
use Rattle.std.specs.List.{list_any}
use Rattle.std.specs.Option.{is_none}
use Rattle.std.specs.Prelude.{nat_le, ◌||◌}
use Rattle.typed_expressions.specs.DeclaredVariables.{declared}
use Rattle.typed_expressions.specs.ExpressionLaws.{Agrees}
use Rattle.typed_expressions.specs.Scopes.{Scope, any_unknown, find, types_of_names}
use Rattle.typed_expressions.specs.Signatures.{Called, Signature, find_call}
use Rattle.typed_expressions.specs.Table.{declarable}
use Rattle.typed_expressions.specs.TypedExpressions.{closed_findings, elaborate, lacks}
use Rattle.typed_expressions.specs.Values.{condition, form, terms}
use Rattle.typed_expressions.specs.declared.demands.Demand.{Demand}
use Rattle.typed_expressions.specs.declared.scopes.Local.{Local}

-- ---- Calls

module _ (c : Called) (rs : List TypedProcedure) (p : TypedProcedure) (n : ℕ) (sc : Scope) (g : Agrees (types_of p) n sc) (xs : List ℕ) (ts : List (Option TypeName)) (a : AreOfTypes (types_of p) xs ts) (es : List Expression) where
  -- The facts about a called procedure that the rules of a call give.
  record CallKept (t : Signature) : Type 0 where
    arguments : any_argument_mismatches n sc es t.inputs ≡ false
    outputs : any_output_mismatches t.outputs ts ≡ false
    argument_count : length es ≡ length t.inputs
    output_count : length ts ≡ length t.outputs

  call_kept : (t : Signature) → call_mismatches n sc (Some t) es ts ≡ false → call_counts_wrong (Some t) es ts ≡ false → CallKept t
  call_kept t m k =
      let o = or_parts (any_argument_mismatches n sc es t.inputs) (any_output_mismatches t.outputs ts) m in
      let b = and_parts (length es == length t.inputs) (length ts == length t.outputs) (not-false _ k) in
      record { arguments = o.0; outputs = o.1; argument_count = eqb-true (length es) (length t.inputs) b.0; output_count = eqb-true (length ts) (length t.outputs) b.1 }

  call_fits : (t : Signature) → IsCallee c rs t → CallKept t → CallFits rs p xs t.number (terms n sc es)
  call_fits t k m =
      let i = subst CallKept (sym k.is) m in
      record {
        there = k.there;
        arguments = rw k.typed_is (arguments_fit p n sc g es k.procedure.inputs (parameters_declared 0 [] k.procedure.inputs k.clean.inputs) (i.argument_count ∙ length-map k.procedure.inputs (λ x. x.ty)) i.arguments);
        targets = rw k.typed_is (targets_fit p xs ts k.procedure.outputs a (parameters_declared (length k.procedure.inputs) _ k.procedure.outputs k.clean.outputs) (i.output_count ∙ length-map k.procedure.outputs (λ x. x.ty)) i.outputs);
      }

  found_fits : AreCallees c rs → (f : List ℕ) → (o : Option Signature) → find_call c f ≡ o → is_none o ≡ false → call_mismatches n sc o es ts ≡ false → call_counts_wrong o es ts ≡ false → CallFits rs p xs (callee o) (terms n sc es)
  found_fits k f None e i m l = absurd (cc)
  found_fits k f (Some t) e i m l = call_fits t (k f t e) (call_kept t m l)

-- ---- Loops

module _ (types : Types) (n : ℕ) (sc : Scope) (g : Agrees types n sc) where
  formula_held : (e : Expression) → closed_findings Demand.Any n sc e ≡ [] → lacks Demand.Formula (elaborate n sc e) ≡ false → IsHeld types (form (elaborate n sc e))
  formula_held e h l = is_held types n sc g e (closed_plain Demand.Any n sc e h) l

  invariant_held : (rules : List LoopRule) → rules_findings n sc rules ≡ [] → list_any (is_no_formula n sc) rules ≡ false → 1 ≤ count_of_invariants rules → IsHeld types (invariant_of n sc rules)
  invariant_held [] h l k = absurd (omega (arith, k))
  invariant_held (LoopRule.invariant i s ∷ rules) h l k = formula_held i (front_none _ _ h) (or_parts (lacks Demand.Formula (elaborate n sc i)) _ l).0
  invariant_held (LoopRule.k_induction b i s ∷ rules) h l k = formula_held i (back_none _ _ (front_none (closed_findings Demand.Any n sc b ++ closed_findings Demand.Any n sc i) _ h)) (or_parts (lacks Demand.Formula (elaborate n sc i)) _ l).0
  invariant_held (LoopRule.ranking e r s ∷ rules) h l k =
      invariant_held rules (back_none (weight_findings n sc e ++ closed_findings Demand.Any n sc r) _ h) (or_parts (lacks Demand.Formula (elaborate n sc r)) _ l).1 (omega (arith, k))

-- A ranking has a step above 0 and a formula without binders.
module _ (p : TypedProcedure) (n : ℕ) (sc : Scope) (g : Agrees (types_of p) n sc) where
  ranking_fits : (rules : List LoopRule) → rules_findings n sc rules ≡ [] → list_any (is_no_formula n sc) rules ≡ false → list_any step_wrong rules ≡ false → list_any steps_over_zero rules ≡ false → RankFits p (ranking_of n sc rules)
  ranking_fits [] h l u z = tt
  ranking_fits (LoopRule.invariant i s ∷ rules) h l u z =
      ranking_fits rules (back_none (closed_findings Demand.Any n sc i) _ h) (or_parts (lacks Demand.Formula (elaborate n sc i)) _ l).1 (or_parts false _ u).1 (or_parts false _ z).1
  ranking_fits (LoopRule.k_induction b i s ∷ rules) h l u z =
      ranking_fits rules (back_none (closed_findings Demand.Any n sc b ++ closed_findings Demand.Any n sc i) _ h) (or_parts (lacks Demand.Formula (elaborate n sc i)) _ l).1 (or_parts false _ u).1 (or_parts false _ z).1
  ranking_fits (LoopRule.ranking e r s ∷ rules) h l u z = (
    step_above (weight e) (or_parts (step_wrong (LoopRule.ranking e r s)) _ u).0 (or_parts (is_over_zero (weight e)) _ z).0,
    formula_held (types_of p) n sc g r (back_none (weight_findings n sc e) _ (front_none (weight_findings n sc e ++ closed_findings Demand.Any n sc r) _ h)) (or_parts (lacks Demand.Formula (elaborate n sc r)) _ l).0,
  )

  one_invariant : (rules : List LoopRule) → rules_wrong rules ≡ false → 1 ≤ count_of_invariants rules
  one_invariant rules h =
      let q = and_parts (count_of_invariants rules == 1) (nat_le (count_of_rankings rules) 1) (not-false _ h) in
      let e = eqb-true (count_of_invariants rules) 1 q.0 in omega (arith, e)

-- ---- Statements

module _ (rs : List TypedProcedure) (p : TypedProcedure) (h : Setting) (c : Called) (callees : AreCallees c rs) where
  module _ (n : ℕ) (sc : Scope) (k : Known (variables p) h c n sc) where
    given_one : (x : ℕ) (t : TypeName) (r : RightSide) (s : Span) → declarable t ≡ Some (types_of p x) → RightKept c n sc (Some t ∷ []) r → IsTypedAct rs p (assigned c n sc (x ∷ []) r s)
    given_one x t (RightSide.plain e) s d m = value_fits (types_of p) n sc k.agrees e t (types_of p x) d m.matches
    given_one x t (RightSide.flip e) s d m = by_flip (IsTypedAct rs p) n sc x e s (λ l. flip_drawn (types_of p) c n sc k.agrees x t d e l m) (λ l. flip_tossed (types_of p) c n sc k.agrees x t d e l m)
    given_one x t (RightSide.unif a b) s d m = unif_drawn (types_of p) c n sc k.agrees x t d a b m
    given_one x t (RightSide.choose parts) s d m = choose_drawn (types_of p) c n sc k.agrees x t d parts m
    given_one x t (RightSide.call f es) s d m = found_fits c rs p n sc k.agrees (x ∷ []) (Some t ∷ []) (d, tt) es callees f (find_call c f) refl m.known m.matches m.counts

    by_one : (xs : List ℕ) (ts : List (Option TypeName)) (r : RightSide) (s : Span) → IsOne (types_of p) xs ts → RightKept c n sc ts r → IsTypedAct rs p (assigned c n sc xs r s)
    by_one xs ts r s o m = subst (λ xs. IsTypedAct rs p (assigned c n sc xs r s)) (sym o.target_is) (given_one o.target o.ty r s o.typed (subst (λ ts. RightKept c n sc ts r) o.ty_is m))

    given_typed : (xs : List ℕ) (ts : List (Option TypeName)) (r : RightSide) (s : Span) → AreOfTypes (types_of p) xs ts → RightKept c n sc ts r → IsTypedAct rs p (assigned c n sc xs r s)
    given_typed xs ts (RightSide.plain e) s a m = by_one xs ts (RightSide.plain e) s (one_target (types_of p) xs ts a m.counts) m
    given_typed xs ts (RightSide.flip e) s a m = by_one xs ts (RightSide.flip e) s (one_target (types_of p) xs ts a m.counts) m
    given_typed xs ts (RightSide.unif u v) s a m = by_one xs ts (RightSide.unif u v) s (one_target (types_of p) xs ts a m.counts) m
    given_typed xs ts (RightSide.choose parts) s a m = by_one xs ts (RightSide.choose parts) s (one_target (types_of p) xs ts a m.counts) m
    given_typed xs ts (RightSide.call f es) s a m = found_fits c rs p n sc k.agrees xs ts a es callees f (find_call c f) refl m.known m.matches m.counts

    type_found : (x : List ℕ) (o : Option Local) → find sc x ≡ o → is_none o ≡ false → types_of p (number_or_zero o) ≡ type_of_local o
    type_found x None e u = absurd (cc)
    type_found x (Some l) e u = rw (k.agrees.declared x l e) refl

    havocs_typed : (co : Bool) (xs : List (List ℕ)) (s : Span) → any_unknown sc xs ≡ false → Alone (IsTypedAct rs p) (havocs sc co xs s)
    havocs_typed co [] s u = tt
    havocs_typed co (x ∷ xs) s u = let q = or_parts (is_none (find sc x)) (any_unknown sc xs) u in (type_found x (find sc x) refl q.0, havocs_typed co xs s q.1)

  guards_fit : (bound : Bool) (n m : ℕ) (sc : Scope) → Agrees (types_of p) n sc → (arms : text.Arms) → arms_findings h c bound n sc arms ≡ [] → GuardsFit p (arms_acts h c n m sc arms)
  guards_fit bound n m sc g text.Arms.no_arm e = tt
  guards_fit bound n m sc g (text.Arms.arm q b more) e = (
    closed_condition (types_of p) n sc g q (front_none _ _ (front_none (closed_findings Demand.Truth n sc q ++ block_findings h c (bound || arms_bind more) n sc b) _ e)),
    guards_fit bound (n + length (locals_of_block b)) (m + loops_of_block b) sc (agrees_up n _ sc (omega arith) g) more (back_none _ _ e),
  )

  loop_fits : (n : ℕ) (sc : Scope) → Agrees (types_of p) n sc → (rules : List LoopRule) (q : Expression) (rankable : Bool) (s : Span) → rules_findings n sc rules ≡ [] → closed_findings Demand.Truth n sc q ≡ [] → Each (λ rule. rule.1 ≡ false) (loop_rules n sc rules rankable) → (number k : ℕ) (scope : List ℕ) → LoopFits p (record { number = number; k = k; inv = invariant_of n sc rules; guard = condition (elaborate n sc q); rank = ranking_of n sc rules; scope = scope; span = s })
  loop_fits n sc g rules q rankable s e i kept number k scope = record {
    inv = invariant_held (types_of p) n sc g rules e kept.0 (one_invariant p n sc g rules kept.1.1.1.0);
    guard = closed_condition (types_of p) n sc g q i;
    rank = ranking_fits p n sc g rules e kept.0 kept.1.0 kept.1.1.0;
  }

  pub typed_locally : Locally (variables p) h c (IsTypedAct rs p)
  typed_locally bound n m sc (Statement.var x t None s) k l e = (type_at (variables p) n (declared x t) [] l, tt)
  typed_locally bound n m sc (Statement.var x t (Some r) s) k l e =
      (given_one n sc k n t r s (declared_at (variables p) n x t [] l (var_declarable h c n sc x t (Some r) s e)) (var_kept h c n sc bound x t r s e), tt)
  typed_locally bound n m sc (Statement.assign xs r s) k l e =
      (given_typed n sc k (targets sc xs) (types_of_names sc xs) r s (targets_typed (types_of p) n sc k.agrees xs (targets_known h c n sc bound xs r s e)) (assign_kept h c n sc bound xs r s e), tt)
  typed_locally bound n m sc (Statement.check kind a s) k l e = (closed_held (types_of p) n sc k.agrees a (front_none _ _ e), tt)
  typed_locally bound n m sc (Statement.validate co s) k l e = (tt, tt)
  typed_locally bound n m sc (Statement.havoc co xs s) k l e = havocs_typed n sc k co xs s (all_kept s (havoc_rules h sc co xs) e).0
  typed_locally bound n m sc (Statement.reward a s) k l e = (closed_held (types_of p) n sc k.agrees a (front_none _ _ e), tt)
  typed_locally bound n m sc (Statement.branch arms other s) k l e = (guards_fit _ n m sc k.agrees arms (front_none _ _ e), tt)
  typed_locally bound n m sc (Statement.pick up a b s) k l e = (tt, tt)
  typed_locally bound n m sc (Statement.loop rules q b s) k l e =
      let f = front_none (rules_findings n sc rules ++ closed_findings Demand.Truth n sc q) _ (front_none (rules_findings n sc rules ++ closed_findings Demand.Truth n sc q ++ block_findings h c true n sc b) _ e) in
      (loop_fits n sc k.agrees rules q (block_is_rankable b) s (front_none _ _ f) (back_none _ _ f) (all_kept s (loop_rules n sc rules (block_is_rankable b)) (back_none (rules_findings n sc rules ++ closed_findings Demand.Truth n sc q ++ block_findings h c true n sc b) _ e)) m _ _, tt)
