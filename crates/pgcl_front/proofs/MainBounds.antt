-- Bounds of the coproc of a program are bounds of the program.
use Prim.Native.Nat.{suc, zero}
use Rattle.pgcl_front.proofs.Beginnings.{one_type}
use Rattle.pgcl_front.proofs.MainSums.{clean, main_sums, placed}
use Rattle.pgcl_front.proofs.Meanings.{Alike, alike, same_form}
use Rattle.pgcl_front.proofs.QuietPrograms.{quiet_program}
use Rattle.pgcl_front.proofs.QuietTokens.{IsPlain, IsQuiet}
use Rattle.pgcl_front.proofs.Scopes.{InScope, Placed, inputs_as_outputs, variable_alike}
use Rattle.pgcl_front.specs.EqualSums.{BoundsCarryOver, descend}
use Rattle.pgcl_front.specs.GuardedRuns.{program_sum}
use Rattle.pgcl_front.specs.Readings.{IsGuardedState, amount, own_scope, type_of}
use Rattle.heylo_formula.proofs.exported.States.{length-typed, typed_append}
use Rattle.heylo_formula.specs.Choices.{Choices}
use Rattle.heylo_formula.specs.Meaning.{value}
use Rattle.heylo_formula.specs.State.{IsTyped, default, environment, get}
use Rattle.heylo_formula.specs.declared.values.Val.TheVariants.{Truth}
use Rattle.heylo_formula.specs.declared.values.Val.{Val}
use Rattle.heyvl_acts.specs.Acts.{TypedProcedure, Variable, procedure_at, type_list}
use Rattle.heyvl_num.specs.Value.{◌≤ᵛ◌}
use Rattle.heyvl_places.specs.declared.spans.Span.{Span}
use Rattle.heyvl_syntax.specs.Expressions.{Expression}
use Rattle.heyvl_syntax.specs.Procedures.{Procedure}
use Rattle.heyvl_syntax.specs.declared.operators.BinaryOp.TheVariants as ops
use Rattle.heyvl_syntax.specs.declared.operators.BinaryOp.{BinaryOp}
use Rattle.static_rules.specs.Files.{arity, first_fault, head_scope, input_scope, resolved}
use Rattle.typed_expressions.specs.Scopes.{Scope, find}
use Rattle.typed_expressions.specs.Values.{form}
use Rattle.typed_expressions.specs.Table.{Meaning, bracket, choice, divisor, embedding, factor, given, quotient, unary, variable}
use Rattle.typed_expressions.specs.TypedExpressions.{elaborate, operated}
use Rattle.static_rules.specs.Variables.{parameters}
use Rattle.guarded_commands.specs.Programs.{ProgramTree}
use Rattle.guarded_commands.specs.Translation.{at_start, first_place, input, input_name, translated}
use Rattle.guarded_commands.specs.declared.programs.Declaration.{Declaration}
use Rattle.run_machine.proofs.exported.TypedStates.{defaults_typed}
use Rattle.run_machine.specs.Bound.{Bound, IsState}
use Rattle.run_machine.specs.Configurations.{begin}
use Rattle.run_machine.specs.Runs.{runs}
use Rattle.run_machine.specs.Scheduler.{Forest, Tree}
use Rattle.run_machine.specs.Step.{Decision}
use Rattle.run_machine.specs.Sums.{sum_of}
use Rattle.std.proofs.Common.{List, None, Option, Some, [], ap, ap₂, false, inl, inr, length, map, refl, subst, sym, take, true, ◌++◌, ◌+◌, ◌<◌, ◌∙◌, ◌∷◌, ◌≡◌, ℕ}
use Rattle.std.proofs.Math.Seq.{take-append_seam}
use Rattle.std.proofs.lemmas.List.{get_or-take, length-map}
use Rattle.std.specs.Prelude.{option_map}

-- ---- The pre

same_divisor : (e : Expression) → divisor (at_start e) ≡ divisor e
same_divisor (Expression.number n s) = refl
same_divisor _ = refl

same_operated : (op : BinaryOp) (s : Span) (b : Expression) (x y : Meaning) → operated op s (at_start b) x y ≡ operated op s b x y
same_operated ops.Slash s b x y = ap (λ d. quotient (factor d) x) (same_divisor b)
same_operated _ s b x y = refl

given_same : (o p : Option Meaning) (f g : Meaning → Option Meaning) → o ≡ p → ((x : Meaning) → f x ≡ g x) → given o f ≡ given p g
given_same o p f g e h = subst (λ q. given o f ≡ given q g) e (go o)
  where
    go : (o : Option Meaning) → given o f ≡ given o g
    go None = refl
    go (Some x) = h x

-- An expression over the inputs is elaborated to the form of the expression over the variables.
module _ (ins own : Scope) (names : (x : List ℕ) → find ins (input_name x) ≡ find own x) (n m : ℕ) where
  started : (e : Expression) → IsQuiet e → elaborate n ins (at_start e) ≡ elaborate m own e
  started (Expression.number v s) q = refl
  started (Expression.truth b s) q = refl
  started (Expression.infinity s) q = refl
  started (Expression.name x s) q = ap (option_map variable) (names x)
  started (Expression.group a s) q = started a q
  started (Expression.bracket a s) q = ap (λ x. given x bracket) (started a q)
  started (Expression.embed a s) q = ap (λ x. given x embedding) (started a q)
  started (Expression.unary op a s) q = ap (λ x. given x (unary op)) (started a q)
  started (Expression.binary op a b s) q = given_same _ _ _ _ (started a q.0) (λ x. given_same _ _ _ _ (started b q.1) (λ y. same_operated op s b x y))
  started (Expression.choice a b c s) q = given_same _ _ _ _ (started a q.0) (λ x. given_same _ _ _ _ (started b q.1.0) (λ y. ap (λ z. given z (choice x y)) (started c q.1.1)))
  started (Expression.bound up x t a s) q = absurd q

-- A quiet expression means the same in states that agree on the variables.
module _ (v : ℕ) (own head : Scope) (p : InScope v own head) (s t : List Val) (a : (i : ℕ) → i < v → get i s ≡ get i t) where
  own_names : (x : List ℕ) → IsPlain x → Alike (environment s) (environment t) (option_map variable (find own x)) (option_map variable (find own x))
  own_names x plain = go (p x plain)
    where
      go : Placed v own head x → Alike (environment s) (environment t) (option_map variable (find own x)) (option_map variable (find own x))
      go (inl p) = rw p.0 tt
      go (inr p) = rw p.1.1.1.0 (variable_alike s t p.0 p.0 p.1.0 (a p.0 p.1.1.0))

  same_amount : (e : Expression) → IsQuiet e → amount own e s ≡ amount own e t
  same_amount e q = same_form (environment s) (environment t) (elaborate 0 own e) (elaborate 0 own e) (alike (environment s) (environment t) own own own_names 0 0 e q)

-- ---- The tree above

-- A tree whose subtree after `k` steps is the given one.
abbrev above : ℕ → Tree → Tree
above zero t = t
above (suc k) t = Tree.node Decision.none (Forest.trees (above k t) Forest.no_trees)

reached : (k : ℕ) (t : Tree) → descend k (above k t) ≡ t
reached zero t = refl
reached (suc k) t = reached k t

-- ---- The state before the first statements

input_types : (ds : List Declaration) → map (λ d. type_of d.ty) ds ≡ type_list (parameters (map input ds))
input_types [] = refl
input_types (d ∷ ds) = ap₂ (λ x xs. x ∷ xs) (one_type d.ty) (input_types ds)

types_append : (xs ys : List Variable) → type_list (xs ++ ys) ≡ type_list xs ++ type_list ys
types_append [] ys = refl
types_append (x ∷ xs) ys = ap (λ z. x.ty ∷ z) (types_append xs ys)

module _ (place : Span) (program : ProgramTree) where
  abbrev main : Procedure
  main = translated place program

  abbrev ps : List TypedProcedure
  ps = resolved (main ∷ [])

  abbrev ds : List Declaration
  ds = program.declarations

  abbrev rest : List Variable
  rest = (procedure_at ps 0).outputs ++ (procedure_at ps 0).locals

  abbrev begun : List Val → List Val
  begun s = s ++ map default (type_list rest)

  begun_typed : (s : List Val) → IsGuardedState ds s → IsState (procedure_at ps 0) (begun s)
  begun_typed s h = subst (λ tys. IsTyped tys (begun s)) (sym (types_append (parameters (map input ds)) rest)) (typed_append (type_list (parameters (map input ds))) (type_list rest) s (map default (type_list rest)) (subst (λ tys. IsTyped tys s) (input_types ds) h) (defaults_typed (type_list rest)))

  begun_front : (s : List Val) → IsGuardedState ds s → take (length ds) (begun s) ≡ s
  begun_front s h = subst (λ n. take n (begun s) ≡ s) (length-typed (map (λ d. type_of d.ty) ds) s h ∙ length-map ds _) (take-append_seam s (map default (type_list rest)))

  module _ (quiet : IsQuiet program.pre) (p : InScope (length ds) (own_scope ds) (head_scope main)) where
    same_pre : (s : List Val) → IsGuardedState ds s → value (procedure_at ps 0).pre (environment (begun s)) Choices.stop ≡ amount (own_scope ds) program.pre s
    same_pre s h =
        ap (λ o. value (form o) (environment (begun s)) Choices.stop) (started (input_scope main) (own_scope ds) (λ x. inputs_as_outputs 0 ds [] [] x refl) (arity main) 0 program.pre quiet)
        ∙ sym (same_amount (length ds) (own_scope ds) (head_scope main) p s (begun s) (λ i lt. ap (λ z. get i z) (sym (begun_front s h)) ∙ get_or-take (length ds) (begun s) i (Truth false) lt) program.pre quiet)

pub bounds_carry_over : BoundsCarryOver
bounds_carry_over tokens file t e bound s h n tree =
    let place = first_place tokens in
    let program = t.program in
    let e' : first_fault (translated place program ∷ []) ≡ None = subst (λ f. first_fault f ≡ None) t.is_file e in
    let bound' : Bound (resolved (translated place program ∷ [])) 0 = subst (λ f. Bound (resolved f) 0) t.is_file bound in
    let quiet = quiet_program program tokens t.translatable in
    let c = clean place program e' in
    let start = begun place program s in
    let typed = begun_typed place program s h in
    let k = length program.declarations in
    let equal = main_sums place program quiet c start typed n (above k tree) in
    let most = bound' start typed (n + k) (above k tree) in
    let at_pre = subst (λ x. sum_of true (procedure_at (resolved (translated place program ∷ [])) 0).post (runs (resolved (translated place program ∷ [])) (n + k) (begin (resolved (translated place program ∷ [])) 0 start) (above k tree)) ≤ᵛ x) (same_pre place program quiet.pre (placed place program) s h) most in
    let summed = subst (λ x. x ≤ᵛ amount (own_scope program.declarations) program.pre s) (sym equal) at_pre in
    let in_state = subst (λ x. program_sum program n x (descend k (above k tree)) ≤ᵛ amount (own_scope program.declarations) program.pre s) (begun_front place program s h) summed in
    subst (λ x. program_sum program n s x ≤ᵛ amount (own_scope program.declarations) program.pre s) (reached k tree) in_state
