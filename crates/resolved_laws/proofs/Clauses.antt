-- The pre and the post of a procedure without findings.
use Rattle.heylo_formula.proofs.exported.Plain.{joins}
use Rattle.heylo_formula.proofs.exported.Substitutions.{binder_free_directed}
use Rattle.heylo_formula.specs.Binders.{has_binder}
use Rattle.heylo_formula.specs.Extrema.{is_directed}
use Rattle.heylo_formula.specs.Formula.{Form}
use Rattle.heylo_formula.specs.Operators.{agree}
use Rattle.heylo_formula.specs.Typing.{IsFormula, Types, is_unsigned, type_of, types_in}
use Rattle.heylo_formula.specs.Variables.{IsOver, is_free}
use Rattle.heylo_formula.specs.declared.types.Ty.{Ty}
use Rattle.heyvl_acts.specs.Acts.{type_list}
use Rattle.heyvl_acts.specs.Rules.{Each}
use Rattle.heyvl_acts.specs.WellTypedActs.{IsHeld}
use Rattle.heyvl_num.specs.Gcd.{gcd, gcd_steps}
use Rattle.heyvl_num.specs.Rational.{leqʳ, ratio, zeroʳ}
use Rattle.heyvl_num.specs.Value.Value.{infinite}
use Rattle.heyvl_num.specs.Value.{zeroᵛ}
use Rattle.heyvl_syntax.specs.Expressions.{Expression}
use Rattle.heyvl_syntax.specs.Procedures.{Procedure}
use Rattle.static_rules.proofs.exported.Findings.{back_none, front_none}
use Rattle.resolved_laws.proofs.Formulas.{closed_held, form_over, front_formula}
use Rattle.resolved_laws.proofs.Heads.{IsClean, head_agrees, inputs_agree, length_parameters}
use Rattle.resolved_laws.proofs.Locals.{Stands, agrees_up}
use Rattle.resolved_laws.proofs.Nodes.{own_kept}
use Rattle.resolved_laws.proofs.Quantifiers.{IsPlain, becomes_plain, closed_plain}
use Rattle.static_rules.specs.Files.{arity, clause, first_quantified, front_of, head_scope, input_scope, joined_with, post_forms, posts_findings, pre_forms, pres_findings, typed}
use Rattle.static_rules.specs.Variables.{parameters}
use Rattle.std.proofs.Common.{Bool, List, None, Option, Some, [], arith, false, inl, inr, length, length-append, refl, suc, sym, true, ◌+◌, ◌++◌, ◌<◌, ◌∷◌, ◌≡◌, ◌≤◌, ◌⊎◌, ℕ}
use Rattle.std.proofs.lemmas.Bool.{and_from, not-false, or_cases, or_from}
use Rattle.std.proofs.lemmas.List.{append-nil}
use Rattle.std.specs.Prelude.{not}
use Rattle.typed_expressions.proofs.exported.Free.{IsBelow}
use Rattle.typed_expressions.proofs.exported.TypedMeanings.{given_some, never, become}
use Rattle.typed_expressions.specs.DeclaredVariables.{front_variables}
use Rattle.typed_expressions.specs.ExpressionLaws.{Agrees}
use Rattle.typed_expressions.specs.Scopes.{Scope, with_local}
use Rattle.typed_expressions.specs.Signatures.{Called}
use Rattle.typed_expressions.specs.Table.{Meaning, bound, declarable, extended, quantified}
use Rattle.typed_expressions.specs.TypedExpressions.{allows, closed_findings, elaborate, findings}
use Rattle.typed_expressions.specs.Values.{form}
use Rattle.typed_expressions.specs.declared.demands.Demand.{Demand}
use Rattle.typed_expressions.specs.declared.demands.Front.{Front}

-- ---- Joined clauses

-- A property of 0, of infinity, and of the maximum and minimum of two formulas that have it. Joined
-- clauses have it if each clause has it.
pub record IsJoined (Q : Form → Type 0) : Type 0 where
  pub zero : Q (Form.number zeroᵛ)
  pub infinity : Q (Form.number infinite)
  pub max : (f g : Form) → Q f → Q g → Q (Form.max f g)
  pub min : (f g : Form) → Q f → Q g → Q (Form.min f g)

module _ (Q : Form → Type 0) (J : IsJoined Q) where
  joined_holds : (co : Bool) (f : Form) (fs : List Form) → Q f → Each Q fs → Q (joined_with co f fs)
  joined_holds true f [] p q = p
  joined_holds false f [] p q = p
  joined_holds true f (g ∷ gs) p q = joined_holds true (Form.max f g) gs (J.max f g p q.0) q.1
  joined_holds false f (g ∷ gs) p q = joined_holds false (Form.min f g) gs (J.min f g p q.0) q.1

  pub clause_holds : (co : Bool) (fs : List Form) → Each Q fs → Q (clause co fs)
  clause_holds true [] q = J.zero
  clause_holds false [] q = J.infinity
  clause_holds true (f ∷ fs) q = joined_holds true f fs q.0 q.1
  clause_holds false (f ∷ fs) q = joined_holds false f fs q.0 q.1

  each_pre : (n : ℕ) (sc : Scope) → ((e : Expression) → closed_findings Demand.Formula n sc e ≡ [] → Q (form (elaborate n sc e))) → (es : List Expression) → pres_findings n sc es ≡ [] → Each Q (pre_forms n sc es)
  each_pre n sc h [] e = tt
  each_pre n sc h (x ∷ xs) e = (h x (front_none _ _ e), each_pre n sc h xs (back_none _ _ e))

  each_post : (f : Front) (k n : ℕ) (sc : Scope) → k ≤ n → ((n : ℕ) (e : Expression) → k ≤ n → findings f Demand.Formula n sc e ≡ [] → Q (form (elaborate n sc e))) → (es : List Expression) → posts_findings f n sc es ≡ [] → Each Q (post_forms n sc es)
  each_post f k n sc l h [] e = tt
  each_post f k n sc l h (x ∷ xs) e =
      (h n x l (front_none _ _ e), each_post f k (n + length (front_variables x)) sc (omega arith) h xs (back_none _ _ e))

zero_formula : (types : Types) → IsFormula types (Form.number zeroᵛ)
unfolding zeroᵛ zeroʳ ratio leqʳ gcd gcd_steps
zero_formula types = refl

formulas_join : (types : Types) → IsJoined (IsFormula types)
formulas_join types = record {
  zero = zero_formula types;
  infinity = refl;
  max = λ f g p q. joins (type_of types f) (type_of types g) p q;
  min = λ f g p q. joins (type_of types f) (type_of types g) p q;
}

held_join : (types : Types) → IsJoined (IsHeld types)
held_join types = record {
  zero = (zero_formula types, refl);
  infinity = (refl, refl);
  max = λ f g p q. (joins (type_of types f) (type_of types g) p.0 q.0, or_from (has_binder f) (has_binder g) p.1 q.1);
  min = λ f g p q. (joins (type_of types f) (type_of types g) p.0 q.0, or_from (has_binder f) (has_binder g) p.1 q.1);
}

over_both : (k : ℕ) (f g : Form) → IsOver k f → IsOver k g → (x : ℕ) → (is_free x f ≡ true) ⊎ (is_free x g ≡ true) → x < k
over_both k f g p q x (inl h) = p x h
over_both k f g p q x (inr h) = q x h

over_join : (k : ℕ) → IsJoined (IsOver k)
over_join k = record {
  zero = λ x e. absurd (cc);
  infinity = λ x e. absurd (cc);
  max = λ f g p q x e. over_both k f g p q x (or_cases (is_free x f) (is_free x g) e);
  min = λ f g p q x e. over_both k f g p q x (or_cases (is_free x f) (is_free x g) e);
}

abbrev IsDirected : Bool → Form → Type 0
IsDirected co f = is_directed co f ≡ true

directed_join : (co : Bool) → IsJoined (IsDirected co)
directed_join co = record {
  zero = refl;
  infinity = refl;
  max = λ f g p q. and_from (is_directed co f) (is_directed co g) p q;
  min = λ f g p q. and_from (is_directed co f) (is_directed co g) p q;
}

-- ---- Directions of quantifiers

abbrev IsDirectedMeaning : Bool → Meaning → Type 0
IsDirectedMeaning co (Meaning.truth g) = Unit {0}
IsDirectedMeaning co (Meaning.number t a) = IsDirected co a
IsDirectedMeaning co Meaning.real = Unit {0}

plain_directed : (co : Bool) (m : Meaning) → IsPlain m → IsDirectedMeaning co m
plain_directed co (Meaning.truth g) h = tt
plain_directed co (Meaning.number t a) h = binder_free_directed co a h
plain_directed co Meaning.real h = tt

-- A leading quantifier without a finding has the direction of the procedure.
agree_allowed : (co up : Bool) → not (allows (front_of co) up) ≡ false → agree co up ≡ true
agree_allowed true up h = not-false up h
agree_allowed false true h = absurd (cc)
agree_allowed false false h = refl

directed_bound : (co up : Bool) (n : ℕ) (ty : Ty) (x m : Meaning) → agree co up ≡ true → IsDirectedMeaning co x → bound up n ty x ≡ Some m → IsDirectedMeaning co m
directed_bound co up n ty (Meaning.truth g) m a h e = never m e
directed_bound co up n ty Meaning.real m a h e = never m e
directed_bound co up n ty (Meaning.number t f) m a h e = go (is_unsigned (Some t)) e
  where
    go : (b : Bool) → extended b (Form.bind up n n ty f) ≡ Some m → IsDirectedMeaning co m
    go true i = become (IsDirectedMeaning co) _ m i (and_from (agree co up) (is_directed co f) a h)
    go false i = never m i

becomes_directed : (co : Bool) (d : Demand) (n : ℕ) (sc : Scope) (e : Expression) (m : Meaning) → findings (front_of co) d n sc e ≡ [] → elaborate n sc e ≡ Some m → IsDirectedMeaning co m
becomes_directed co d n sc (Expression.bound up x t a s) m h e =
    let k = own_kept (front_of co) d n sc (Expression.bound up x t a s) (back_none _ _ h) in
    let i = given_some (elaborate (suc n) (with_local x (record { number = n; ty = t }) sc) a) (quantified up n t) m e in
    let y = given_some (declarable t) (λ ty. bound up n ty i.0) m i.2 in
    directed_bound co up n y.0 i.0 m (agree_allowed co up k.placed) (becomes_directed co Demand.Any (suc n) _ a i.0 (front_none _ _ h) i.1) y.2
becomes_directed co d n sc e m h i = plain_directed co m (becomes_plain n sc e m (closed_plain d n sc e h) i)

directed_meant : (co : Bool) (o : Option Meaning) → ((m : Meaning) → o ≡ Some m → IsDirectedMeaning co m) → IsDirected co (form o)
directed_meant co None h = refl
directed_meant co (Some (Meaning.truth g)) h = refl
directed_meant co (Some (Meaning.number t a)) h = h (Meaning.number t a) refl
directed_meant co (Some Meaning.real) h = refl

-- ---- Procedures

module _ (c : Called) (p : Procedure) (k : IsClean c p) where
  inputs_stand : Stands (parameters p.inputs) 0 (parameters p.inputs)
  inputs_stand = record { before = []; behind = []; whole = sym (append-nil _); number = refl }

  head_stands : Stands (parameters p.inputs ++ parameters p.outputs) 0 (parameters p.inputs ++ parameters p.outputs)
  head_stands = record { before = []; behind = []; whole = sym (append-nil _); number = refl }

  inputs_known : Agrees (types_in (type_list (parameters p.inputs))) (length p.inputs) (input_scope p)
  inputs_known = inputs_agree c p k (parameters p.inputs) inputs_stand

  head_known : Agrees (types_in (type_list (parameters p.inputs ++ parameters p.outputs))) (arity p) (head_scope p)
  head_known = head_agrees c p k (parameters p.inputs ++ parameters p.outputs) head_stands

  inputs_below : IsBelow (length (parameters p.inputs)) (input_scope p)
  inputs_below = record { below = λ x l e. let i = inputs_known.below x l e in let j = length_parameters p.inputs in omega (arith, i, j) }

  head_below : IsBelow (length (parameters p.inputs ++ parameters p.outputs)) (head_scope p)
  head_below = record { below = λ x l e. let i = head_known.below x l e in omega (arith, i, length-append (parameters p.inputs) (parameters p.outputs), length_parameters p.inputs, length_parameters p.outputs) }

  pub pre_held : IsHeld (types_in (type_list (typed c p).inputs)) (typed c p).pre
  pre_held =
      clause_holds _ (held_join _) p.co _
      (each_pre _ (held_join _) (arity p) (input_scope p) (λ e h. closed_held _ (arity p) (input_scope p) (agrees_up (length p.inputs) (arity p) (input_scope p) (omega arith) inputs_known) e h) p.pres k.pres)

  pub pre_over : IsOver (length (typed c p).inputs) (typed c p).pre
  pre_over = clause_holds _ (over_join _) p.co _ (each_pre _ (over_join _) (arity p) (input_scope p) (λ e h. form_over _ (arity p) (input_scope p) inputs_below e) p.pres k.pres)

  pub post_formula : IsFormula (types_in (type_list ((typed c p).inputs ++ (typed c p).outputs))) (typed c p).post
  post_formula =
      clause_holds _ (formulas_join _) p.co _
      (each_post _ (formulas_join _) (front_of p.co) (arity p) (first_quantified p) (head_scope p) (omega arith)
      (λ n e l h. front_formula _ n (head_scope p) (agrees_up (arity p) n (head_scope p) l head_known) e (front_of p.co) h) p.posts k.posts)

  pub post_over : IsOver (length ((typed c p).inputs ++ (typed c p).outputs)) (typed c p).post
  post_over = clause_holds _ (over_join _) p.co _ (each_post _ (over_join _) (front_of p.co) (arity p) (first_quantified p) (head_scope p) (omega arith) (λ n e l h. form_over _ n (head_scope p) head_below e) p.posts k.posts)

  pub post_directed : is_directed p.co (typed c p).post ≡ true
  post_directed =
      clause_holds (IsDirected p.co) (directed_join p.co) p.co _
      (each_post (IsDirected p.co) (directed_join p.co) (front_of p.co) (arity p) (first_quantified p) (head_scope p) (omega arith)
      (λ n e l h. directed_meant p.co (elaborate n (head_scope p) e) (λ m i. becomes_directed p.co Demand.Formula n (head_scope p) e m h i)) p.posts k.posts)
