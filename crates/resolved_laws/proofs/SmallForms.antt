-- The formulas and conditions of a typed procedure are small compared with its expressions.
use Rattle.heylo_formula.specs.Formula.{Form}
use Rattle.heylo_formula.specs.Sizes.{nodes}
use Rattle.heylo_formula.specs.Typing.{Types, types_in}
use Rattle.heyvl_acts.specs.Acts.{acts_in, type_list, variables}
use Rattle.heyvl_acts.specs.FormSizes.{ActWithin, FormsWithin}
use Rattle.heyvl_acts.specs.Places.{in_order}
use Rattle.heyvl_acts.specs.Rules.{Each}
use Rattle.heyvl_syntax.specs.Expressions.{Expression}
use Rattle.heyvl_syntax.specs.Procedures.{Procedure}
use Rattle.heyvl_syntax.specs.Sizes.{nodes as expression_nodes, nodes_of_all, nodes_of_body, nodes_of_procedure}
use Rattle.heyvl_syntax.specs.Statements.{Block}
use Rattle.resolved_laws.proofs.Bodies.{head_known}
use Rattle.resolved_laws.proofs.Heads.{IsClean, body_stands, head_agrees, head_stands, inputs_agree}
use Rattle.resolved_laws.proofs.Locals.{Stands, agrees_up, stands_front}
use Rattle.resolved_laws.proofs.Sizes.{form_small}
use Rattle.resolved_laws.proofs.SmallActs.{small_block}
use Rattle.static_rules.specs.Files.{arity, body_acts, body_findings, clause, first_quantified, has_quantified_post, head_scope, input_scope, joined_with, post_forms, pre_forms, setting, typed}
use Rattle.static_rules.specs.Variables.{locals_of_body, parameters}
use Rattle.std.proofs.Common.{Bool, List, None, Option, Some, [], arith, false, true, ◌*◌, ◌+◌, ◌≡◌, ◌≤◌, ◌∷◌, ℕ}
use Rattle.std.proofs.lemmas.Bool.{ltb-false, or_parts}
use Rattle.std.proofs.lemmas.List.Sums.{sum_by-cons}
use Rattle.std.specs.Prelude.{length}
use Rattle.typed_expressions.specs.DeclaredVariables.{front_variables}
use Rattle.typed_expressions.specs.ExpressionLaws.{Agrees}
use Rattle.typed_expressions.specs.Scopes.{Scope}
use Rattle.typed_expressions.specs.Signatures.{called}

-- ---- Joined clauses

-- The nodes of formulas, with one more for each formula.
total : List Form → ℕ
total [] = 0
total (f ∷ fs) = 1 + nodes f + total fs

joined_within : (co : Bool) (f : Form) (fs : List Form) → nodes (joined_with co f fs) ≤ nodes f + total fs
unfolding total
joined_within co f [] = omega arith
joined_within true f (g ∷ gs) = let i = joined_within true (Form.max f g) gs in omega (arith, i)
joined_within false f (g ∷ gs) = let i = joined_within false (Form.min f g) gs in omega (arith, i)

clause_within : (co : Bool) (fs : List Form) (most : ℕ) → 1 ≤ most → total fs ≤ most → nodes (clause co fs) ≤ most
unfolding total
clause_within true [] most l m = l
clause_within false [] most l m = l
clause_within true (f ∷ fs) most l m = let i = joined_within true f fs in omega (arith, i, m)
clause_within false (f ∷ fs) most l m = let i = joined_within false f fs in omega (arith, i, m)

module _ (types : Types) where
  pre_total : (n : ℕ) (sc : Scope) → Agrees types n sc → (es : List Expression) → total (pre_forms n sc es) ≤ 2 * nodes_of_all es + length es
  unfolding total
  pre_total n sc h [] = omega arith
  pre_total n sc h (e ∷ es) =
      let c = sum_by-cons expression_nodes e es in
      let i = form_small types n sc h e in
      let j = pre_total n sc h es in
      omega (arith, c, i, j)

  post_total : (n : ℕ) (sc : Scope) → Agrees types n sc → (es : List Expression) → total (post_forms n sc es) ≤ 2 * nodes_of_all es + length es
  unfolding total
  post_total n sc h [] = omega arith
  post_total n sc h (e ∷ es) =
      let c = sum_by-cons expression_nodes e es in
      let i = form_small types n sc h e in
      let j = post_total (n + length (front_variables e)) sc (agrees_up n _ sc (omega arith) h) es in
      omega (arith, c, i, j)

-- ---- Procedures

-- There are few clauses.
record IsShort (p : Procedure) : Type 0 where
  pres : length p.pres ≤ 64
  posts : length p.posts ≤ 64

module _ (ps : List Procedure) (p : Procedure) (k : IsClean (called ps) p) where
  short : IsShort p
  short =
      let e = or_parts _ _ k.size in
      let d = or_parts _ _ e.0 in
      let b = or_parts _ _ d.0 in
      let a = or_parts _ _ b.0 in
      record { pres = ltb-false 64 (length p.pres) a.1; posts = ltb-false 64 (length p.posts) b.1 }

  small_acts : Each (ActWithin (2 * nodes_of_procedure p + 64)) (in_order (acts_in (typed (called ps) p).body))
  small_acts = go p.body (body_stands (called ps) p) k.body (omega arith)
    where
      go : (b : Option Block) → Stands (variables (typed (called ps) p)) (arity p) (locals_of_body b) → body_findings (setting p) (called ps) (has_quantified_post p) (arity p) (head_scope p) b ≡ [] → nodes_of_body b ≤ nodes_of_procedure p
          → Each (ActWithin (2 * nodes_of_procedure p + 64)) (in_order (acts_in (body_acts (setting p) (called ps) (arity p) (head_scope p) b)))
      go None z f l = tt
      go (Some b) z f l = small_block (variables (typed (called ps) p)) (setting p) (called ps) (2 * nodes_of_procedure p + 64) (has_quantified_post p) (arity p) 1 (head_scope p) b (head_known ps p k) z f (omega (arith, l))

  pub forms_small : FormsWithin (2 * nodes_of_procedure p + 64) (typed (called ps) p)
  forms_small =
      let types = types_in (type_list (variables (typed (called ps) p))) in
      let z = head_stands (called ps) p in
      let inputs = agrees_up (length p.inputs) (arity p) (input_scope p) (omega arith) (inputs_agree (called ps) p k (variables (typed (called ps) p)) (stands_front _ 0 (parameters p.inputs) (parameters p.outputs) z)) in
      let head = agrees_up (arity p) (first_quantified p) (head_scope p) (omega arith) (head_agrees (called ps) p k (variables (typed (called ps) p)) z) in
      let i = pre_total types (arity p) (input_scope p) inputs p.pres in
      let j = post_total types (first_quantified p) (head_scope p) head p.posts in
      let s = short in
      record {
        pre = clause_within p.co (pre_forms (arity p) (input_scope p) p.pres) (2 * nodes_of_procedure p + 64) (omega arith) (omega (arith, i, s.pres));
        post = clause_within p.co (post_forms (first_quantified p) (head_scope p) p.posts) (2 * nodes_of_procedure p + 64) (omega arith) (omega (arith, j, s.posts));
        acts = small_acts;
      }
