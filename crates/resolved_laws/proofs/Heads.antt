-- A procedure without findings: its parts, its limits, and the types of its scopes.
use Rattle.heylo_formula.specs.Typing.{types_in}
use Rattle.heylo_formula.specs.declared.types.Ty.{Ty}
use Rattle.heyvl_acts.specs.Acts.{Variable, acts_in, type_list, variables}
use Rattle.heyvl_acts.specs.Count.{count_of}
use Rattle.heyvl_acts.specs.Rules.{Each}
use Rattle.heyvl_syntax.specs.Procedures.{Procedure}
use Rattle.heyvl_syntax.specs.declared.procedures.Param.{Param}
use Rattle.static_rules.proofs.exported.Findings.{all_kept, back_none, front_none}
use Rattle.resolved_laws.proofs.Locals.{Stands, agrees_up, agrees_with, declared_at, stands_at, stands_back, stands_front, stands_next}
use Rattle.static_rules.specs.Files.{arity, body_acts, body_findings, first_quantified, front_of, has_quantified_post, head_scope, input_scope, is_too_large, is_wlp, parameters_findings, posts_findings, pres_findings, procedure_findings, procedures_findings, setting, typed}
use Rattle.static_rules.specs.Variables.{behind_parameters, locals_of_body, parameters}
use Rattle.std.proofs.Common.{Bool, List, [], append_assoc, arith, false, length, length-append, refl, suc, sym, ◌+◌, ◌++◌, ◌∷◌, ◌≡◌, ◌≤◌, ℕ}
use Rattle.std.proofs.lemmas.Bool.{ltb-false, or_parts}
use Rattle.std.proofs.lemmas.List.{length-map}
use Rattle.std.specs.List.{list_any}
use Rattle.std.specs.Option.{is_none}
use Rattle.std.specs.Prelude.{nat_lt, ◌&&◌}
use Rattle.std.specs.Str.{bytes_eq}
use Rattle.typed_expressions.specs.DeclaredVariables.{declared, fronts_variables}
use Rattle.typed_expressions.specs.ExpressionLaws.{Agrees}
use Rattle.typed_expressions.specs.Findings.{at}
use Rattle.typed_expressions.specs.Scopes.{Scope, is_visible}
use Rattle.typed_expressions.specs.Signatures.{Called}
use Rattle.typed_expressions.specs.Table.{declarable}

-- No part of the procedure has findings.
pub record IsClean (c : Called) (p : Procedure) : Type 0 where
  pub noted : (is_wlp p.note && p.co) ≡ false
  pub inputs : parameters_findings 0 [] p.inputs ≡ []
  pub outputs : parameters_findings (length p.inputs) (input_scope p) p.outputs ≡ []
  pub pres : pres_findings (arity p) (input_scope p) p.pres ≡ []
  pub posts : posts_findings (front_of p.co) (first_quantified p) (head_scope p) p.posts ≡ []
  pub body : body_findings (setting p) c (has_quantified_post p) (arity p) (head_scope p) p.body ≡ []
  pub size : is_too_large c p ≡ false

clean : (c : Called) (named : Bool) (p : Procedure) → procedure_findings c named p ≡ [] → IsClean c p
clean c named p e =
    let e7 = front_none _ _ e in
    let e6 = front_none _ _ e7 in
    let e5 = front_none _ _ e6 in
    let e4 = front_none _ _ e5 in
    let e3 = front_none _ _ e4 in
    let e2 = front_none _ _ e3 in
    record {
      noted = (all_kept p.span ((17, is_wlp p.note && p.co) ∷ []) (back_none _ _ e2)).0;
      inputs = back_none _ _ e3;
      outputs = back_none _ _ e4;
      pres = back_none _ _ e5;
      posts = back_none _ _ e6;
      body = back_none _ _ e7;
      size = (all_kept p.span ((24, is_too_large c p) ∷ []) (back_none _ _ e)).0;
    }

pub all_clean : (c : Called) (names : List (List ℕ)) (ps : List Procedure) → procedures_findings c names ps ≡ [] → Each (IsClean c) ps
all_clean c names [] e = tt
all_clean c names (p ∷ ps) e = (
  clean c (list_any (bytes_eq p.name) names) p (front_none (procedure_findings c (list_any (bytes_eq p.name) names) p) _ e),
  all_clean c (names ++ p.name ∷ []) ps (back_none (procedure_findings c (list_any (bytes_eq p.name) names) p) _ e),
)

-- ---- Limits

pub length_parameters : (qs : List Param) → length (parameters qs) ≡ length qs
length_parameters qs = length-map qs (λ q. declared q.name q.ty)

-- The procedure is within all limits.
record IsSmall (c : Called) (p : Procedure) : Type 0 where
  parameters : nat_lt 16 (arity p) ≡ false
  variables : nat_lt 256 (first_quantified p + length (fronts_variables p.posts)) ≡ false
  statements : nat_lt 1024 (count_of (acts_in (body_acts (setting p) c (arity p) (head_scope p) p.body))) ≡ false

small : (c : Called) (p : Procedure) → IsClean c p → IsSmall c p
small c p k =
    let e = or_parts _ _ k.size in
    let d = or_parts _ _ e.0 in
    let b = or_parts _ _ d.0 in
    let a = or_parts _ _ b.0 in
    record { parameters = a.0; variables = d.1; statements = e.1 }

module _ (c : Called) (p : Procedure) (k : IsClean c p) where
  pub few_parameters : length (parameters p.inputs ++ parameters p.outputs) ≤ 16
  few_parameters =
      let h = ltb-false 16 (arity p) (small c p k).parameters in
      omega (arith, length-append (parameters p.inputs) (parameters p.outputs), length_parameters p.inputs, length_parameters p.outputs, h)

  pub few_variables : length (variables (typed c p)) ≤ 256
  few_variables =
      let h = ltb-false 256 (first_quantified p + length (fronts_variables p.posts)) (small c p k).variables in
      let a = length-append (parameters p.inputs) (parameters p.outputs ++ (locals_of_body p.body ++ fronts_variables p.posts)) in
      let b = length-append (parameters p.outputs) (locals_of_body p.body ++ fronts_variables p.posts) in
      let d = length-append (locals_of_body p.body) (fronts_variables p.posts) in
      omega (arith, a, b, d, length_parameters p.inputs, length_parameters p.outputs, h)

  pub few_statements : count_of (acts_in (typed c p).body) ≤ 1024
  few_statements = ltb-false 1024 _ (small c p k).statements

-- ---- Scopes

-- The scope after parameters agrees with a list of variables that has them.
agrees_behind : (vs : List Variable) (n k : ℕ) (sc : Scope) (qs : List Param) → k ≡ n + length qs → Agrees (types_in (type_list vs)) n sc → Stands vs n (parameters qs) → parameters_findings n sc qs ≡ [] → Agrees (types_in (type_list vs)) k (behind_parameters n sc qs)
agrees_behind vs n k sc [] h g s e = agrees_up n k sc (omega arith) g
agrees_behind vs n k sc (q ∷ qs) h g s e =
    let d = (all_kept q.span ((11, is_visible sc q.name) ∷ (12, is_none (declarable q.ty)) ∷ []) (front_none (at q.span ((11, is_visible sc q.name) ∷ (12, is_none (declarable q.ty)) ∷ [])) _ e)).1.0 in
    agrees_behind vs (suc n) k _ qs (omega arith) (agrees_with n (suc n) sc q.name q.ty (omega arith) (declared_at vs n q.name q.ty (parameters qs) s d) g) (stands_next vs n _ (parameters qs) s)
    (back_none (at q.span ((11, is_visible sc q.name) ∷ (12, is_none (declarable q.ty)) ∷ [])) _ e)

nothing_visible : (types : ℕ → Ty) → Agrees types 0 []
nothing_visible types = record { declared = λ x l e. absurd (cc); below = λ x l e. absurd (cc) }

module _ (c : Called) (p : Procedure) (k : IsClean c p) (vs : List Variable) where
  pub inputs_agree : Stands vs 0 (parameters p.inputs) → Agrees (types_in (type_list vs)) (length p.inputs) (input_scope p)
  inputs_agree s = agrees_behind vs 0 (length p.inputs) [] p.inputs (omega arith) (nothing_visible _) s k.inputs

  pub head_agrees : Stands vs 0 (parameters p.inputs ++ parameters p.outputs) → Agrees (types_in (type_list vs)) (arity p) (head_scope p)
  head_agrees s =
      let i = stands_front vs 0 (parameters p.inputs) (parameters p.outputs) s in
      let o = stands_at vs _ (length p.inputs) (parameters p.outputs) (let l = length_parameters p.inputs in omega (arith, l)) (stands_back vs 0 (parameters p.inputs) (parameters p.outputs) s) in
      agrees_behind vs (length p.inputs) (arity p) (input_scope p) p.outputs (omega arith) (inputs_agree i) o k.outputs

-- In the list of all variables, the parameters are at the indices from 0 on, and the local
-- variables of the body after them.
module _ (c : Called) (p : Procedure) where
  pub head_stands : Stands (variables (typed c p)) 0 (parameters p.inputs ++ parameters p.outputs)
  head_stands = record { before = []; behind = locals_of_body p.body ++ fronts_variables p.posts; whole = sym (append_assoc (parameters p.inputs) (parameters p.outputs) (locals_of_body p.body ++ fronts_variables p.posts)); number = refl }

  pub body_stands : Stands (variables (typed c p)) (arity p) (locals_of_body p.body)
  body_stands = record {
    before = parameters p.inputs ++ parameters p.outputs;
    behind = fronts_variables p.posts;
    whole = sym (append_assoc (parameters p.inputs) (parameters p.outputs) (locals_of_body p.body ++ fronts_variables p.posts));
    number = omega (arith, length-append (parameters p.inputs) (parameters p.outputs), length_parameters p.inputs, length_parameters p.outputs);
  }
