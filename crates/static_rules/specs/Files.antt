-- Procedures and files: the findings in them, and their typed procedures. This project's own.
use Rattle.heylo_formula.specs.Formula.{Form}
use Rattle.heyvl_acts.specs.Acts.{Acts, TypedProcedure, acts_in}
use Rattle.heyvl_acts.specs.Count.{count_of}
use Rattle.heyvl_num.specs.Value.Value.{infinite}
use Rattle.heyvl_num.specs.Value.{zeroᵛ}
use Rattle.heyvl_syntax.specs.Expressions.{Expression}
use Rattle.heyvl_syntax.specs.Procedures.{Procedure}
use Rattle.heyvl_syntax.specs.Statements.{Block}
use Rattle.heyvl_syntax.specs.declared.procedures.Note.{Note}
use Rattle.heyvl_syntax.specs.declared.procedures.Param.{Param}
use Rattle.static_rules.specs.StatementActs.{block_acts, loops_of_block}
use Rattle.static_rules.specs.StatementRules.{block_findings}
use Rattle.static_rules.specs.Variables.{behind_parameters, locals_of_body, parameters}
use Rattle.static_rules.specs.declared.settings.Setting.{Setting}
use Rattle.std.specs.List.{list_any}
use Rattle.std.specs.Option.{is_none}
use Rattle.std.specs.Prelude.{Bool, List, None, Option, Some, [], false, length, map, nat_lt, not}
use Rattle.std.specs.Prelude.{suc, true, ◌&&◌, ◌++◌, ◌+◌, ◌||◌, ◌∷◌, ℕ}
use Rattle.std.specs.Str.{bytes_eq}
use Rattle.typed_expressions.specs.DeclaredVariables.{front_variables, fronts_variables}
use Rattle.typed_expressions.specs.Findings.{Finding, at, first}
use Rattle.typed_expressions.specs.Scopes.{Scope, is_visible, with_local}
use Rattle.typed_expressions.specs.Signatures.{Called, called}
use Rattle.typed_expressions.specs.Table.{declarable}
use Rattle.typed_expressions.specs.TypedExpressions.{closed_findings, elaborate, findings}
use Rattle.typed_expressions.specs.TypedExpressions.{has_quantifier}
use Rattle.typed_expressions.specs.Values.{form}
use Rattle.typed_expressions.specs.declared.demands.Demand.{Demand}
use Rattle.typed_expressions.specs.declared.demands.Front.{Front}

-- ---- The head of a procedure

-- Whether a note is `@wlp`.
abbrev pub is_wlp : Option Note → Bool
is_wlp (Some Note.Wlp) = true
is_wlp (Some Note.Wp) = false
is_wlp (Some Note.Ert) = false
is_wlp None = false

-- A procedure as its statements see it.
abbrev pub setting : Procedure → Setting
setting p = record { co = p.co; weak = is_wlp p.note && not p.co; inputs = length p.inputs }

-- The scope of the pre clauses: the inputs.
abbrev pub input_scope : Procedure → Scope
input_scope p = behind_parameters 0 [] p.inputs

-- The scope of the post clauses and the body: the inputs, then the outputs.
abbrev pub head_scope : Procedure → Scope
head_scope p = behind_parameters (length p.inputs) (input_scope p) p.outputs

-- The number of parameters. The local variables have the next numbers.
abbrev pub arity : Procedure → ℕ
arity p = length p.inputs + length p.outputs

-- The number of the first quantified variable of the post clauses.
abbrev pub first_quantified : Procedure → ℕ
first_quantified p = arity p + length (locals_of_body p.body)

-- The number of variables of a procedure.
abbrev pub variable_count : Procedure → ℕ
variable_count p = first_quantified p + length (fronts_variables p.posts)

-- The quantifiers that may lead a post clause: `sup` in a coproc, `inf` in a proc.
abbrev pub front_of : Bool → Front
front_of true = Front.Sup
front_of false = Front.Inf

-- Whether one of the post clauses has a quantifier.
abbrev pub has_quantified_post : Procedure → Bool
has_quantified_post p = list_any has_quantifier p.posts

-- ---- Findings

-- The findings in parameters: a name that is already visible, and a type that a variable may not
-- have.
abbrev pub parameters_findings : ℕ → Scope → List Param → List Finding
parameters_findings n sc [] = []
parameters_findings n sc (p ∷ ps) = at p.span
    ((11, is_visible sc p.name) ∷ (12, is_none (declarable p.ty)) ∷ [])
    ++ parameters_findings (suc n) (with_local p.name (record { number = n; ty = p.ty }) sc) ps

-- The findings in pre clauses. Each has to be a formula of type `UInt`, `UReal` or `EUReal` without
-- quantifiers.
abbrev pub pres_findings : ℕ → Scope → List Expression → List Finding
pres_findings n sc [] = []
pres_findings n sc (e ∷ es) = closed_findings Demand.Formula n sc e ++ pres_findings n sc es

-- The findings in post clauses. The quantified variables of the first clause have the numbers from
-- `n` on, those of the next clause the numbers after these.
abbrev pub posts_findings : Front → ℕ → Scope → List Expression → List Finding
posts_findings f n sc [] = []
posts_findings f n sc (e ∷ es) =
    findings f Demand.Formula n sc e ++ posts_findings f (n + length (front_variables e)) sc es

-- The findings in a body; none without a body.
abbrev pub body_findings : Setting → Called → Bool → ℕ → Scope → Option Block → List Finding
body_findings h called bound n sc None = []
body_findings h called bound n sc (Some b) = block_findings h called bound n sc b

-- ---- Typed procedures

-- The formula `f` joined with the others, from left to right: their maximum in a coproc, their
-- minimum in a proc.
abbrev pub joined_with : Bool → Form → List Form → Form
joined_with co f [] = f
joined_with true f (g ∷ gs) = joined_with true (Form.max f g) gs
joined_with false f (g ∷ gs) = joined_with false (Form.min f g) gs

-- The bound that several clauses of one kind state; without a clause 0 in a coproc and infinity in
-- a proc.
abbrev pub clause : Bool → List Form → Form
clause true [] = Form.number zeroᵛ
clause false [] = Form.number infinite
clause co (f ∷ fs) = joined_with co f fs

-- The formulas of pre clauses, in their order.
abbrev pub pre_forms : ℕ → Scope → List Expression → List Form
pre_forms n sc es = map (λ e. form (elaborate n sc e)) es

-- The formulas of post clauses, in their order. The quantified variables of the first clause have
-- the numbers from `n` on, those of the next clause the numbers after these.
abbrev pub post_forms : ℕ → Scope → List Expression → List Form
post_forms n sc [] = []
post_forms n sc (e ∷ es) =
    form (elaborate n sc e) ∷ post_forms (n + length (front_variables e)) sc es

-- The acts of a body, whose first loop has the number 1.
abbrev pub body_acts : Setting → Called → ℕ → Scope → Option Block → Option Acts
body_acts h called n sc None = None
body_acts h called n sc (Some b) = Some (block_acts h called n 1 sc b)

-- The number of loops in a body; 0 without a body.
abbrev pub loops_of_body : Option Block → ℕ
loops_of_body None = 0
loops_of_body (Some b) = loops_of_block b

-- The typed procedure of `p`, with variables and loops by number.
abbrev pub typed : Called → Procedure → TypedProcedure
typed called p = record {
  name = p.name;
  co = p.co;
  weak = is_wlp p.note && not p.co;
  inputs = parameters p.inputs;
  outputs = parameters p.outputs;
  locals = locals_of_body p.body ++ fronts_variables p.posts;
  pre = clause p.co (pre_forms (arity p) (input_scope p) p.pres);
  post = clause p.co (post_forms (first_quantified p) (head_scope p) p.posts);
  body = body_acts (setting p) called (arity p) (head_scope p) p.body;
  loops = loops_of_body p.body;
  span = p.span;
}

-- ---- Whole procedures and files

-- Whether a procedure has more than 16 parameters, 64 pre clauses, 64 post clauses, 256 variables,
-- or 1,024 statements after encoding.
abbrev pub is_too_large : Called → Procedure → Bool
is_too_large called p =
    nat_lt 16 (arity p)
    || nat_lt 64 (length p.pres)
    || nat_lt 64 (length p.posts)
    || nat_lt 256 (variable_count p)
    || nat_lt 1024 (count_of
    (acts_in (body_acts (setting p) called (arity p) (head_scope p) p.body)))

-- The findings in a procedure, in this order: its name, note, inputs, outputs, pre clauses, post
-- clauses, body and size. `named` says that an earlier procedure has its name.
abbrev pub procedure_findings : Called → Bool → Procedure → List Finding
procedure_findings called named p =
    at p.span ((11, named) ∷ [])
    ++ at p.span ((17, is_wlp p.note && p.co) ∷ [])
    ++ parameters_findings 0 [] p.inputs
    ++ parameters_findings (length p.inputs) (input_scope p) p.outputs
    ++ pres_findings (arity p) (input_scope p) p.pres
    ++ posts_findings (front_of p.co) (first_quantified p) (head_scope p) p.posts
    ++ body_findings (setting p) called (has_quantified_post p) (arity p) (head_scope p) p.body
    ++ at p.span ((24, is_too_large called p) ∷ [])

-- The findings in procedures, in their order; `names` are the names of earlier procedures.
abbrev pub procedures_findings : Called → List (List ℕ) → List Procedure → List Finding
procedures_findings called names [] = []
procedures_findings called names (p ∷ ps) = procedure_findings called
    (list_any (bytes_eq p.name) names) p ++ procedures_findings called (names ++ p.name ∷ []) ps

-- All findings in a file.
abbrev pub file_findings : List Procedure → List Finding
file_findings ps = procedures_findings (called ps) [] ps

-- The first static error of a file: its number and its place.
abbrev pub first_fault : List Procedure → Option Finding
first_fault ps = first (file_findings ps)

-- The typed procedures of a file without a static error.
abbrev pub resolved : List Procedure → List TypedProcedure
resolved ps = map (typed (called ps)) ps
