-- The answer on a procedure, from the answers on its parts.
use Rattle.heylo_formula.specs.Formula.{Form}
use Rattle.heyvl_syntax.specs.Procedures.{Procedure}
use Rattle.heyvl_syntax.specs.declared.procedures.Param.{Param}
use Rattle.typed_expressions.proofs.exported.Parts.{behind, stops, stops_at, tells_stop}
use Rattle.heyvl_types.proofs.ProcedureParts.{regroup, the_inputs, the_locals, the_outputs}
use Rattle.heyvl_acts.specs.Acts.{Acts, Variable}
use Rattle.typed_expressions.specs.Answers.{Gives, TellsFirst}
use Rattle.static_rules.specs.Files.{arity, body_acts, body_findings, clause, first_quantified, front_of, has_quantified_post, head_scope, input_scope, is_too_large, is_wlp, loops_of_body, parameters_findings, post_forms, posts_findings, pre_forms, pres_findings, procedure_findings, setting, typed}
use Rattle.typed_expressions.specs.Findings.{Finding, at}
use Rattle.heyvl_acts.specs.PlainActs.{procedure_of, variable_of}
use Rattle.heyvl_acts.specs.Rules.{IsCounted}
use Rattle.typed_expressions.specs.Scopes.{Scope}
use Rattle.typed_expressions.specs.Signatures.{Called}
use Rattle.static_rules.specs.Variables.{locals_of_body, parameters}
use Rattle.typed_expressions.specs.DeclaredVariables.{declared, fronts_variables}
use Rattle.static_rules.specs.declared.settings.Setting.{Setting}
use Rattle.typed_expressions.specs.declared.stops.ResolveStop.{ResolveStop}
use Rattle.heyvl_acts.specs.declared.typed_trees.TProc.{TProc}
use Rattle.heyvl_acts.specs.declared.typed_trees.VarInfo.{VarInfo}
use Rattle.heyvl_types.specs.internal.ProcedureParts.{is_larger, with_parts}
use Rattle.std.proofs.Common.{Bool, Err, List, [], ap, append_assoc, arith, drop, false, length, length-append, map, sym, take, true, ◌+◌, ◌++◌, ◌∙◌, ◌≡◌, ◌≤◌, ◌∷◌, ℕ}
use Rattle.std.proofs.lemmas.List.{length-map}
use Rattle.std.specs.Prelude.{IfOk, Ok, Option, Result, Vec, not, ◌&&◌}
use Rattle.std.specs.declared.alloc.Global.{Global}

abbrev pub name_part : Bool → Procedure → List Finding
name_part named p = at p.span ((11, named) ∷ []) ++ at p.span ((17, is_wlp p.note && p.co) ∷ [])

abbrev pub head_part : Procedure → List Finding
head_part p = parameters_findings 0 [] p.inputs ++ parameters_findings (length p.inputs) (input_scope p) p.outputs

abbrev pub clauses_part : ℕ → Scope → Scope → Procedure → List Finding
clauses_part n inner all p = pres_findings n inner p.pres ++ posts_findings (front_of p.co) (n + length (locals_of_body p.body)) all p.posts

abbrev pub body_part : Setting → Called → Bool → ℕ → Scope → Procedure → List Finding
body_part h called bound n all p = body_findings h called bound n all p.body

abbrev pub own_part : Called → Procedure → List Finding
own_part called p = at p.span ((24, is_too_large called p) ∷ [])

abbrev body_and_own : Called → Procedure → List Finding
body_and_own called p = body_part (setting p) called (has_quantified_post p) (arity p) (head_scope p) p ++ own_part called p

abbrev behind_head : Called → Procedure → List Finding
behind_head called p = clauses_part (arity p) (input_scope p) (head_scope p) p ++ body_and_own called p

from_name : (called : Called) (named : Bool) (p : Procedure) → procedure_findings called named p ≡ name_part named p ++ (head_part p ++ behind_head called p)
from_name called named p = regroup (at p.span ((11, named) ∷ [])) (at p.span ((17, is_wlp p.note && p.co) ∷ [])) (parameters_findings 0 [] p.inputs) (parameters_findings (length p.inputs) (input_scope p) p.outputs) (pres_findings (arity p) (input_scope p) p.pres) (posts_findings (front_of p.co) (first_quantified p) (head_scope p) p.posts)
    (body_findings (setting p) called (has_quantified_post p) (arity p) (head_scope p) p.body) (own_part called p)

from_head : (called : Called) (named : Bool) (p : Procedure) → name_part named p ≡ [] → procedure_findings called named p ≡ head_part p ++ behind_head called p
from_head called named p h = from_name called named p ∙ behind (name_part named p) (head_part p ++ behind_head called p) h

from_clauses : (called : Called) (named : Bool) (p : Procedure) → name_part named p ≡ [] → head_part p ≡ [] → procedure_findings called named p ≡ behind_head called p
from_clauses called named p h i = from_head called named p h ∙ behind (head_part p) (behind_head called p) i

-- The result of reading a head without findings.
pub record HeadIs (named : Bool) (p : Procedure) (n : ℕ) (inner all : Scope) : Type 0 where
  pub named_well : name_part named p ≡ []
  pub kept : head_part p ≡ []
  pub number : n ≡ arity p
  pub inputs : inner ≡ input_scope p
  pub scope : all ≡ head_scope p

clauses_with : (p : Procedure) (n : ℕ) (inner all : Scope) → n ≡ arity p → inner ≡ input_scope p → all ≡ head_scope p → clauses_part (arity p) (input_scope p) (head_scope p) p ≡ clauses_part n inner all p
clauses_with p n inner all e f g = cc

from_body : (called : Called) (named : Bool) (p : Procedure) (n : ℕ) (inner all : Scope) → HeadIs named p n inner all → clauses_part n inner all p ≡ [] → procedure_findings called named p ≡ body_and_own called p
from_body called named p n inner all r h = from_clauses called named p r.named_well r.kept ∙ behind (clauses_part (arity p) (input_scope p) (head_scope p) p) (body_and_own called p) (clauses_with p n inner all r.number r.inputs r.scope ∙ h)

body_with : (h : Setting) (called : Called) (bound : Bool) (p : Procedure) (n : ℕ) (all : Scope) → h ≡ setting p → bound ≡ has_quantified_post p → n ≡ arity p → all ≡ head_scope p → body_part (setting p) called (has_quantified_post p) (arity p) (head_scope p) p ≡ body_part h called bound n all p
body_with h called bound p n all e f g i = cc

acts_with : (h : Setting) (called : Called) (p : Procedure) (n : ℕ) (all : Scope) → h ≡ setting p → n ≡ arity p → all ≡ head_scope p → body_acts h called n all p.body ≡ body_acts (setting p) called (arity p) (head_scope p) p.body
acts_with h called p n all e g i = cc

from_own : (called : Called) (named : Bool) (p : Procedure) (n m : ℕ) (inner all : Scope) (h : Setting) (bound : Bool) → HeadIs named p n inner all → clauses_part n inner all p ≡ [] → h ≡ setting p → bound ≡ has_quantified_post p → m ≡ arity p → body_part h called bound m all p ≡ [] → procedure_findings called named p ≡ own_part called p
from_own called named p n m inner all h bound r none e f g empty = from_body called named p n inner all r none ∙ behind (body_part (setting p) called (has_quantified_post p) (arity p) (head_scope p) p) (own_part called p) (body_with h called bound p m all e f g r.scope ∙ empty)

-- ---- Errors

pub bad_name : {B D : Type 0} (w : B → D) (e : ResolveStop) (called : Called) (named : Bool) (p : Procedure) (d : D) → TellsFirst (Err e) (name_part named p) → Gives w (Err e) (procedure_findings called named p) d
bad_name w e called named p d h = stops_at w w e (name_part named p ++ (head_part p ++ behind_head called p)) (procedure_findings called named p) d d (from_name called named p) (tells_stop w e (name_part named p) (head_part p ++ behind_head called p) d h)

pub bad_head : {A B C D : Type 0} (v : A → C) (w : B → D) (e : ResolveStop) (called : Called) (named : Bool) (p : Procedure) (c : C) (d : D) → name_part named p ≡ [] → Gives v (Err e) (head_part p) c → Gives w (Err e) (procedure_findings called named p) d
bad_head v w e called named p c d n h = stops_at w w e (head_part p ++ behind_head called p) (procedure_findings called named p) d d (from_head called named p n) (stops v w e (head_part p) (behind_head called p) c d h)

pub bad_clauses : {A B C D : Type 0} (v : A → C) (w : B → D) (e : ResolveStop) (called : Called) (named : Bool) (p : Procedure) (n : ℕ) (inner all : Scope) (c : C) (d : D) → HeadIs named p n inner all → Gives v (Err e) (clauses_part n inner all p) c → Gives w (Err e) (procedure_findings called named p) d
bad_clauses v w e called named p n inner all c d r h = stops_at w w e (clauses_part n inner all p ++ body_and_own called p) (procedure_findings called named p) d d (from_clauses called named p r.named_well r.kept ∙ ap (λ l. l ++ body_and_own called p) (clauses_with p n inner all r.number r.inputs r.scope)) (stops v w e (clauses_part n inner all p) (body_and_own called p) c d h)

pub bad_body : {A B C D : Type 0} (v : A → C) (w : B → D) (e : ResolveStop) (called : Called) (named : Bool) (p : Procedure) (n m : ℕ) (inner all : Scope) (h : Setting) (bound : Bool) (c : C) (d : D) → HeadIs named p n inner all → clauses_part n inner all p ≡ [] → h ≡ setting p → bound ≡ has_quantified_post p → m ≡ arity p → Gives v (Err e) (body_part h called bound m all p) c → Gives w (Err e) (procedure_findings called named p) d
bad_body v w e called named p n m inner all h bound c d r none hs bs ms g = stops_at w w e (body_part h called bound m all p ++ own_part called p) (procedure_findings called named p) d d (from_body called named p n inner all r none ∙ ap (λ l. l ++ own_part called p) (body_with h called bound p m all hs bs ms r.scope)) (stops v w e (body_part h called bound m all p) (own_part called p) c d g)

-- ---- The procedure itself

is_large : (called : Called) (p : Procedure) (n vars : ℕ) (acts : Option Acts) → n ≡ arity p → vars ≡ first_quantified p + length (fronts_variables p.posts) → acts ≡ body_acts (setting p) called (arity p) (head_scope p) p.body → is_larger p n vars acts ≡ is_too_large called p
is_large called p n vars acts e f g = ap (λ i. is_larger p i vars acts) e ∙ ap (λ i. is_larger p (arity p) i acts) f ∙ ap (λ l. is_larger p (arity p) (first_quantified p + length (fronts_variables p.posts)) l) g

same_gives : {A B : Type 0} (v : A → B) (r : Result A ResolveStop) (xs ys : List Finding) (b c : B) → ys ≡ xs → c ≡ b → Gives v r xs b → Gives v r ys c
same_gives v r xs ys b c e f h = rw (e, f) h

-- ---- The typed procedure

many_parameters : (ps : List Param) → length (parameters ps) ≡ length ps
many_parameters ps = length-map ps (λ p. declared p.name p.ty)

abbrev pub variables_of : Procedure → List Variable
variables_of p = (parameters p.inputs ++ parameters p.outputs) ++ (locals_of_body p.body ++ fronts_variables p.posts)

pub all_variables : (p : Procedure) (old new : List Variable) → old ≡ (parameters p.inputs ++ parameters p.outputs) ++ locals_of_body p.body → new ≡ old ++ fronts_variables p.posts → new ≡ variables_of p
all_variables p old new e f = f ∙ ap (λ l. l ++ fronts_variables p.posts) e ∙ append_assoc (parameters p.inputs ++ parameters p.outputs) (locals_of_body p.body) (fronts_variables p.posts)

so_many : (p : Procedure) (vars : List VarInfo) → map variable_of vars ≡ variables_of p → length vars ≡ first_quantified p + length (fronts_variables p.posts)
so_many p vars e =
    let a = length-append (parameters p.inputs ++ parameters p.outputs) (locals_of_body p.body ++ fronts_variables p.posts) in
    let b = length-append (parameters p.inputs) (parameters p.outputs) in
    let c = length-append (locals_of_body p.body) (fronts_variables p.posts) in
    let d = many_parameters p.inputs in
    let f = many_parameters p.outputs in
    let g : length vars ≡ length (variables_of p) = sym (length-map vars variable_of) ∙ ap length e in
    omega (arith, a, b, c, d, f, g)

same_procedure : (called : Called) (p : Procedure) (inputs outputs : ℕ) (vars : List Variable) (pre post : Form) (body : Option Acts) (loops : ℕ)
    → inputs ≡ length p.inputs → outputs ≡ length p.outputs → vars ≡ variables_of p
    → pre ≡ clause p.co (pre_forms (arity p) (input_scope p) p.pres) → post ≡ clause p.co (post_forms (first_quantified p) (head_scope p) p.posts)
    → body ≡ body_acts (setting p) called (arity p) (head_scope p) p.body → loops ≡ loops_of_body p.body
    → typed called p ≡ with_parts p inputs outputs vars pre post body loops
same_procedure called p inputs outputs vars pre post body loops ei eo ev epre epost eb el =
    let n : inputs ≡ length (parameters p.inputs) = ei ∙ sym (many_parameters p.inputs) in
    let m : outputs ≡ length (parameters p.outputs) = eo ∙ sym (many_parameters p.outputs) in
    let a : take inputs vars ≡ parameters p.inputs = ap (take inputs) ev ∙ the_inputs inputs (parameters p.inputs) (parameters p.outputs) (locals_of_body p.body ++ fronts_variables p.posts) n in
    let b : take outputs (drop inputs vars) ≡ parameters p.outputs = ap (λ l. take outputs (drop inputs l)) ev ∙ the_outputs inputs outputs (parameters p.inputs) (parameters p.outputs) (locals_of_body p.body ++ fronts_variables p.posts) n m in
    let c : drop (inputs + outputs) vars ≡ locals_of_body p.body ++ fronts_variables p.posts = ap (drop (inputs + outputs)) ev ∙ the_locals inputs outputs (parameters p.inputs) (parameters p.outputs) (locals_of_body p.body ++ fronts_variables p.posts) n m in
    cc

-- The results of reading the parts of a procedure without findings.
pub record PartsAre (called : Called) (named : Bool) (p : Procedure) (inputs outputs n m : ℕ) (inner all : Scope) (h : Setting) (bound : Bool) (vars : List VarInfo) (pres posts : List Form) (body : Option Acts) (loops : ℕ) : Type 0 where
  pub head : HeadIs named p n inner all
  pub inputs_are : inputs ≡ length p.inputs
  pub outputs_are : outputs ≡ length p.outputs
  pub clauses_kept : clauses_part n inner all p ≡ []
  pub pres_are : pres ≡ pre_forms n inner p.pres
  pub posts_are : posts ≡ post_forms (n + length (locals_of_body p.body)) all p.posts
  pub setting_is : h ≡ setting p
  pub bound_is : bound ≡ has_quantified_post p
  pub next_is : m ≡ arity p
  pub body_kept : body_part h called bound m all p ≡ []
  pub body_is : body_acts h called m all p.body ≡ body
  pub loops_are : loops ≡ loops_of_body p.body
  pub vars_are : map variable_of vars ≡ variables_of p

pub together : (called : Called) (named : Bool) (p : Procedure) (inputs outputs n m : ℕ) (inner all : Scope) (h : Setting) (bound : Bool) (vars : List VarInfo) (pres posts : List Form) (body : Option Acts) (loops : ℕ) (r : Result TProc ResolveStop)
    → PartsAre called named p inputs outputs n m inner all h bound vars pres posts body loops
    → Gives procedure_of r (at p.span ((24, is_larger p (inputs + outputs) (length vars) body) ∷ [])) (with_parts p inputs outputs (map variable_of vars) (clause p.co pres) (clause p.co posts) body loops)
    → Gives procedure_of r (procedure_findings called named p) (typed called p)
together called named p inputs outputs n m inner all h bound vars pres posts body loops r a g =
    let k : inputs + outputs ≡ arity p = ap (λ i. i + outputs) a.inputs_are ∙ ap (λ i. length p.inputs + i) a.outputs_are in
    let acts : body ≡ body_acts (setting p) called (arity p) (head_scope p) p.body = sym a.body_is ∙ acts_with h called p m all a.setting_is a.next_is a.head.scope in
    let large : is_larger p (inputs + outputs) (length vars) body ≡ is_too_large called p = is_large called p (inputs + outputs) (length vars) body k (so_many p vars a.vars_are) acts in
    let pre_here : clause p.co pres ≡ clause p.co (pre_forms (arity p) (input_scope p) p.pres) = ap (clause p.co) a.pres_are ∙ ap (λ i. clause p.co (pre_forms i inner p.pres)) a.head.number ∙ ap (λ s. clause p.co (pre_forms (arity p) s p.pres)) a.head.inputs in
    let post_here : clause p.co posts ≡ clause p.co (post_forms (first_quantified p) (head_scope p) p.posts) = ap (clause p.co) a.posts_are ∙ ap (λ i. clause p.co (post_forms (i + length (locals_of_body p.body)) all p.posts)) a.head.number ∙ ap (λ s. clause p.co (post_forms (first_quantified p) s p.posts)) a.head.scope in
    same_gives procedure_of r (at p.span ((24, is_larger p (inputs + outputs) (length vars) body) ∷ [])) (procedure_findings called named p) (with_parts p inputs outputs (map variable_of vars) (clause p.co pres) (clause p.co posts) body loops) (typed called p)
    (from_own called named p n m inner all h bound a.head a.clauses_kept a.setting_is a.bound_is a.next_is a.body_kept ∙ ap (λ b. at p.span ((24, b) ∷ [])) (sym large))
    (same_procedure called p inputs outputs (map variable_of vars) (clause p.co pres) (clause p.co posts) body loops a.inputs_are a.outputs_are a.vars_are pre_here post_here acts a.loops_are) g

pub in_range : (p : Procedure) (inputs outputs : ℕ) (vars : List VarInfo) → inputs ≡ length p.inputs → outputs ≡ length p.outputs → map variable_of vars ≡ variables_of p → inputs + outputs ≤ length vars
in_range p inputs outputs vars e f g = let l = so_many p vars g in omega (arith, e, f, l)

pub all_in_range : (r : Result TProc ResolveStop) (inputs outputs : ℕ) (vars : Vec VarInfo Global) → IfOk r (λ t. (t.inputs ≡ inputs) × (t.outputs ≡ outputs) × (t.vars ≡ vars)) → inputs + outputs ≤ length vars.items → IfOk r (λ t. IsCounted t)
all_in_range (Ok t) inputs outputs vars h le = let a = h.0 in let b = h.1 in let d : length t.vars.items ≡ length vars.items = ap (λ v. length v.items) h.2 in omega (arith, a, b, d, le)
all_in_range (Err e) inputs outputs vars h le = tt

pub many_of : (p : Procedure) (vars : List VarInfo) → map variable_of vars ≡ parameters p.inputs ++ parameters p.outputs → length vars ≡ arity p
many_of p vars e =
    let b = length-append (parameters p.inputs) (parameters p.outputs) in
    let d = many_parameters p.inputs in
    let f = many_parameters p.outputs in
    let g : length vars ≡ length (parameters p.inputs ++ parameters p.outputs) = sym (length-map vars variable_of) ∙ ap length e in
    omega (arith, b, d, f, g)

abbrev pub setting_with : Procedure → ℕ → Setting
setting_with p n = record { co = p.co; weak = is_wlp p.note && not p.co; inputs = n }
