-- A file without places has the typed procedures of the file, without places and without the rules
-- of loops.
use Prim.Native.Nat.{suc}
use Rattle.heylo_formula.specs.Formula.{Form}
use Rattle.heyvl_acts.specs.Acts.{TypedProcedure, Variable}
use Rattle.heyvl_print.specs.WithoutPlaces as text
use Rattle.heyvl_print.specs.WithoutPlaces.{SameButPlaces, bare_expression, bare_expressions, bare_param, bare_procedure, without_places}
use Rattle.heyvl_syntax.specs.Expressions.{Expression}
use Rattle.heyvl_syntax.specs.Procedures.{Procedure}
use Rattle.heyvl_syntax.specs.Statements.{Block}
use Rattle.heyvl_syntax.specs.declared.procedures.Param.{Param}
use Rattle.heyvl_syntax.specs.declared.types.TypeName.{TypeName}
use Rattle.placeless_files.proofs.PlacelessActs.{block_bare, locals_of_block_bare, loops_of_block_bare}
use Rattle.placeless_files.proofs.PlacelessForms.{bare_formula, three_same}
use Rattle.static_rules.specs.Files.{arity, body_acts, clause, first_quantified, head_scope, input_scope, is_wlp, joined_with, loops_of_body, post_forms, pre_forms, resolved, setting, typed}
use Rattle.typed_expressions.specs.Scopes.{Scope, with_local}
use Rattle.typed_expressions.specs.Signatures.{Called, Signature, called, signature, with_signature, with_signatures}
use Rattle.typed_expressions.specs.TypedExpressions.{has_quantifier}
use Rattle.static_rules.specs.Variables.{behind_parameters, locals_of_body, parameters}
use Rattle.typed_expressions.specs.DeclaredVariables.{declared, front_variables, fronts_variables}
use Rattle.run_laws.specs.Bare as bare
use Rattle.run_laws.specs.Bare.{bare_form, bare_procedures}
use Rattle.std.proofs.Common.{Bool, List, None, Option, Some, [], ap, ap₂, false, length, map, refl, sym, true, ◌++◌, ◌+◌, ◌∙◌, ◌∷◌, ◌≡◌, ℕ}
use Rattle.std.proofs.lemmas.List.{length-map}
use Rattle.std.specs.List.{list_any}
use Rattle.std.specs.Prelude.{not, ◌&&◌, ◌||◌}

-- ---- Parameters

parameters_bare : (ps : List Param) → parameters (map bare_param ps) ≡ parameters ps
parameters_bare [] = refl
parameters_bare (p ∷ ps) = ap (λ (vs : List Variable). declared p.name p.ty ∷ vs) (parameters_bare ps)

types_bare : (ps : List Param) → map (λ (x : Param). x.ty) (map bare_param ps) ≡ map (λ (x : Param). x.ty) ps
types_bare [] = refl
types_bare (p ∷ ps) = ap (λ ts. p.ty ∷ ts) (types_bare ps)

behind_bare : (ps : List Param) (n : ℕ) (sc : Scope) → behind_parameters n sc (map bare_param ps) ≡ behind_parameters n sc ps
behind_bare [] n sc = refl
behind_bare (p ∷ ps) n sc = behind_bare ps (suc n) (with_local p.name (record { number = n; ty = p.ty }) sc)

-- ---- Quantifiers

quantifier_bare : (e : Expression) → has_quantifier (bare_expression e) ≡ has_quantifier e
quantifier_bare (Expression.number v s) = refl
quantifier_bare (Expression.truth b s) = refl
quantifier_bare (Expression.infinity s) = refl
quantifier_bare (Expression.name x s) = refl
quantifier_bare (Expression.group a s) = quantifier_bare a
quantifier_bare (Expression.bracket a s) = quantifier_bare a
quantifier_bare (Expression.embed a s) = quantifier_bare a
quantifier_bare (Expression.unary op a s) = quantifier_bare a
quantifier_bare (Expression.binary op a b s) = ap₂ (λ x y. x || y) (quantifier_bare a) (quantifier_bare b)
quantifier_bare (Expression.choice a b c s) = three_same (λ x y z. x || y || z) _ _ _ _ _ _ (quantifier_bare a) (quantifier_bare b) (quantifier_bare c)
quantifier_bare (Expression.bound up x t a s) = refl

any_bare : (es : List Expression) → list_any has_quantifier (bare_expressions es) ≡ list_any has_quantifier es
any_bare [] = refl
any_bare (e ∷ es) = ap₂ (λ x y. x || y) (quantifier_bare e) (any_bare es)

front_bare : (e : Expression) → front_variables (bare_expression e) ≡ front_variables e
front_bare (Expression.number v s) = refl
front_bare (Expression.truth b s) = refl
front_bare (Expression.infinity s) = refl
front_bare (Expression.name x s) = refl
front_bare (Expression.group a s) = refl
front_bare (Expression.bracket a s) = refl
front_bare (Expression.embed a s) = refl
front_bare (Expression.unary op a s) = refl
front_bare (Expression.binary op a b s) = refl
front_bare (Expression.choice a b c s) = refl
front_bare (Expression.bound up x t a s) = ap (λ (vs : List Variable). declared x t ∷ vs) (front_bare a)

fronts_bare : (es : List Expression) → fronts_variables (bare_expressions es) ≡ fronts_variables es
fronts_bare [] = refl
fronts_bare (e ∷ es) = ap₂ (λ (xs ys : List Variable). xs ++ ys) (front_bare e) (fronts_bare es)

-- ---- The signature of a procedure

signature_bare : (n : ℕ) (p : Procedure) → signature n (bare_procedure p) ≡ signature n p
signature_bare n p = three_same (λ (xs ys : List TypeName) (q : Bool). record { number = n; co = p.co; inputs = xs; outputs = ys; quantified = q }) _ _ _ _ _ _ (types_bare p.inputs) (types_bare p.outputs) (any_bare p.posts)

signatures_bare : (ps : List Procedure) (n : ℕ) (c : Called) → with_signatures n c (without_places ps) ≡ with_signatures n c ps
signatures_bare [] n c = refl
signatures_bare (p ∷ ps) n c = ap (λ (s : Signature). with_signatures (suc n) (with_signature p.name s c) (without_places ps)) (signature_bare n p) ∙ signatures_bare ps (suc n) (with_signature p.name (signature n p) c)

called_bare : (ps : List Procedure) → called (without_places ps) ≡ called ps
called_bare ps = signatures_bare ps 0 []

-- ---- Clauses

joined_bare : (co : Bool) (f : Form) (gs : List Form) → bare_form (joined_with co f gs) ≡ joined_with co (bare_form f) (map bare_form gs)
joined_bare true f [] = refl
joined_bare false f [] = refl
joined_bare true f (g ∷ gs) = joined_bare true (Form.max f g) gs
joined_bare false f (g ∷ gs) = joined_bare false (Form.min f g) gs

clause_bare : (co : Bool) (fs : List Form) → bare_form (clause co fs) ≡ clause co (map bare_form fs)
clause_bare true [] = refl
clause_bare false [] = refl
clause_bare true (f ∷ fs) = joined_bare true f fs
clause_bare false (f ∷ fs) = joined_bare false f fs

same_clause : (co : Bool) (fs gs : List Form) → map bare_form fs ≡ map bare_form gs → bare_form (clause co fs) ≡ bare_form (clause co gs)
same_clause co fs gs e = clause_bare co fs ∙ (ap (clause co) e ∙ sym (clause_bare co gs))

pres_bare : (es : List Expression) (n : ℕ) (sc : Scope) → map bare_form (pre_forms n sc (bare_expressions es)) ≡ map bare_form (pre_forms n sc es)
pres_bare [] n sc = refl
pres_bare (e ∷ es) n sc = ap₂ (λ (f : Form) fs. f ∷ fs) (bare_formula e n sc) (pres_bare es n sc)

posts_bare : (es : List Expression) (n : ℕ) (sc : Scope) → map bare_form (post_forms n sc (bare_expressions es)) ≡ map bare_form (post_forms n sc es)
posts_bare [] n sc = refl
posts_bare (e ∷ es) n sc =
    ap₂ (λ (f : Form) fs. f ∷ fs) (bare_formula e n sc)
    (ap (λ (vs : List Variable). map bare_form (post_forms (n + length vs) sc (bare_expressions es))) (front_bare e) ∙ posts_bare es (n + length (front_variables e)) sc)

-- ---- Bodies

body_bare : (q : Procedure) (c : Called) (o : Option Block) (n : ℕ) (sc : Scope) → bare.bare_body (body_acts (setting q) c n sc (text.bare_body o)) ≡ bare.bare_body (body_acts (setting q) c n sc o)
body_bare q c None n sc = refl
body_bare q c (Some b) n sc = ap Some (block_bare q c b n 1 sc)

locals_bare : (o : Option Block) → locals_of_body (text.bare_body o) ≡ locals_of_body o
locals_bare None = refl
locals_bare (Some b) = locals_of_block_bare b

loops_bare : (o : Option Block) → loops_of_body (text.bare_body o) ≡ loops_of_body o
loops_bare None = refl
loops_bare (Some b) = loops_of_block_bare b

-- ---- Procedures

module _ (p : Procedure) where
  inputs_bare : length (map bare_param p.inputs) ≡ length p.inputs
  inputs_bare = length-map p.inputs bare_param

  arity_bare : arity (bare_procedure p) ≡ arity p
  arity_bare = ap₂ (λ x y. x + y) inputs_bare (length-map p.outputs bare_param)

  setting_bare : setting (bare_procedure p) ≡ setting p
  setting_bare = ap (λ (x : ℕ). record { co = p.co; weak = is_wlp p.note && not p.co; inputs = x }) inputs_bare

  input_bare : input_scope (bare_procedure p) ≡ input_scope p
  input_bare = behind_bare p.inputs 0 []

  head_bare : head_scope (bare_procedure p) ≡ head_scope p
  head_bare = ap₂ (λ n (sc : Scope). behind_parameters n sc (map bare_param p.outputs)) inputs_bare input_bare ∙ behind_bare p.outputs (length p.inputs) (input_scope p)

  quantified_bare : first_quantified (bare_procedure p) ≡ first_quantified p
  quantified_bare = ap₂ (λ n (vs : List Variable). n + length vs) arity_bare (locals_bare p.body)

  all_locals_bare : locals_of_body (text.bare_body p.body) ++ fronts_variables (bare_expressions p.posts) ≡ locals_of_body p.body ++ fronts_variables p.posts
  all_locals_bare = ap₂ (λ (xs ys : List Variable). xs ++ ys) (locals_bare p.body) (fronts_bare p.posts)

  pre_bare : bare_form (clause p.co (pre_forms (arity (bare_procedure p)) (input_scope (bare_procedure p)) (bare_expressions p.pres))) ≡ bare_form (clause p.co (pre_forms (arity p) (input_scope p) p.pres))
  pre_bare = same_clause p.co _ _ (ap₂ (λ n sc. map bare_form (pre_forms n sc (bare_expressions p.pres))) arity_bare input_bare ∙ pres_bare p.pres (arity p) (input_scope p))

  post_bare : bare_form (clause p.co (post_forms (first_quantified (bare_procedure p)) (head_scope (bare_procedure p)) (bare_expressions p.posts))) ≡ bare_form (clause p.co (post_forms (first_quantified p) (head_scope p) p.posts))
  post_bare = same_clause p.co _ _ (ap₂ (λ n sc. map bare_form (post_forms n sc (bare_expressions p.posts))) quantified_bare head_bare ∙ posts_bare p.posts (first_quantified p) (head_scope p))

  acts_bare : (c : Called) → bare.bare_body (body_acts (setting (bare_procedure p)) c (arity (bare_procedure p)) (head_scope (bare_procedure p)) (text.bare_body p.body)) ≡ bare.bare_body (body_acts (setting p) c (arity p) (head_scope p) p.body)
  acts_bare c = three_same (λ h n (sc : Scope). bare.bare_body (body_acts h c n sc (text.bare_body p.body))) _ _ _ _ _ _ setting_bare arity_bare head_bare ∙ body_bare p c p.body (arity p) (head_scope p)

  typed_bare : (c : Called) → bare.bare_procedure (typed c (bare_procedure p)) ≡ bare.bare_procedure (typed c p)
  typed_bare c =
      let ins = parameters_bare p.inputs in
      let outs = parameters_bare p.outputs in
      let more = all_locals_bare in
      let pre = pre_bare in
      let post = post_bare in
      let body = acts_bare c in
      let count = loops_bare p.body in
      cc

-- ---- Files

all_bare : (c : Called) (ps : List Procedure) → bare_procedures (map (typed c) (without_places ps)) ≡ bare_procedures (map (typed c) ps)
all_bare c [] = refl
all_bare c (p ∷ ps) = ap₂ (λ (q : TypedProcedure) qs. q ∷ qs) (typed_bare p c) (all_bare c ps)

file_bare : (ps : List Procedure) → bare_procedures (resolved (without_places ps)) ≡ bare_procedures (resolved ps)
file_bare ps = ap (λ (c : Called). bare_procedures (map (typed c) (without_places ps))) (called_bare ps) ∙ all_bare (called ps) ps

pub same_procedures : (file other : List Procedure) → SameButPlaces file other → bare_procedures (resolved file) ≡ bare_procedures (resolved other)
same_procedures file other e = sym (file_bare file) ∙ (ap (λ ps. bare_procedures (resolved ps)) e ∙ file_bare other)
