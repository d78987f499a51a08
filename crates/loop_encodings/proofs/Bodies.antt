-- The body of a procedure of a file that satisfies the static rules, and its encoding.
use Rattle.std.proofs.Common.{◌≡◌, ◌≤◌, ◌<◌, ◌+◌, ◌^◌, ℕ, sym, ap, subst, ◌∙◌, arith, List, [], ◌++◌, length, get_or}
use Rattle.heylo_formula.specs.Typing.{IsFormula, types_in}
use Rattle.heyvl_acts.specs.Acts.{Acts, TypedProcedure, Variable, acts_in, procedure_at, type_list, variables}
use Rattle.heyvl_acts.specs.Count.{count_of}
use Rattle.heyvl_acts.specs.PlainActs.{procedure_of, procedures_of}
use Rattle.heyvl_acts.specs.Rules.{MeetsAllRules, MeetsRules}
use Rattle.heyvl_acts.specs.WellTypedActs.{ActsFit}
use Rattle.heyvl_acts.specs.declared.typed_trees.TProc.{TProc}
use Rattle.heyvl_acts.specs.declared.typed_trees.Typed.{Typed}
use Rattle.heyvl_acts.specs.declared.typed_trees.VarInfo.{VarInfo}
use Rattle.loop_encodings.specs.Encoding.{all_variables, encoded, encoding}
use Rattle.loop_encodings.specs.Fresh.{fresh}
use Rattle.loop_encodings.specs.internal.Ready.{AreReady, plain_variables}
use Rattle.loop_encodings.proofs.Counts.{counted, few}
use Rattle.loop_encodings.proofs.EncodedTypes.{encoding_fits, post_fits}
use Rattle.loop_encodings.proofs.FromRules.{all_fine, is_there, procedure_is, ready_acts, rules_at}
use Rattle.loop_encodings.proofs.OwnVariables.{own_variables}

pub begun : (new old all own : List VarInfo) → plain_variables new ≡ plain_variables old ++ plain_variables all → old ≡ [] → all ≡ own → plain_variables new ≡ plain_variables own
begun new old all own e f g = e ∙ (ap (λ l. plain_variables l ++ plain_variables all) f ∙ ap plain_variables g)

module _ (typed : Typed) (p : ℕ) (x : TProc) (rules : MeetsAllRules typed) (lt : p < length typed.procs.items) (is : x ≡ get_or typed.procs.items p x) where
  here : procedure_at (procedures_of typed) p ≡ procedure_of x
  here = procedure_is typed.procs.items p x lt is

  meets_there : MeetsRules (procedures_of typed) (procedure_at (procedures_of typed) p)
  meets_there = rules_at typed p rules (is_there typed p lt)

  meets : MeetsRules (procedures_of typed) (procedure_of x)
  meets = subst (λ y. MeetsRules (procedures_of typed) y) here meets_there

  pub body_ready : AreReady (procedures_of typed) (procedure_of x) (acts_in (procedure_of x).body)
  body_ready = ready_acts (procedures_of typed) (procedure_of x) (λ q l. rules_at typed q rules l) (acts_in (procedure_of x).body) (all_fine (procedures_of typed) (procedure_of x) meets)

  ready_there : AreReady (procedures_of typed) (procedure_at (procedures_of typed) p) (acts_in (procedure_at (procedures_of typed) p).body)
  ready_there = subst (λ (y : TypedProcedure). AreReady (procedures_of typed) y (acts_in y.body)) (sym here) body_ready

  pub body_room : (vs : List Variable) → vs ≡ plain_variables x.vars.items → length vs + length (fresh (procedures_of typed) (acts_in (procedure_of x).body)) ≤ 2 ^ 30
  body_room vs e =
      let a = meets.few_variables in
      let b = meets.few_statements in
      let f = few (procedures_of typed) (procedure_of x) (acts_in (procedure_of x).body) body_ready in
      let l = ap (λ (l : List Variable). length l) (e ∙ sym (own_variables x)) in
      omega (arith, a, b, f, l)

  pub body_encoding : (vs : List Variable) (made : Acts) → vs ≡ plain_variables x.vars.items → made ≡ encoded (procedures_of typed) (procedure_of x) (length vs) (acts_in (procedure_of x).body) → made ≡ encoding (procedures_of typed) (procedure_at (procedures_of typed) p)
  body_encoding vs made e f = f ∙ (ap (λ (l : List Variable). encoded (procedures_of typed) (procedure_of x) (length l) (acts_in (procedure_of x).body)) (e ∙ sym (own_variables x)) ∙ ap (λ y. encoding (procedures_of typed) y) (sym here))

  pub body_variables : (vs us : List Variable) → vs ≡ plain_variables x.vars.items → us ≡ vs ++ fresh (procedures_of typed) (acts_in (procedure_of x).body) → us ≡ all_variables (procedures_of typed) (procedure_at (procedures_of typed) p)
  body_variables vs us e f = f ∙ (ap (λ l. l ++ fresh (procedures_of typed) (acts_in (procedure_of x).body)) (e ∙ sym (own_variables x)) ∙ ap (λ y. all_variables (procedures_of typed) y) (sym here))

  pub body_typed : (us : List Variable) (made : Acts) → made ≡ encoding (procedures_of typed) (procedure_at (procedures_of typed) p) → us ≡ all_variables (procedures_of typed) (procedure_at (procedures_of typed) p) → ActsFit (types_in (type_list us)) made
  body_typed us made e f = subst (λ l. ActsFit (types_in (type_list l)) made) (sym f) (subst (λ a. ActsFit (types_in (type_list (all_variables (procedures_of typed) (procedure_at (procedures_of typed) p)))) a) (sym e) (encoding_fits (procedures_of typed) (procedure_at (procedures_of typed) p) (λ q l. rules_at typed q rules l) meets_there))

  pub body_post : (us : List Variable) → us ≡ all_variables (procedures_of typed) (procedure_at (procedures_of typed) p) → IsFormula (types_in (type_list us)) (procedure_at (procedures_of typed) p).post
  body_post us f = subst (λ l. IsFormula (types_in (type_list l)) (procedure_at (procedures_of typed) p).post) (sym f) (post_fits (procedures_of typed) (procedure_at (procedures_of typed) p) meets_there)

  pub body_count : (made : Acts) → made ≡ encoding (procedures_of typed) (procedure_at (procedures_of typed) p) → count_of made ≡ count_of (acts_in (procedure_at (procedures_of typed) p).body)
  body_count made e = ap count_of e ∙ counted (procedures_of typed) (procedure_at (procedures_of typed) p) (acts_in (procedure_at (procedures_of typed) p).body) (length (variables (procedure_at (procedures_of typed) p))) ready_there
