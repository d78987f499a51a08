-- The main goal of a procedure: the pre-expectation of the encoded body, and its variables.
use Rattle.std.proofs.Common.{◌≡◌, ◌<◌, ◌≤◌, ◌^◌, ℕ, sym, ap, ap₂, ◌∙◌, subst, arith, Bool, List, [], ◌∷◌, length, get_or, map}
use Rattle.std.proofs.lemmas.List.{length-append, length-map}
use Rattle.heylo_formula.specs.BinderNames.{Binder, binders}
use Rattle.heylo_formula.specs.Formula.{Form}
use Rattle.heylo_formula.specs.PlainTrees.{form_of}
use Rattle.heylo_formula.specs.Typing.{types_in}
use Rattle.heylo_formula.specs.declared.goals.Made.{Made}
use Rattle.heyvl_acts.specs.Acts.{TypedProcedure, Variable, acts_in, procedure_at, type_list, variables}
use Rattle.heyvl_acts.specs.PlainActs.{acts_of, procedure_of, procedures_of, variable_of}
use Rattle.heyvl_acts.specs.Rules.{AreNamed, Each, HasNamedBinders, MeetsAllRules, MeetsRules}
use Rattle.heyvl_acts.specs.declared.acts.Act as A
use Rattle.heyvl_acts.specs.declared.typed_trees.TProc.{TProc}
use Rattle.heyvl_acts.specs.declared.typed_trees.Typed.{Typed}
use Rattle.heyvl_acts.specs.declared.typed_trees.VarInfo.{VarInfo}
use Rattle.loop_encodings.specs.BoundGoals.{BoundGoal}
use Rattle.loop_encodings.specs.Encoding.{all_variables, encoding}
use Rattle.loop_encodings.specs.EncodingLaws.{EncodingBindsItsVariables}
use Rattle.loop_encodings.specs.Fresh.{fresh}
use Rattle.vp_generator.specs.GeneratedForms.{vp}
use Rattle.vp_generator.specs.PrenexedGoals.{IsMadeWithin}
use Rattle.vp_generator.specs.Scopes.{GeneratedFormIsNamed}
use Rattle.verify_core.specs.Questions.{IsMadeOf, one_bound, question}
use Rattle.verify_core.proofs.AskedGoals.{few_variables}
use Rattle.loop_encodings.proofs.exported.EncodedTypes.{encoding_fits}
use Rattle.loop_encodings.proofs.exported.FromRules.{each_at, is_there, procedure_is, rules_at}
use Rattle.made_goals.specs.MadeGoals.{goal_over}
use Rattle.loop_encodings.proofs.exported.OwnVariables.{own_length, own_variables}

pub named_more : (m n : ℕ) (bs : List Binder) → m ≤ n → AreNamed m bs → AreNamed n bs
named_more m n [] l h = tt
named_more m n (b ∷ bs) l h = (let k = h.0 in omega (arith, l, k), named_more m n bs l h.1)

as_many : (vs : List VarInfo) (us : List Variable) → map variable_of vs ≡ us → length vs ≡ length us
as_many vs us e = sym (length-map vs variable_of) ∙ ap (λ (l : List Variable). length l) e

module _ (typed : Typed) (p : ℕ) (x : TProc) (rules : MeetsAllRules typed) (lt : p < length typed.procs.items) (is : x ≡ get_or typed.procs.items p x) where
  abbrev ps : List TypedProcedure
  ps = procedures_of typed

  pub here : procedure_at (procedures_of typed) p ≡ procedure_of x
  here = procedure_is typed.procs.items p x lt is

  pub few_own : length x.vars.items < 2 ^ 30
  few_own = let m = subst (λ y. MeetsRules (procedures_of typed) y) here (rules_at typed p rules (is_there typed p lt)) in let a = m.few_variables in let b = own_length x in omega (arith, a, b)

  module _ (vs : List VarInfo) (all : map variable_of vs ≡ all_variables (procedures_of typed) (procedure_at (procedures_of typed) p)) where
    pub main_few : length vs < 2 ^ 30
    main_few = let a = few_variables (procedures_of typed) (procedure_at (procedures_of typed) p) (λ r k. rules_at typed r rules k) (rules_at typed p rules (is_there typed p lt)) in let b = as_many vs _ all in omega (arith, a, b)

    module _ (acts : List A.Act) (encodes : acts_of acts ≡ encoding (procedures_of typed) (procedure_at (procedures_of typed) p)) where
      generated : vp (acts_of acts) (form_of x.post) ≡ vp (encoding (procedures_of typed) (procedure_at (procedures_of typed) p)) (procedure_at (procedures_of typed) p).post
      generated = ap₂ (λ a f. vp a f) encodes (ap (λ (y : TypedProcedure). y.post) (sym here))

      pub main_named : GeneratedFormIsNamed → EncodingBindsItsVariables → Each HasNamedBinders (procedures_of typed) → AreNamed (length vs) (binders (vp (acts_of acts) (form_of x.post)))
      main_named law bind names =
          let q = procedure_at (procedures_of typed) p in
          let l = is_there typed p lt in
          let n = length-append (variables q) (fresh (procedures_of typed) (acts_in q.body)) in
          let m = as_many vs _ all in
          let own = named_more (length (variables q)) (length (all_variables (procedures_of typed) q)) (binders q.post) (omega (arith, n)) (each_at HasNamedBinders (procedures_of typed) p names l) in
          let fits = encoding_fits (procedures_of typed) q (λ r k. rules_at typed r rules k) (rules_at typed p rules l) in
          let r = law (length (all_variables (procedures_of typed) q)) (types_in (type_list (all_variables (procedures_of typed) q))) (encoding (procedures_of typed) q) q.post fits (bind (procedures_of typed) p rules.each l) own in
          subst (λ f. AreNamed (length vs) (binders f)) (sym generated) (subst (λ k. AreNamed k (binders (vp (encoding (procedures_of typed) q) q.post))) (sym m) r)

      pub main_made : (made : Made) → IsMadeWithin (vp (acts_of acts) (form_of x.post)) (goal_over x.co (map variable_of vs) (form_of x.pre) (vp (acts_of acts) (form_of x.post))) made → IsMadeOf (question (procedures_of typed) (procedure_at (procedures_of typed) p) BoundGoal.main) made
      main_made made h =
          subst (λ (y : TypedProcedure). IsMadeWithin (vp (encoding (procedures_of typed) (procedure_at (procedures_of typed) p)) y.post) (goal_over y.co (all_variables (procedures_of typed) (procedure_at (procedures_of typed) p)) y.pre (vp (encoding (procedures_of typed) (procedure_at (procedures_of typed) p)) y.post)) made) (sym here) (
          subst (λ us. IsMadeWithin (vp (encoding (procedures_of typed) (procedure_at (procedures_of typed) p)) (form_of x.post)) (goal_over x.co us (form_of x.pre) (vp (encoding (procedures_of typed) (procedure_at (procedures_of typed) p)) (form_of x.post))) made) all (
          subst (λ a. IsMadeWithin (vp a (form_of x.post)) (goal_over x.co (map variable_of vs) (form_of x.pre) (vp a (form_of x.post))) made) encodes h))

pub bound_made : (x : TProc) (vs : List VarInfo) (f one : Form) (made : Made) → vs ≡ x.vars.items → one ≡ (one_bound (procedure_of x) f).stated → IsMadeWithin f (goal_over Bool.true (map variable_of vs) one f) made → IsMadeOf (one_bound (procedure_of x) f) made
bound_made x vs f one made d o h = subst (λ g. IsMadeWithin f (goal_over Bool.true (variables (procedure_of x)) g f) made) o (subst (λ us. IsMadeWithin f (goal_over Bool.true us one f) made) (ap (λ l. map variable_of l) d ∙ sym (own_variables x)) h)
