-- The requirements on a pair's parts follow from the static rules on its procedures.
use Rattle.std.proofs.Common.{◌≡◌, ◌∙◌, ◌<◌, ◌≤◌, ◌+◌, ◌^◌, ℕ, sym, ap, subst, arith, List, [], ◌∷◌, ◌++◌, map, length, get_or}
use Rattle.std.proofs.lemmas.List.{length-map}
use Rattle.std.specs.List.{Contains}
use Prim.Native.Nat.{zero, suc}
use Rattle.heylo_formula.specs.BinderNames.{binders}
use Rattle.heylo_formula.specs.Formula.{Form}
use Rattle.heylo_formula.specs.Sizes.{nodes}
use Rattle.heylo_formula.specs.declared.goals.Made.{Made}
use Rattle.heylo_formula.specs.declared.types.Ty.{Ty}
use Rattle.heyvl_acts.specs.Acts.{Act, Acts, TypedProcedure, Variable, type_list, variables}
use Rattle.heyvl_acts.specs.PlainActs.{procedure_of, variable_of}
use Rattle.heyvl_acts.specs.Rules.{AreNamed, Each, GrowBelow, IsCounted, LoopsMeet, MeetsRules}
use Rattle.heyvl_acts.specs.declared.typed_trees.TProc.{TProc}
use Rattle.heyvl_acts.specs.declared.typed_trees.VarInfo.{VarInfo}
use Rattle.heyvl_acts.proofs.exported.Each.{each_at}
use Rattle.ranking_rule.proofs.exported.PrenexedSizes.{nodes_unbound}
use Rattle.vp_generator.specs.Answers.{IsStop}
use Rattle.vp_generator.specs.Fit.{AreFit}
use Rattle.vp_generator.specs.Limits.{IsSmall}
use Rattle.vp_generator.specs.PrenexLaws.{PrenexedFormHasNoBinder, PrenexedFormIsFormula}
use Rattle.vp_generator.specs.Scopes.{GeneratedFormIsNamed}
use Rattle.vp_generator.specs.declared.stops.VpStop.{VpStop}
use Rattle.vp_generator.specs.declared.stops.VpStop.TheVariants as stop
use Rattle.lower_goals.specs.OmegaGoals.{goal_variables, greater, limited}
use Rattle.lower_goals.specs.OmegaPairs.{formula_of}
use Rattle.lower_goals.specs.OneLoop.{OneLoop}
use Rattle.lower_goals.specs.LimitedGoals.{IsMadeFor}
use Rattle.lower_goals.specs.declared.answers.Step.{Step}
use Rattle.lower_goals.specs.declared.pairs.Pair.{Pair}
use Rattle.lower_goals.specs.internal.Pairs.{IsLimitBy}
use Rattle.lower_goals.specs.LentOmegaPairs.{IsMadeStep, IsReady, behind, body, first, head, second}
use Rattle.lower_goals.proofs.GoalForms.{behind_ready, body_ready, greater_few, greater_named}
use Rattle.lower_goals.proofs.GoalVariables.{goal_types, types_length}
use Rattle.lower_goals.proofs.LoopParts.{OfParts, of_parts}
use Rattle.lower_goals.proofs.OmegaParts.{formula_nodes}
use Rattle.loop_encodings.proofs.exported.FromRules.{procedure_is}
use Rattle.loop_encodings.proofs.exported.OwnVariables.{own_variables}

-- ---- The procedures of a file

pub held_at : (P : TypedProcedure → Type 0) (procs : List TProc) (p : ℕ) (x : TProc) → Each P (map procedure_of procs) → p < length procs → x ≡ get_or procs p x → P (procedure_of x)
held_at P procs p x all lt is = subst P (procedure_is procs p x lt is) (each_at P (map procedure_of procs) p all (let l = length-map procs procedure_of in omega (arith, l, lt)))

pub counted_at : (procs : List TProc) (p : ℕ) (x : TProc) → Each IsCounted procs → p < length procs → x ≡ get_or procs p x → IsCounted x
counted_at [] p x all lt is = absurd (omega (arith, lt))
counted_at (y ∷ rest) zero x all lt is = subst IsCounted (sym is) all.0
counted_at (y ∷ rest) (suc p) x all lt is = counted_at rest p x all.1 (omega (arith, lt)) is

pub vars_few : (file : List TypedProcedure) (x : TProc) → MeetsRules file (procedure_of x) → length x.vars.items ≤ 256
vars_few file x rules = let f = rules.few_variables in let e = ap (λ (l : List Variable). length l) (own_variables x) in let m = length-map x.vars.items variable_of in omega (arith, f, e, m)

pub vars_length : (x : TProc) → length (variables (procedure_of x)) ≡ length x.vars.items
vars_length x = ap (λ (l : List Variable). length l) (own_variables x) ∙ length-map x.vars.items variable_of

-- ---- A loop's scope

grow_few : (from below : ℕ) (xs : List ℕ) → from ≤ below → GrowBelow from below xs → from + length xs ≤ below
grow_few from below [] l g = omega (arith, l)
grow_few from below (x ∷ xs) l g = let a = g.0.0 in let b = g.0.1 in let r = grow_few (suc x) below xs (omega (arith, b)) g.1 in omega (arith, a, r)

pub scope_few : (file : List TypedProcedure) (p : TypedProcedure) → MeetsRules file p → (l : OneLoop p) → length l.head.scope ≤ 256
scope_few file p rules l =
    let m : OfParts (LoopsMeet p) p l = of_parts (LoopsMeet p) p l rules.loops in
    let g : 0 + length l.head.scope ≤ length (variables p) = grow_few 0 (length (variables p)) l.head.scope (omega arith) (grows m.loop) in
    let f = rules.few_variables in
    omega (arith, g, f)
  where
    grows : LoopsMeet p (Act.loop l.head l.body) → GrowBelow 0 (length (variables p)) l.head.scope
    grows h = h.scope

-- ---- A pair

module _ (x : Pair) (r : IsReady x) where
  abbrev pub the_loop : OneLoop (procedure_of x.procedure.now)
  the_loop = record { front = r.front; head = head x; body = body x; behind = behind x; is = r.is }

  abbrev tys : List Ty
  tys = type_list (goal_variables (first x) (head x) (second x))

  tys_are : type_list (goal_variables (first x) (head x) (second x)) ≡ type_list (variables (first x)) ++ Ty.UInt ∷ []
  tys_are = goal_types (first x) (head x) (second x) r.pair

  pub loop_ready : AreFit (behind x) (first x).post
  loop_ready = behind_ready r.file (first x) r.rules the_loop (second x) r.other_rules r.pair (type_list (goal_variables (first x) (head x) (second x))) tys_are

  pub turn_ready : PrenexedFormIsFormula → AreFit (body x) (formula_of (first x) (head x) (second x))
  turn_ready law = body_ready r.file (first x) r.rules the_loop (second x) r.other_rules r.pair (type_list (goal_variables (first x) (head x) (second x))) tys_are law

  pub none_ready : PrenexedFormIsFormula → AreFit Acts.done (formula_of (first x) (head x) (second x))
  none_ready law = let f = turn_ready law in record { types = f.types; fit = tt; formula = f.formula }

  pub formula_small : nodes (formula_of (first x) (head x) (second x)) ≤ 2 ^ 27
  formula_small = formula_nodes r.file (first x) r.rules the_loop (second x) r.other_rules r.pair r.other_within

  goal_count : length (goal_variables (first x) (head x) (second x)) ≡ suc (length (variables (first x)))
  goal_count =
      let a = types_length (first x) (type_list (goal_variables (first x) (head x) (second x))) tys_are in
      let b = length-map (goal_variables (first x) (head x) (second x)) (λ (v : Variable). v.ty) in
      omega (arith, a, b)

  module _ (vs : List VarInfo) (step : Step) (vars : map variable_of vs ≡ goal_variables (first x) (head x) (second x)) where
    vs_count : length vs ≡ suc (length (variables (first x)))
    vs_count =
        let a = length-map vs variable_of in
        let b = ap (λ (l : List Variable). length l) vars in
        let c = goal_count in
        omega (arith, a, b, c)

    abbrev great : Form
    great = greater (first x) (head x) (body x) (behind x) (formula_of (first x) (head x) (second x)) step

    pub goal_named : GeneratedFormIsNamed → PrenexedFormHasNoBinder → AreNamed (length vs) (binders (greater (first x) (head x) (body x) (behind x) (formula_of (first x) (head x) (second x)) step))
    goal_named law plain = subst (λ n. AreNamed n (binders (greater (first x) (head x) (body x) (behind x) (formula_of (first x) (head x) (second x)) step))) (sym vs_count) (greater_named r.file (first x) r.rules the_loop (second x) r.other_rules r.pair (type_list (goal_variables (first x) (head x) (second x))) tys_are law plain step)

    pub goal_few : Each IsSmall (limited (first x) (body x) (behind x) (formula_of (first x) (head x) (second x)) step) → length vs + length (binders (greater (first x) (head x) (body x) (behind x) (formula_of (first x) (head x) (second x)) step)) < 2 ^ 31
    goal_few small =
        let a = greater_few r.file (first x) r.rules the_loop (second x) r.other_rules r.pair r.within step small in
        let b = nodes_unbound (λ y. y) 0 (greater (first x) (head x) (body x) (behind x) (formula_of (first x) (head x) (second x)) step) in
        let c = vs_count in
        let d = r.rules.few_variables in
        omega (arith, a, b, c, d)

  -- ---- The results

  pub limited_step : (step : Step) (why : VpStop) (m : Made) (f : Form) → Contains (limited (first x) (body x) (behind x) (formula_of (first x) (head x) (second x)) step) f → IsStop f why → IsLimitBy why m → IsMadeStep x step m
  limited_step step stop.Depth m f listed h e = subst (λ k. IsMadeStep x step k) (sym e) (IsMadeFor.too_deep f listed h)
  limited_step step stop.Nodes m f listed h e = subst (λ k. IsMadeStep x step k) (sym e) (IsMadeFor.too_many f listed h)
  limited_step step (stop.Memory w) m f listed h e = absurd e
