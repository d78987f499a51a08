-- The static rules on the parts of an omega pair, with types for the first procedure's variables
-- and for the number of iterations.
use Rattle.std.proofs.Common.{◌≡◌, ◌∙◌, ◌<◌, ◌≤◌, ◌^◌, ℕ, refl, sym, ap, subst, arith, true, false, List, [], ◌∷◌, ◌++◌, append_assoc, length}
use Rattle.std.proofs.lemmas.List.{length-append}
use Prim.Native.Nat.{zero, suc}
use Rattle.heylo_formula.specs.Binders.{has_binder, has_binder_in}
use Rattle.heylo_formula.specs.Sizes.{nodes, nodes_in}
use Rattle.heylo_formula.specs.Typing.{Types, is_unsigned, is_well_typed, types_in, IsFormula}
use Rattle.heylo_formula.specs.Variables.{IsOver, IsOverIn}
use Rattle.heylo_formula.specs.declared.types.Ty.{Ty}
use Rattle.heylo_formula.proofs.exported.Agreement.{same_types}
use Rattle.heylo_formula.proofs.exported.BinderNames.{unnamed}
use Rattle.heylo_formula.proofs.exported.Plain.{typed_plain}
use Rattle.heyvl_acts.specs.Acts.{Act, TypedProcedure, Variable, type_list, types_of, variables}
use Rattle.heyvl_acts.specs.FormSizes.{ActWithin, FormsWithin}
use Rattle.heyvl_acts.specs.Places.{in_order}
use Rattle.heyvl_acts.specs.Rules.{Each, IsTypedAct, LoopsMeet, LoopFits, MeetsRules}
use Rattle.heyvl_acts.proofs.exported.Each.{each_two}
use Rattle.ranking_rule.proofs.exported.PrenexedSizes.{nodes_unbound}
use Rattle.ranking_rule.proofs.exported.ReadVariables.{ReadsFirst, all_read}
use Rattle.vp_generator.specs.PrenexLaws.{PrenexedFormHasNoBinder, PrenexedFormIsFormula, TypesFrom}
use Rattle.lower_goals.specs.OmegaPairs.{IsOmegaPair, by_position, formula_of, places}
use Rattle.lower_goals.specs.OneLoop.{OneLoop}
use Rattle.lower_goals.proofs.Calm.{CalmParts, IsCalm, calm_parts, plain_program}
use Rattle.lower_goals.proofs.GoalVariables.{below_each, position_below, position_type}
use Rattle.lower_goals.proofs.LoopParts.{OfParts, of_parts}
use Rattle.lower_goals.proofs.PlacedForms.{over_is}
use Rattle.lower_goals.proofs.TurnActs.{IsTurnAct, cond_type}

front_type : (us vs : List Variable) (y : ℕ) → y < length us → types_in (type_list us) y ≡ types_in (type_list (us ++ vs)) y
front_type [] vs y l = absurd (omega (arith, l))
front_type (u ∷ us) vs zero l = refl
front_type (u ∷ us) vs (suc y) l = front_type us vs y (omega (arith, l))

module _ (ps : List TypedProcedure) (p : TypedProcedure) (rules : MeetsRules ps p) (l : OneLoop p) where
  -- ---- Acts

  calm : CalmParts p l
  calm = calm_parts ps p l rules

  typed : OfParts (IsTypedAct ps p) p l
  typed = of_parts (IsTypedAct ps p) p l rules.typed

  reads : OfParts (ReadsFirst (length (variables p))) p l
  reads = of_parts (ReadsFirst (length (variables p))) p l (all_read ps p rules)

  pub body_acts : Each (IsTurnAct ps p) (in_order l.body)
  body_acts = each_two (IsCalm p) (λ a. IsTypedAct ps p a × ReadsFirst (length (variables p)) a) (in_order l.body) calm.body (each_two (IsTypedAct ps p) (ReadsFirst (length (variables p))) (in_order l.body) typed.body reads.body)

  pub behind_acts : Each (IsTurnAct ps p) (in_order l.behind)
  behind_acts = each_two (IsCalm p) (λ a. IsTypedAct ps p a × ReadsFirst (length (variables p)) a) (in_order l.behind) calm.behind (each_two (IsTypedAct ps p) (ReadsFirst (length (variables p))) (in_order l.behind) typed.behind reads.behind)

  -- ---- The guard

  loop_fits : LoopFits p l.head
  loop_fits = typed.loop

  loop_reads : ReadsFirst (length (variables p)) (Act.loop l.head l.body)
  loop_reads = reads.loop

  pub guard_over : IsOverIn (length (variables p)) l.head.guard
  guard_over = loop_reads.1.0

  pub guard_plain : has_binder_in l.head.guard ≡ false
  guard_plain = typed_plain (types_of p) l.head.guard loop_fits.guard

  pub guard_typed : (types : Types) → ((y : ℕ) → y < length (variables p) → types y ≡ types_of p y) → is_well_typed types l.head.guard ≡ true
  guard_typed types agree = cond_type ps p types agree l.head.guard guard_over ∙ loop_fits.guard

  pub guard_nodes : FormsWithin (2 ^ 27) p → nodes_in l.head.guard ≤ 2 ^ 27
  guard_nodes within = let w : OfParts (ActWithin (2 ^ 27)) p l = of_parts (ActWithin (2 ^ 27)) p l within.acts in loop_within w.loop
    where
      loop_within : ActWithin (2 ^ 27) (Act.loop l.head l.body) → nodes_in l.head.guard ≤ 2 ^ 27
      loop_within h = h.1.0

  -- ---- The visible variables at the loop

  pub scope_below : Each (λ x. x < length (variables p)) l.head.scope
  scope_below = let m : OfParts (LoopsMeet p) p l = of_parts (LoopsMeet p) p l rules.loops in below m.loop
    where
      below : LoopsMeet p (Act.loop l.head l.body) → Each (λ x. x < length (variables p)) l.head.scope
      below h = below_each 0 (length (variables p)) l.head.scope h.scope

  -- ---- The post

  interface_few : length (p.inputs ++ p.outputs) ≤ length (variables p)
  interface_few =
      let a = length-append p.inputs p.outputs in
      let b = length-append p.inputs (p.outputs ++ p.locals) in
      let c = length-append p.outputs p.locals in
      omega (arith, a, b, c)

  interface_type : (y : ℕ) → y < length (p.inputs ++ p.outputs) → types_of p y ≡ types_in (type_list (p.inputs ++ p.outputs)) y
  interface_type y lt = sym (front_type (p.inputs ++ p.outputs) p.locals y lt ∙ ap (λ (us : List Variable). types_in (type_list us) y) (append_assoc p.inputs p.outputs p.locals))

  pub post_over : IsOver (length (variables p)) p.post
  post_over y k = let a = rules.post_over y k in let b = interface_few in omega (arith, a, b)

  pub post_formula : IsFormula (types_of p) p.post
  post_formula = subst (λ t. is_unsigned t ≡ true) (sym (same_types p.post (types_of p) (types_in (type_list (p.inputs ++ p.outputs))) (λ y k. interface_type y (rules.post_over y k)))) rules.post

  pub post_plain : has_binder p.post ≡ false
  post_plain = (plain_program p l.is.program).unbound

-- ---- The formula

module _ (ps : List TypedProcedure) (p : TypedProcedure) (rules : MeetsRules ps p) (l : OneLoop p) (q : TypedProcedure) (q_rules : MeetsRules ps q) (pair : IsOmegaPair p l.head q) where
  pub pre_plain : has_binder q.pre ≡ false
  pre_plain = q_rules.pre.1

  pub formula_plain : PrenexedFormHasNoBinder → has_binder (formula_of p l.head q) ≡ false
  formula_plain law = law q.pre (by_position (places p l.head)) 0

  pub formula_over : IsOver (suc (length (variables p))) (formula_of p l.head q)
  formula_over = over_is (suc (length (variables p))) 0 (by_position (places p l.head)) q.pre pre_plain (λ y k. position_below p l.head y (scope_below ps p rules l))

  pub formula_typed : PrenexedFormIsFormula → (tys : List Ty) → tys ≡ type_list (variables p) ++ Ty.UInt ∷ [] → IsFormula (types_in tys) (formula_of p l.head q)
  formula_typed law tys are = law q.pre (by_position (places p l.head)) 0 (types_in tys) (subst (λ bs. TypesFrom 0 bs (types_in tys)) (sym (unnamed q.pre pre_plain)) tt) (subst (λ t. is_unsigned t ≡ true) (sym (same_types q.pre (λ y. types_in tys (by_position (places p l.head) y)) (types_in (type_list q.inputs)) (λ y k. position_type p l.head q tys pair are (scope_below ps p rules l) y (q_rules.pre_over y k)))) q_rules.pre.0)

  pub formula_nodes : FormsWithin (2 ^ 27) q → nodes (formula_of p l.head q) ≤ 2 ^ 27
  formula_nodes within = let a = nodes_unbound (by_position (places p l.head)) 0 q.pre in let b = within.pre in omega (arith, a, b)
