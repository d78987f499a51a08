-- The goal of a question is typed, over its variables, and small enough to be decided.
use Rattle.std.proofs.Common.{◌≡◌, ◌<◌, ◌≤◌, ◌^◌, ℕ, refl, sym, ap, ◌∙◌, subst, arith, true, false, List, [], ◌∷◌, ◌++◌, append_assoc, length, ◌==◌}
use Rattle.std.specs.Prelude.{Some, if◌then◌else◌}
use Rattle.std.proofs.lemmas.List.{length-append, length-map}
use Rattle.heyvl_num.specs.Rational.{zeroʳ, oneʳ, ratio, leqʳ}
use Rattle.heyvl_num.specs.Value.{zeroᵛ, oneᵛ}
use Rattle.heylo_formula.specs.BinderNames.{binders}
use Rattle.heylo_formula.specs.Binders.{has_binder}
use Rattle.heylo_formula.specs.Formula.{Form}
use Rattle.heylo_formula.specs.Sizes.{nodes}
use Rattle.heylo_formula.specs.TypedGoals.{IsGoal}
use Rattle.heylo_formula.specs.Typing.{IsFormula, Types, is_unsigned, types_in}
use Rattle.heylo_formula.specs.Variables.{IsOver}
use Rattle.heylo_formula.proofs.exported.Agreement.{same_types}
use Rattle.heyvl_acts.specs.Acts.{Act, TypedProcedure, Variable, acts_in, procedure_at, type_list, types_of, variables}
use Rattle.heyvl_acts.specs.Places.{in_order}
use Rattle.heyvl_acts.specs.Rules.{Each, IsTypedAct, MeetsRules}
use Rattle.act_walks.specs.Loops.{loop_in}
use Rattle.loop_encodings.specs.BoundGoals.{BoundGoal, invariant_at, invariant_in}
use Rattle.loop_encodings.specs.Encoding.{all_variables, encoding}
use Rattle.loop_encodings.specs.EncodingLaws.{EncodingIsOver}
use Rattle.loop_encodings.specs.Fresh.{fresh}
use Rattle.vp_generator.specs.GeneratedForms.{vp}
use Rattle.vp_generator.specs.Laws.{GeneratedFormIsFormula}
use Rattle.vp_generator.specs.Limits.{IsSmall}
use Rattle.vp_generator.specs.Over.{GeneratedFormIsOver}
use Rattle.vp_generator.specs.PrenexedForms.{new_types}
use Rattle.vp_generator.specs.PrenexedGoals.{PrenexedGoalsAreGoals}
use Rattle.ranking_rule.specs.Laws.{IsFew}
use Rattle.made_goals.specs.MadeGoals.{all_names}
use Rattle.verify_core.specs.Questions.{Question, form_or_zero, goal, one_bound, question}
use Rattle.loop_encodings.proofs.exported.EncodedTypes.{encoding_fits, front_same, post_fits}
use Rattle.loop_encodings.proofs.exported.Counts.{few_fresh}
use Rattle.loop_encodings.proofs.exported.FromRules.{each_at}
use Rattle.ranking_rule.proofs.exported.ReadVariables.{ReadsFirst, all_read}
use Rattle.made_goals.proofs.exported.MadeGoals.{all_names_length, new_types_length}
use Rattle.ranking_rule.proofs.exported.PrenexedSizes.{nodes_unbound}

-- ---- Conditions on the formulas of a question

-- Both forms are formulas over the question's variables, and the stated one has no binder.
pub record IsProper (q : Question) : Type 0 where
  pub stated : IsFormula (types_in (type_list q.variables)) q.stated
  pub found : IsFormula (types_in (type_list q.variables)) q.found
  pub stated_over : IsOver (length (type_list q.variables)) q.stated
  pub found_over : IsOver (length (type_list q.variables)) q.found
  pub plain : has_binder q.stated ≡ false
  pub few : length q.variables ≤ 1280

one_unsigned : (types : Types) → IsFormula types (Form.number oneᵛ)
unfolding oneᵛ oneʳ zeroʳ ratio leqʳ
one_unsigned types = refl

zero_unsigned : (types : Types) → IsFormula types (Form.number zeroᵛ)
unfolding zeroᵛ zeroʳ ratio leqʳ
zero_unsigned types = refl

over_more : (m n : ℕ) (f : Form) → m ≤ n → IsOver m f → IsOver n f
over_more m n f l h y e = let k = h y e in omega (arith, l, k)

types_length : (vs : List Variable) → length (type_list vs) ≡ length vs
types_length vs = length-map vs (λ (v : Variable). v.ty)

over_types : (vs : List Variable) (f : Form) → IsOver (length vs) f → IsOver (length (type_list vs)) f
over_types vs f h = subst (λ n. IsOver n f) (sym (types_length vs)) h

formula_front : (us vs : List Variable) (f : Form) → IsOver (length us) f → IsFormula (types_in (type_list us)) f → IsFormula (types_in (type_list (us ++ vs))) f
formula_front us vs f o h = ap is_unsigned (same_types f (types_in (type_list (us ++ vs))) (types_in (type_list us)) (λ y e. front_same us vs y (o y e))) ∙ h

over_front : (us vs : List Variable) (f : Form) → IsOver (length us) f → IsOver (length (us ++ vs)) f
over_front us vs f o = over_more (length us) (length (us ++ vs)) f (let l = length-append us vs in omega (arith, l)) o

proper_bound : (p : TypedProcedure) (f : Form) → length (variables p) ≤ 256 → IsFormula (types_of p) f → IsOver (length (variables p)) f → IsProper (one_bound p f)
proper_bound p f few h o = record {
  stated = one_unsigned (types_of p);
  found = h;
  stated_over = λ y e. absurd (cc);
  found_over = over_types (variables p) f o;
  plain = refl;
  few = omega (arith, few);
}

proper_invariant : (ps : List TypedProcedure) (p : TypedProcedure) (n : ℕ) (acts : List Act) → Each (IsTypedAct ps p) acts → Each (ReadsFirst (length (variables p))) acts → IsFormula (types_of p) (form_or_zero (invariant_in n acts)) × IsOver (length (variables p)) (form_or_zero (invariant_in n acts))
proper_invariant ps p n [] t o = (zero_unsigned (types_of p), λ y e. absurd (cc))
proper_invariant ps p n (Act.loop h b ∷ rest) t o = elim (h.number == n) as (λ c. IsFormula (types_of p) (form_or_zero (invariant_at (if c then Some (h, b) else loop_in n rest))) × IsOver (length (variables p)) (form_or_zero (invariant_at (if c then Some (h, b) else loop_in n rest)))) [ true ↦ (t.0.inv.0, o.0.0) | false ↦ proper_invariant ps p n rest t.1 o.1 ]
proper_invariant ps p n (Act.set x u span ∷ rest) t o = proper_invariant ps p n rest t.1 o.1
proper_invariant ps p n (Act.draw x qs span ∷ rest) t o = proper_invariant ps p n rest t.1 o.1
proper_invariant ps p n (Act.toss x f span ∷ rest) t o = proper_invariant ps p n rest t.1 o.1
proper_invariant ps p n (Act.any x up ty span ∷ rest) t o = proper_invariant ps p n rest t.1 o.1
proper_invariant ps p n (Act.reward f span ∷ rest) t o = proper_invariant ps p n rest t.1 o.1
proper_invariant ps p n (Act.ifs arms e span ∷ rest) t o = proper_invariant ps p n rest t.1 o.1
proper_invariant ps p n (Act.pick up a b span ∷ rest) t o = proper_invariant ps p n rest t.1 o.1
proper_invariant ps p n (Act.check kind f span ∷ rest) t o = proper_invariant ps p n rest t.1 o.1
proper_invariant ps p n (Act.validate co span ∷ rest) t o = proper_invariant ps p n rest t.1 o.1
proper_invariant ps p n (Act.call xs q es span ∷ rest) t o = proper_invariant ps p n rest t.1 o.1

-- ---- The questions of a procedure of a file that satisfies the rules

pub all_front : (ps : List TypedProcedure) (p : TypedProcedure) → all_variables ps p ≡ p.inputs ++ (p.outputs ++ (p.locals ++ fresh ps (acts_in p.body)))
all_front ps p = append_assoc p.inputs (p.outputs ++ p.locals) (fresh ps (acts_in p.body)) ∙ ap (λ l. p.inputs ++ l) (append_assoc p.outputs p.locals (fresh ps (acts_in p.body)))

pub interface_front : (ps : List TypedProcedure) (p : TypedProcedure) → all_variables ps p ≡ (p.inputs ++ p.outputs) ++ (p.locals ++ fresh ps (acts_in p.body))
interface_front ps p = all_front ps p ∙ sym (append_assoc p.inputs p.outputs (p.locals ++ fresh ps (acts_in p.body)))

own_front : (p : TypedProcedure) → variables p ≡ (p.inputs ++ p.outputs) ++ p.locals
own_front p = sym (append_assoc p.inputs p.outputs p.locals)

pub few_variables : (ps : List TypedProcedure) (p : TypedProcedure) → ((q : ℕ) → q < length ps → MeetsRules ps (procedure_at ps q)) → MeetsRules ps p → length (all_variables ps p) ≤ 1280
few_variables ps p rules meets =
    let a = meets.few_variables in
    let b = meets.few_statements in
    let f = few_fresh ps p rules meets in
    let l = length-append (variables p) (fresh ps (acts_in p.body)) in
    omega (arith, a, b, f, l)

module _ (formula : GeneratedFormIsFormula) (over : GeneratedFormIsOver) (encoded : EncodingIsOver) (ps : List TypedProcedure) (rules : Each (MeetsRules ps) ps) (p : ℕ) (there : p < length ps) where
  meets : MeetsRules ps (procedure_at ps p)
  meets = each_at (MeetsRules ps) ps p rules there

  proper_main : IsProper (question ps (procedure_at ps p) BoundGoal.main)
  proper_main =
      let q = procedure_at ps p in
      let pre_over = subst (λ l. IsOver (length l) q.pre) (sym (all_front ps q)) (over_front q.inputs _ q.pre meets.pre_over) in
      let post_over = subst (λ l. IsOver (length l) q.post) (sym (interface_front ps q)) (over_front (q.inputs ++ q.outputs) _ q.post meets.post_over) in
      record {
        stated = subst (λ l. IsFormula (types_in (type_list l)) q.pre) (sym (all_front ps q)) (formula_front q.inputs _ q.pre meets.pre_over meets.pre.0);
        found = formula (types_in (type_list (all_variables ps q))) (encoding ps q) q.post (encoding_fits ps q (λ r l. each_at (MeetsRules ps) ps r rules l) meets) (post_fits ps q meets);
        stated_over = over_types (all_variables ps q) q.pre pre_over;
        found_over = over_types (all_variables ps q) (vp (encoding ps q) q.post) (over (length (all_variables ps q)) (encoding ps q) q.post (encoded ps p rules there) post_over);
        plain = meets.pre.1;
        few = few_variables ps q (λ r l. each_at (MeetsRules ps) ps r rules l) meets;
      }

  pub proper : (g : BoundGoal) → IsProper (question ps (procedure_at ps p) g)
  proper BoundGoal.main = proper_main
  proper BoundGoal.pre = proper_bound (procedure_at ps p) (procedure_at ps p).pre meets.few_variables (formula_front (procedure_at ps p).inputs _ (procedure_at ps p).pre meets.pre_over meets.pre.0) (over_front (procedure_at ps p).inputs _ (procedure_at ps p).pre meets.pre_over)
  proper BoundGoal.post = proper_bound (procedure_at ps p) (procedure_at ps p).post meets.few_variables (subst (λ l. IsFormula (types_in (type_list l)) (procedure_at ps p).post) (sym (own_front (procedure_at ps p))) (formula_front ((procedure_at ps p).inputs ++ (procedure_at ps p).outputs) _ (procedure_at ps p).post meets.post_over meets.post)) (subst (λ l. IsOver (length l) (procedure_at ps p).post) (sym (own_front (procedure_at ps p))) (over_front ((procedure_at ps p).inputs ++ (procedure_at ps p).outputs) _ (procedure_at ps p).post meets.post_over))
  proper (BoundGoal.invariant n) = let h = proper_invariant ps (procedure_at ps p) n (in_order (acts_in (procedure_at ps p).body)) meets.typed (all_read ps (procedure_at ps p) meets) in proper_bound (procedure_at ps p) (form_or_zero (invariant_in n (in_order (acts_in (procedure_at ps p).body)))) meets.few_variables h.0 h.1

-- ---- Goals

pub goal_is : PrenexedGoalsAreGoals → (q : Question) → IsProper q → IsGoal (goal q)
goal_is goals q h = goals q.upper (type_list q.variables) (all_names q.variables q.found) q.stated q.found h.stated h.found h.stated_over h.found_over h.plain (all_names_length q.variables q.found)

pub goal_small : (q : Question) → IsProper q → IsSmall q.found → nodes q.stated ≤ 2 ^ 27 → IsFew (goal q)
goal_small q h s l =
    let n = nodes_unbound (λ x. x) (length (type_list q.variables)) q.found in
    let k = s.few in
    let a = length-append (type_list q.variables) (new_types (binders q.found)) in
    let b = new_types_length (binders q.found) in
    let c = types_length q.variables in
    let f = h.few in
    record { stated = omega (arith, l); found = omega (arith, n, k); variables = omega (arith, n, k, a, b, c, f) }
