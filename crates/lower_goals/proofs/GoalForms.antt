-- The two sides of each goal of an omega pair. They are formulas over the goal's variables. Only
-- the larger one has binders, which are named after variables of the first procedure. Both are
-- small enough to be decided.
use Rattle.std.proofs.Common.{◌≡◌, ◌∙◌, ◌<◌, ◌≤◌, ◌+◌, ◌*◌, ◌^◌, ◌==◌, ◌||◌, ℕ, refl, sym, ap, subst, arith, Bool, true, false, cond, List, [], ◌∷◌, ◌++◌, length}
use Rattle.std.specs.Prelude.{Option, Some}
use Prim.Native.Nat.{suc}
use Rattle.heyvl_num.specs.Rational.{Rational, zeroʳ, oneʳ, leqʳ, ◌≤ʳ◌}
use Rattle.heyvl_num.specs.Value.{zeroᵛ, oneᵛ}
use Rattle.heyvl_num.specs.Value.Value.{finite}
use Rattle.heyvl_num.proofs.exported.Rationals.{≤ʳ_refl, zero-≤ʳ-one}
use Rattle.heyvl_num.proofs.exported.WholeNumbers.{one_whole, zero_whole}
use Rattle.heylo_formula.specs.BinderNames.{Binder, binders, binders_in}
use Rattle.heylo_formula.specs.Binders.{has_binder, IsPlain}
use Rattle.heylo_formula.specs.Formula.{Form, Term}
use Rattle.heylo_formula.specs.Sizes.{nodes, nodes_in}
use Rattle.heylo_formula.specs.Substitution as Replaced
use Rattle.heylo_formula.specs.Typing.{NumberType, Types, TermFits, constant_type, fits, is_bool, is_unsigned, is_well_typed, joined, number_type, only_if, types_in, type_of, IsFormula}
use Rattle.heylo_formula.specs.Variables.{is_free, is_free_in, occurs_in_term, IsOver}
use Rattle.heylo_formula.specs.declared.types.Ty.{Ty}
use Rattle.heylo_formula.proofs.exported.BinderNames.{unnamed, unnamed_in}
use Rattle.heylo_formula.proofs.exported.Plain.{joins, term_plain}
use Rattle.heylo_formula.proofs.exported.Substitutions.{count_subst, subst_binders, subst_formula, subst_over}
use Rattle.heyvl_acts.specs.Acts.{TypedProcedure, type_list, variables}
use Rattle.heyvl_acts.specs.FormSizes.{FormsWithin}
use Rattle.heyvl_acts.specs.Rules.{AreNamed, Each, MeetsRules}
use Rattle.heyvl_acts.specs.WellTypedActs.{ActsFit}
use Rattle.vp_generator.specs.Fit.{AreFit}
use Rattle.vp_generator.specs.Laws.{GeneratedFormIsFormula}
use Rattle.vp_generator.specs.Limits.{IsSmall}
use Rattle.vp_generator.specs.Over.{GeneratedFormIsOver}
use Rattle.vp_generator.specs.PrenexLaws.{PrenexedFormHasNoBinder, PrenexedFormIsFormula}
use Rattle.vp_generator.specs.Scopes.{GeneratedFormIsNamed}
use Rattle.lower_goals.specs.OmegaGoals.{after_body, after_loop, greater, limited, smaller}
use Rattle.lower_goals.specs.OmegaPairs.{IsOmegaPair, formula_of}
use Rattle.lower_goals.specs.OneLoop.{OneLoop}
use Rattle.lower_goals.specs.declared.answers.Step.{Step}
use Rattle.lower_goals.specs.declared.answers.Step.TheVariants.{One, Base, Turn}
use Rattle.lower_goals.proofs.GoalVariables.{own_types, turn_type}
use Rattle.lower_goals.proofs.OmegaParts.{behind_acts, body_acts, formula_nodes, formula_over, formula_plain, formula_typed, guard_nodes, guard_over, guard_plain, guard_typed, post_formula, post_over, post_plain}
use Rattle.lower_goals.proofs.PutSizes.{put_size}
use Rattle.lower_goals.proofs.TurnActs.{acts_below, acts_fit, acts_over, cond_over, form_over, formula}

-- ---- Constants

alike : (x : ℕ) → (x == x) ≡ true
alike x = grind arith

whole_unsigned : (x : Rational) → zeroʳ ≤ʳ x → x.den ≡ 1 → constant_type (finite x) ≡ Some NumberType.uint
whole_unsigned x h e = go (leqʳ zeroʳ x) (x.den == 1) h.holds (ap (λ n. n == 1) e)
  where
    go : (a b : Bool) → a ≡ true → b ≡ true → cond a (Some (cond b NumberType.uint NumberType.ureal)) (only_if b (Some NumberType.int)) ≡ Some NumberType.uint
    go true true h k = refl
    go true false h k = absurd (cc)
    go false b h k = absurd (cc)

zero_type : constant_type zeroᵛ ≡ Some NumberType.uint
unfolding zeroᵛ
zero_type = whole_unsigned zeroʳ (≤ʳ_refl zeroʳ) zero_whole

one_type : constant_type oneᵛ ≡ Some NumberType.uint
unfolding oneᵛ
one_type = whole_unsigned oneʳ zero-≤ʳ-one one_whole

zero_unsigned : is_unsigned (constant_type zeroᵛ) ≡ true
zero_unsigned = ap is_unsigned zero_type

one_unsigned : is_unsigned (constant_type oneᵛ) ≡ true
one_unsigned = ap is_unsigned one_type

guarded : (b : Bool) (t : Option NumberType) → b ≡ true → is_unsigned t ≡ true → is_unsigned (only_if b t) ≡ true
guarded true t e h = h
guarded false t e h = absurd (cc)

-- ---- Terms that are substituted for the number of iterations

abbrev pub no_turn : Term
no_turn = Term.number (Form.number zeroᵛ)

abbrev pub one_more : ℕ → Term
one_more n = Term.number (Form.sum (Form.variable n) (Form.number oneᵛ))

no_turn_fits : (types : Types) (n : ℕ) → types n ≡ Ty.UInt → TermFits types (types n) no_turn
no_turn_fits types n e = (ap is_bool e, subst (λ u. fits (constant_type zeroᵛ) (number_type u) ≡ true) (sym e) (subst (λ t. fits t (number_type Ty.UInt) ≡ true) (sym zero_type) refl))

one_more_fits : (types : Types) (n : ℕ) → types n ≡ Ty.UInt → TermFits types (types n) (one_more n)
one_more_fits types n e = (ap is_bool e, subst (λ u. fits (joined (number_type u) (constant_type oneᵛ)) (number_type u) ≡ true) (sym e) (subst (λ t. fits (joined (number_type Ty.UInt) t) (number_type Ty.UInt) ≡ true) (sym one_type) refl))

no_turn_over : (n y : ℕ) → occurs_in_term y no_turn ≡ true → y < suc n
no_turn_over n y h = absurd (cc)

one_more_over : (n y : ℕ) → occurs_in_term y (one_more n) ≡ true → y < suc n
one_more_over n y h = let e : y ≡ n = same (y == n) refl h in omega (arith, e)
  where
    same : (b : Bool) → (y == n) ≡ b → (b || false) ≡ true → y ≡ n
    same true e k = grind arith
    same false e k = absurd (cc)

-- ---- Binders

named_append : (n : ℕ) (xs ys : List Binder) → AreNamed n xs → AreNamed n ys → AreNamed n (xs ++ ys)
named_append n [] ys h k = k
named_append n (x ∷ xs) ys h k = (h.0, named_append n xs ys h.1 k)

none_named : (n : ℕ) (f : Form) → has_binder f ≡ false → AreNamed n (binders f)
none_named n f e = subst (λ bs. AreNamed n bs) (sym (unnamed f e)) tt

either_three : (a b c : Bool) {P : Type 0} → (a || (b || c)) ≡ true → (a ≡ true → P) → (b ≡ true → P) → (c ≡ true → P) → P
either_three true b c e f g h = f refl
either_three false true c e f g h = g refl
either_three false false true e f g h = h refl
either_three false false false e f g h = absurd (cc)

module _ (ps : List TypedProcedure) (p : TypedProcedure) (rules : MeetsRules ps p) (l : OneLoop p) (q : TypedProcedure) (q_rules : MeetsRules ps q) (pair : IsOmegaPair p l.head q) where
  -- ---- Variables

  pub smaller_over : (step : Step) → IsOver (suc (length (variables p))) (smaller (length (variables p)) (formula_of p l.head q) step)
  smaller_over One = formula_over ps p rules l q q_rules pair
  smaller_over Base = subst_over (suc (length (variables p))) (length (variables p)) no_turn (formula_of p l.head q) (formula_over ps p rules l q q_rules pair) (no_turn_over (length (variables p)))
  smaller_over Turn = subst_over (suc (length (variables p))) (length (variables p)) (one_more (length (variables p))) (formula_of p l.head q) (formula_over ps p rules l q q_rules pair) (one_more_over (length (variables p)))

  pub loop_over : GeneratedFormIsOver → IsOver (length (variables p)) (after_loop p l.behind)
  loop_over law = law (length (variables p)) l.behind p.post (acts_over ps p (length (variables p)) (omega arith) l.behind (behind_acts ps p rules l)) (post_over ps p rules l)

  pub body_over : GeneratedFormIsOver → IsOver (suc (length (variables p))) (after_body l.body (formula_of p l.head q))
  body_over law = law (suc (length (variables p))) l.body (formula_of p l.head q) (acts_over ps p (suc (length (variables p))) (omega arith) l.body (body_acts ps p rules l)) (formula_over ps p rules l q q_rules pair)

  pub greater_over : GeneratedFormIsOver → (step : Step) → IsOver (suc (length (variables p))) (greater p l.head l.body l.behind (formula_of p l.head q) step)
  greater_over law One y e = absurd (cc)
  greater_over law Base y e = either_three (is_free_in y l.head.guard) false (is_free y (after_loop p l.behind)) e (cond_over ps p (suc (length (variables p))) (omega arith) l.head.guard (guard_over ps p rules l) y) (λ k. absurd (cc)) (form_over ps p (suc (length (variables p))) (omega arith) (after_loop p l.behind) (loop_over law) y)
  greater_over law Turn y e = either_three (is_free_in y l.head.guard) (is_free y (after_body l.body (formula_of p l.head q))) (is_free y (after_loop p l.behind)) e (cond_over ps p (suc (length (variables p))) (omega arith) l.head.guard (guard_over ps p rules l) y) (body_over law y) (form_over ps p (suc (length (variables p))) (omega arith) (after_loop p l.behind) (loop_over law) y)

  -- ---- Types

  module _ (tys : List Ty) (are : tys ≡ type_list (variables p) ++ Ty.UInt ∷ []) where
    pub body_fit : ActsFit (types_in tys) l.body
    body_fit = acts_fit ps p (types_in tys) (own_types p tys are) l.body (body_acts ps p rules l)

    pub behind_fit : ActsFit (types_in tys) l.behind
    behind_fit = acts_fit ps p (types_in tys) (own_types p tys are) l.behind (behind_acts ps p rules l)

    post_typed : IsFormula (types_in tys) p.post
    post_typed = formula ps p (types_in tys) (own_types p tys are) p.post (post_over ps p rules l) (post_formula ps p rules l)

    pub body_ready : PrenexedFormIsFormula → AreFit l.body (formula_of p l.head q)
    body_ready law = record { types = types_in tys; fit = body_fit; formula = formula_typed ps p rules l q q_rules pair law tys are }

    pub behind_ready : AreFit l.behind p.post
    behind_ready = record { types = types_in tys; fit = behind_fit; formula = post_typed }

    pub smaller_typed : PrenexedFormIsFormula → (step : Step) → IsFormula (types_in tys) (smaller (length (variables p)) (formula_of p l.head q) step)
    smaller_typed law One = formula_typed ps p rules l q q_rules pair law tys are
    smaller_typed law Base = subst_formula (types_in tys) (length (variables p)) no_turn (formula_of p l.head q) (no_turn_fits (types_in tys) (length (variables p)) (turn_type p tys are)) (formula_typed ps p rules l q q_rules pair law tys are)
    smaller_typed law Turn = subst_formula (types_in tys) (length (variables p)) (one_more (length (variables p))) (formula_of p l.head q) (one_more_fits (types_in tys) (length (variables p)) (turn_type p tys are)) (formula_typed ps p rules l q q_rules pair law tys are)

    loop_typed : GeneratedFormIsFormula → IsFormula (types_in tys) (after_loop p l.behind)
    loop_typed made = made (types_in tys) l.behind p.post behind_fit post_typed

    body_typed : GeneratedFormIsFormula → PrenexedFormIsFormula → IsFormula (types_in tys) (after_body l.body (formula_of p l.head q))
    body_typed made law = made (types_in tys) l.body (formula_of p l.head q) body_fit (formula_typed ps p rules l q q_rules pair law tys are)

    pub greater_typed : GeneratedFormIsFormula → PrenexedFormIsFormula → (step : Step) → IsFormula (types_in tys) (greater p l.head l.body l.behind (formula_of p l.head q) step)
    greater_typed made law One = one_unsigned
    greater_typed made law Base = guarded (is_well_typed (types_in tys) l.head.guard) (joined (constant_type zeroᵛ) (type_of (types_in tys) (after_loop p l.behind))) (guard_typed ps p rules l (types_in tys) (own_types p tys are)) (joins (constant_type zeroᵛ) (type_of (types_in tys) (after_loop p l.behind)) zero_unsigned (loop_typed made))
    greater_typed made law Turn = guarded (is_well_typed (types_in tys) l.head.guard) (joined (type_of (types_in tys) (after_body l.body (formula_of p l.head q))) (type_of (types_in tys) (after_loop p l.behind))) (guard_typed ps p rules l (types_in tys) (own_types p tys are)) (joins (type_of (types_in tys) (after_body l.body (formula_of p l.head q))) (type_of (types_in tys) (after_loop p l.behind)) (body_typed made law) (loop_typed made))

    -- ---- The substituted terms have no binders

    pub no_turn_plain : IsPlain no_turn
    no_turn_plain = term_plain (types_in tys) (types_in tys (length (variables p))) no_turn (no_turn_fits (types_in tys) (length (variables p)) (turn_type p tys are))

    pub one_more_plain : IsPlain (one_more (length (variables p)))
    one_more_plain = term_plain (types_in tys) (types_in tys (length (variables p))) (one_more (length (variables p))) (one_more_fits (types_in tys) (length (variables p)) (turn_type p tys are))

    pub smaller_plain : PrenexedFormHasNoBinder → (step : Step) → has_binder (smaller (length (variables p)) (formula_of p l.head q) step) ≡ false
    smaller_plain law One = formula_plain ps p rules l q q_rules pair law
    smaller_plain law Base = subst_binders (length (variables p)) no_turn (formula_of p l.head q) no_turn_plain ∙ formula_plain ps p rules l q q_rules pair law
    smaller_plain law Turn = subst_binders (length (variables p)) (one_more (length (variables p))) (formula_of p l.head q) one_more_plain ∙ formula_plain ps p rules l q q_rules pair law

    -- ---- Binders are named after variables

    loop_named : GeneratedFormIsNamed → AreNamed (suc (length (variables p))) (binders (after_loop p l.behind))
    loop_named law = law (suc (length (variables p))) (types_in tys) l.behind p.post behind_fit (acts_below ps p (suc (length (variables p))) (omega arith) l.behind (behind_acts ps p rules l)) (none_named (suc (length (variables p))) p.post (post_plain ps p rules l))

    body_named : GeneratedFormIsNamed → PrenexedFormHasNoBinder → AreNamed (suc (length (variables p))) (binders (after_body l.body (formula_of p l.head q)))
    body_named law plain = law (suc (length (variables p))) (types_in tys) l.body (formula_of p l.head q) body_fit (acts_below ps p (suc (length (variables p))) (omega arith) l.body (body_acts ps p rules l)) (none_named (suc (length (variables p))) (formula_of p l.head q) (formula_plain ps p rules l q q_rules pair plain))

    guard_named : AreNamed (suc (length (variables p))) (binders_in l.head.guard)
    guard_named = subst (λ bs. AreNamed (suc (length (variables p))) bs) (sym (unnamed_in l.head.guard (guard_plain ps p rules l))) tt

    pub greater_named : GeneratedFormIsNamed → PrenexedFormHasNoBinder → (step : Step) → AreNamed (suc (length (variables p))) (binders (greater p l.head l.body l.behind (formula_of p l.head q) step))
    greater_named law plain One = tt
    greater_named law plain Base = named_append (suc (length (variables p))) (binders_in l.head.guard) ([] ++ binders (after_loop p l.behind)) guard_named (loop_named law)
    greater_named law plain Turn = named_append (suc (length (variables p))) (binders_in l.head.guard) (binders (after_body l.body (formula_of p l.head q)) ++ binders (after_loop p l.behind)) guard_named (named_append (suc (length (variables p))) (binders (after_body l.body (formula_of p l.head q))) (binders (after_loop p l.behind)) (body_named law plain) (loop_named law))

  -- ---- Sizes

  put_nodes : (n : ℕ) (t : Term) (f : Form) → nodes (Replaced.as_form t) ≤ 3 → nodes_in (Replaced.as_cond t) ≤ 3 → has_binder f ≡ false → nodes (Replaced.subst n t f) ≤ 3 * nodes f
  put_nodes n t f h k e = let c = count_subst n t f in let b = put_size n (nodes (Replaced.as_form t)) (nodes_in (Replaced.as_cond t)) h k f e in omega (arith, c, b)

  pub smaller_few : FormsWithin (2 ^ 27) q → PrenexedFormHasNoBinder → (step : Step) → nodes (smaller (length (variables p)) (formula_of p l.head q) step) < 2 ^ 29
  smaller_few within law One = let a = formula_nodes ps p rules l q q_rules pair within in omega (arith, a)
  smaller_few within law Base = let a = formula_nodes ps p rules l q q_rules pair within in let b = put_nodes (length (variables p)) no_turn (formula_of p l.head q) (omega arith) (omega arith) (formula_plain ps p rules l q q_rules pair law) in omega (arith, a, b)
  smaller_few within law Turn = let a = formula_nodes ps p rules l q q_rules pair within in let b = put_nodes (length (variables p)) (one_more (length (variables p))) (formula_of p l.head q) (omega arith) (omega arith) (formula_plain ps p rules l q q_rules pair law) in omega (arith, a, b)

  pub greater_few : FormsWithin (2 ^ 27) p → (step : Step) → Each IsSmall (limited p l.body l.behind (formula_of p l.head q) step) → nodes (greater p l.head l.body l.behind (formula_of p l.head q) step) ≤ 1 + (2 ^ 27 + (200000 + 200000))
  greater_few within One small = omega arith
  greater_few within Base small = let g = guard_nodes ps p rules l within in let a = small.0.few in omega (arith, g, a)
  greater_few within Turn small = let g = guard_nodes ps p rules l within in let a = small.0.few in let b = small.1.0.few in omega (arith, g, a, b)
