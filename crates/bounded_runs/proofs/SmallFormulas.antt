-- The formulas of a proc with `@wlp` are at most 1, if the goals that state this hold.
use Rattle.std.proofs.Common.{◌≡◌, ◌≤◌, ◌<◌, ◌≢◌, ℕ, refl, sym, ap, subst, ◌∙◌, arith, Bool, true, false, ◌==◌, List, [], ◌∷◌, ◌++◌, length, map}
use Rattle.std.specs.Prelude.{if◌then◌else◌, Option, Some, None}
use Rattle.std.proofs.lemmas.List.{append_assoc, length-map, map-append}
use Prim.Native.Nat.{zero, suc}
use Rattle.heyvl_num.specs.Value.{oneᵛ, ◌≤ᵛ◌}
use Rattle.heylo_formula.specs.Choices.{Choices}
use Rattle.heylo_formula.specs.Formula.{Form}
use Rattle.heylo_formula.specs.State.{environment}
use Rattle.heylo_formula.specs.Variables.{IsOver}
use Rattle.heylo_formula.specs.declared.types.Ty.{Ty}
use Rattle.heylo_formula.proofs.exported.Agreement.{same_on}
use Rattle.heylo_formula.proofs.exported.States.{append_first, length-typed, typed_append}
use Rattle.heyvl_acts.specs.Acts.{Act, Acts, TypedProcedure, Variable, acts_in, type_list, variables}
use Rattle.heyvl_acts.specs.Places.{in_order}
use Rattle.heyvl_acts.specs.Program.{IsProgram}
use Rattle.heyvl_acts.specs.Rules.{Each, MeetsRules, counted, loop_numbers}
use Rattle.act_walks.specs.Loops.{loop_in}
use Rattle.loop_encodings.specs.BoundGoals.{BoundGoal, BoundGoalsHold, GoalHolds, IsAtMostOne, IsBounded, IsSmallThere, invariant_at, invariant_in}
use Rattle.bounded_runs.specs.internal.Contracts.{picks}
use Rattle.bounded_runs.specs.internal.Programs.{IsSmall}
use Rattle.bounded_runs.proofs.ModifiedVariables.{self}
use Rattle.bounded_runs.proofs.ProgramStates.{picks_typed}
use Rattle.bounded_runs.proofs.RuledPrograms.{HasSmallInvariant}

-- ---- Formulas over the first variables

small_front : (ts us : List Ty) (f : Form) → IsOver (length ts) f → IsAtMostOne (ts ++ us) f → IsSmall ts f
small_front ts us f o h s t =
    let same = same_on f (environment (s ++ picks us Choices.stop)) (environment s) Choices.stop (λ y k. append_first s (picks us Choices.stop) y (subst (λ n. y < n) (sym (length-typed ts s t)) (o y k))) in
    subst (λ v. v ≤ᵛ oneᵛ) same (h (s ++ picks us Choices.stop) Choices.stop (typed_append ts us s (picks us Choices.stop) t (picks_typed us Choices.stop)))

-- ---- Invariants

-- The property holds of the formula, if there is one.
abbrev OfForm : (Form → Type 0) → Option Form → Type 0
OfForm P None = Unit {0}
OfForm P (Some f) = P f

each_further : (Q S : ℕ → Type 0) (from n : ℕ) → ((m : ℕ) → from ≤ m → Q m → S m) → Each Q (counted from n) → Each S (counted from n)
each_further Q S from zero f h = tt
each_further Q S from (suc n) f h = (f from (omega arith) h.0, each_further Q S (suc from) n (λ m l. f m (omega (arith, l))) h.1)

abbrev IsSmallIn : TypedProcedure → Form → Type 0
IsSmallIn p f = IsAtMostOne (type_list (variables p)) f

loops_have : (p : TypedProcedure) (from n : ℕ) (acts : List Act) → loop_numbers acts ≡ counted from n → Each (λ m. OfForm (IsSmallIn p) (invariant_in m acts)) (loop_numbers acts) → Each (HasSmallInvariant p) acts
loops_have p from n [] e h = tt
loops_have p from n (Act.set x t span ∷ rest) e h = (tt, loops_have p from n rest e h)
loops_have p from n (Act.draw x qs span ∷ rest) e h = (tt, loops_have p from n rest e h)
loops_have p from n (Act.toss x f span ∷ rest) e h = (tt, loops_have p from n rest e h)
loops_have p from n (Act.any x up ty span ∷ rest) e h = (tt, loops_have p from n rest e h)
loops_have p from n (Act.reward f span ∷ rest) e h = (tt, loops_have p from n rest e h)
loops_have p from n (Act.ifs arms o span ∷ rest) e h = (tt, loops_have p from n rest e h)
loops_have p from n (Act.pick up a b span ∷ rest) e h = (tt, loops_have p from n rest e h)
loops_have p from n (Act.check kind f span ∷ rest) e h = (tt, loops_have p from n rest e h)
loops_have p from n (Act.validate co span ∷ rest) e h = (tt, loops_have p from n rest e h)
loops_have p from n (Act.call xs q es span ∷ rest) e h = (tt, loops_have p from n rest e h)
loops_have p from zero (Act.loop k b ∷ rest) e h = absurd (cc)
loops_have p from (suc n) (Act.loop k b ∷ rest) e h =
    let number : k.number ≡ from = cc in
    let further : loop_numbers rest ≡ counted (suc from) n = cc in
    let later = each_further (λ m. OfForm (IsSmallIn p) (invariant_in m (Act.loop k b ∷ rest))) (λ m. OfForm (IsSmallIn p) (invariant_in m rest)) (suc from) n (λ m l. skips m l number) (subst (Each (λ m. OfForm (IsSmallIn p) (invariant_in m (Act.loop k b ∷ rest)))) further h.1) in
    (here (k.number == k.number) (self k.number) h.0, loops_have p (suc from) n rest further (subst (Each (λ m. OfForm (IsSmallIn p) (invariant_in m rest))) (sym further) later))
  where
    here : (t : Bool) → t ≡ true → OfForm (IsSmallIn p) (invariant_at (if t then Some (k, b) else loop_in k.number rest)) → IsSmallIn p k.inv
    here true t h = h
    here false t h = absurd (cc)

    past : (m : ℕ) (t : Bool) → t ≡ false → OfForm (IsSmallIn p) (invariant_at (if t then Some (k, b) else loop_in m rest)) → OfForm (IsSmallIn p) (invariant_in m rest)
    past m true t h = absurd (cc)
    past m false t h = h

    skips : (m : ℕ) → suc from ≤ m → k.number ≡ from → OfForm (IsSmallIn p) (invariant_in m (Act.loop k b ∷ rest)) → OfForm (IsSmallIn p) (invariant_in m rest)
    skips m l e h = past m (k.number == m) (let d : k.number ≢ m = omega (arith, l, e) in grind arith) h

each_map : {A B : Type 0} (f : A → B) (Q : B → Type 0) (xs : List A) → Each Q (map f xs) → Each (λ x. Q (f x)) xs
each_map f Q [] h = tt
each_map f Q (x ∷ xs) h = (h.0, each_map f Q xs h.1)

each_all : {A : Type 0} (Q S : A → Type 0) (xs : List A) → ((x : A) → Q x → S x) → Each Q xs → Each S xs
each_all Q S [] f h = tt
each_all Q S (x ∷ xs) f h = (f x h.0, each_all Q S xs f h.1)

-- ---- The goals

pub main_goal : (ps : List TypedProcedure) (p : TypedProcedure) → IsProgram p → BoundGoalsHold ps p → IsBounded ps p
main_goal ps p h g = go p.body h g
  where
    go : (b : Option Acts) → IsProgram (record p { body = b }) → BoundGoalsHold ps (record p { body = b }) → IsBounded ps (record p { body = b })
    go None h g = absurd (cc)
    go (Some acts) h g = g.0

-- The additional goals of a proc with `@wlp`.
record WeakGoals (ps : List TypedProcedure) (p : TypedProcedure) : Type 0 where
  pub pre : IsAtMostOne (type_list (variables p)) p.pre
  pub post : IsAtMostOne (type_list (variables p)) p.post
  pub invariants : Each (λ n. GoalHolds ps p (BoundGoal.invariant n)) (loop_numbers (in_order (acts_in p.body)))

weak_goals : (ps : List TypedProcedure) (p : TypedProcedure) → IsProgram p → BoundGoalsHold ps p → p.weak ≡ true → WeakGoals ps p
weak_goals ps p h g e = go p.body p.weak h g e
  where
    go : (b : Option Acts) (w : Bool) → IsProgram (record p { body = b; weak = w }) → BoundGoalsHold ps (record p { body = b; weak = w }) → w ≡ true → WeakGoals ps (record p { body = b; weak = w })
    go None w h g e = absurd (cc)
    go (Some acts) false h g e = absurd (cc)
    go (Some acts) true h g e = record { pre = g.1.0; post = g.1.1.0; invariants = each_map BoundGoal.invariant (GoalHolds ps (record p { body = Some acts; weak = true })) (loop_numbers (in_order acts)) g.1.1.1 }

module _ (ps : List TypedProcedure) (p : TypedProcedure) (rules : MeetsRules ps p) (program : IsProgram p) (goals : BoundGoalsHold ps p) (weak : p.weak ≡ true) where
  invariant_small : (n : ℕ) → GoalHolds ps p (BoundGoal.invariant n) → OfForm (IsSmallIn p) (invariant_in n (in_order (acts_in p.body)))
  invariant_small n h = go (invariant_in n (in_order (acts_in p.body))) refl
    where
      go : (o : Option Form) → invariant_in n (in_order (acts_in p.body)) ≡ o → OfForm (IsSmallIn p) (invariant_in n (in_order (acts_in p.body)))
      go None e = subst (OfForm (IsSmallIn p)) (sym e) tt
      go (Some f) e = subst (OfForm (IsSmallIn p)) (sym e) (λ s c t. subst (λ (o : Option Form). IsSmallThere o s c) e (h s c t))

  pub small_invariants : Each (HasSmallInvariant p) (in_order (acts_in p.body))
  small_invariants = loops_have p 1 p.loops (in_order (acts_in p.body)) rules.numbered (each_all (λ n. GoalHolds ps p (BoundGoal.invariant n)) (λ n. OfForm (IsSmallIn p) (invariant_in n (in_order (acts_in p.body)))) (loop_numbers (in_order (acts_in p.body))) invariant_small (weak_goals ps p program goals weak).invariants)

  pub small_pre : IsSmall (type_list p.inputs) p.pre
  small_pre = small_front (type_list p.inputs) (type_list (p.outputs ++ p.locals)) p.pre (subst (λ n. IsOver n p.pre) (sym (length-map p.inputs (λ (v : Variable). v.ty))) rules.pre_over) (subst (λ tys. IsAtMostOne tys p.pre) (map-append (λ (v : Variable). v.ty) p.inputs (p.outputs ++ p.locals)) (weak_goals ps p program goals weak).pre)

  pub small_post : IsSmall (type_list (p.inputs ++ p.outputs)) p.post
  small_post = small_front (type_list (p.inputs ++ p.outputs)) (type_list p.locals) p.post (subst (λ n. IsOver n p.post) (sym (length-map (p.inputs ++ p.outputs) (λ (v : Variable). v.ty))) rules.post_over) (subst (λ tys. IsAtMostOne tys p.post) (ap type_list (sym (append_assoc p.inputs p.outputs p.locals)) ∙ map-append (λ (v : Variable). v.ty) (p.inputs ++ p.outputs) p.locals) (weak_goals ps p program goals weak).post)
