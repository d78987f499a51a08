-- The formulas of a proc with `@wlp` that have to be at most 1, and their goals.
use Rattle.std.proofs.Common.{◌≡◌, ℕ, false, cond, ◌==◌, refl, ap, sym, subst, ◌∙◌, arith, map, List, [], ◌∷◌, ◌++◌, append_assoc, length}
use Rattle.std.specs.Prelude.{Some}
use Rattle.std.proofs.lemmas.List.{map-append}
use Prim.Native.Nat.{zero, suc}
use Rattle.heylo_formula.specs.BinderNames.{Binder, binders}
use Rattle.heylo_formula.specs.Binders.{has_binder}
use Rattle.heylo_formula.specs.Formula.{Form}
use Rattle.heylo_formula.specs.PlainTrees.{form_of}
use Rattle.heylo_formula.specs.declared.goals.GoalId.{GoalId}
use Rattle.heylo_formula.specs.declared.goals.GoalId.TheVariants.{Pre, Post, Invariant}
use Rattle.heyvl_acts.specs.Acts.{Act, TypedProcedure, acts_in, variables}
use Rattle.heyvl_acts.specs.Places.{in_order}
use Rattle.heyvl_acts.specs.Rules.{AreNamed, Each, HasNamedBinders, IsTypedAct, MeetsRules, counted, loop_numbers}
use Rattle.act_walks.specs.Loops.{loop_in}
use Rattle.loop_encodings.specs.BoundGoals.{BoundGoal, goal_id, invariant_at, invariant_in}
use Rattle.loop_encodings.proofs.exported.BoundNames.{same_goal}
use Rattle.verify_core.specs.Questions.{form_or_zero, one_bound, question}
use Rattle.verify_core.specs.declared.bound_questions.Asked as declared
use Rattle.verify_core.specs.internal.BoundQuestions.{Asked, IsAsked, asked, asked_invariants, plain}
use Rattle.verify_core.proofs.FirstFound.{IsFirst, further, other_number, own_number, same_from}

-- ---- The goals' ids

invariant_ids : (acts : List Act) → map (λ (a : Asked). a.0) (asked_invariants acts) ≡ map goal_id (map BoundGoal.invariant (loop_numbers acts))
invariant_ids [] = refl
invariant_ids (Act.loop h b ∷ rest) = ap (λ l. Invariant h.number ∷ l) (invariant_ids rest)
invariant_ids (Act.set x t span ∷ rest) = invariant_ids rest
invariant_ids (Act.draw x ps span ∷ rest) = invariant_ids rest
invariant_ids (Act.toss x f span ∷ rest) = invariant_ids rest
invariant_ids (Act.any x up ty span ∷ rest) = invariant_ids rest
invariant_ids (Act.reward f span ∷ rest) = invariant_ids rest
invariant_ids (Act.ifs arms e span ∷ rest) = invariant_ids rest
invariant_ids (Act.pick up a b span ∷ rest) = invariant_ids rest
invariant_ids (Act.check kind f span ∷ rest) = invariant_ids rest
invariant_ids (Act.validate co span ∷ rest) = invariant_ids rest
invariant_ids (Act.call xs q es span ∷ rest) = invariant_ids rest

abbrev pub weak_goals : TypedProcedure → List BoundGoal
weak_goals p = BoundGoal.pre ∷ (BoundGoal.post ∷ map BoundGoal.invariant (loop_numbers (in_order (acts_in p.body))))

pub asked_ids : (p : TypedProcedure) → map (λ (a : Asked). a.0) (asked p) ≡ map goal_id (weak_goals p)
asked_ids p = ap (λ l. Pre ∷ (Post ∷ l)) (invariant_ids (in_order (acts_in p.body)))

-- ---- The questions of the goals

record IsInvariant (m : ℕ) (f : Form) (a : Asked) : Type 0 where
  pub id : a.0 ≡ Invariant m
  pub form : f ≡ a.1
  pub plain : has_binder a.1 ≡ false

abbrev IsFoundFrom : ℕ → List Act → Asked → Type 0
IsFoundFrom from acts a = IsFirst invariant_in IsInvariant from acts a

module _ (ps : List TypedProcedure) (p : TypedProcedure) where
  found_from : (from n : ℕ) (acts : List Act) → loop_numbers acts ≡ counted from n → Each (IsTypedAct ps p) acts → Each (IsFoundFrom from acts) (asked_invariants acts)
  found_from from n [] e t = tt
  found_from from zero (Act.loop h b ∷ rest) e t = absurd (cc)
  found_from from (suc n) (Act.loop h b ∷ rest) e t =
      let k : h.number ≡ from = cc in
      let r : loop_numbers rest ≡ counted (suc from) n = cc in (
        record { number = h.number; item = h.inv; least = omega (arith, k); found = ap invariant_at (own_number h.number (h, b) (loop_in h.number rest)); says = record { id = refl; form = refl; plain = t.0.inv.1 } },
        further invariant_in IsInvariant from rest (Act.loop h b ∷ rest) (asked_invariants rest) (λ m l. ap invariant_at (ap (λ i. cond (i == m) (Some (h, b)) (loop_in m rest)) k ∙ other_number from m (h, b) (loop_in m rest) l)) (found_from (suc from) n rest r t.1),
      )
  found_from from n (Act.set x u span ∷ rest) e t = same_from invariant_in IsInvariant from rest (Act.set x u span ∷ rest) (asked_invariants rest) (λ m. refl) (found_from from n rest e t.1)
  found_from from n (Act.draw x qs span ∷ rest) e t = same_from invariant_in IsInvariant from rest (Act.draw x qs span ∷ rest) (asked_invariants rest) (λ m. refl) (found_from from n rest e t.1)
  found_from from n (Act.toss x f span ∷ rest) e t = same_from invariant_in IsInvariant from rest (Act.toss x f span ∷ rest) (asked_invariants rest) (λ m. refl) (found_from from n rest e t.1)
  found_from from n (Act.any x up ty span ∷ rest) e t = same_from invariant_in IsInvariant from rest (Act.any x up ty span ∷ rest) (asked_invariants rest) (λ m. refl) (found_from from n rest e t.1)
  found_from from n (Act.reward f span ∷ rest) e t = same_from invariant_in IsInvariant from rest (Act.reward f span ∷ rest) (asked_invariants rest) (λ m. refl) (found_from from n rest e t.1)
  found_from from n (Act.ifs arms f span ∷ rest) e t = same_from invariant_in IsInvariant from rest (Act.ifs arms f span ∷ rest) (asked_invariants rest) (λ m. refl) (found_from from n rest e t.1)
  found_from from n (Act.pick up a b span ∷ rest) e t = same_from invariant_in IsInvariant from rest (Act.pick up a b span ∷ rest) (asked_invariants rest) (λ m. refl) (found_from from n rest e t.1)
  found_from from n (Act.check kind f span ∷ rest) e t = same_from invariant_in IsInvariant from rest (Act.check kind f span ∷ rest) (asked_invariants rest) (λ m. refl) (found_from from n rest e t.1)
  found_from from n (Act.validate co span ∷ rest) e t = same_from invariant_in IsInvariant from rest (Act.validate co span ∷ rest) (asked_invariants rest) (λ m. refl) (found_from from n rest e t.1)
  found_from from n (Act.call xs q es span ∷ rest) e t = same_from invariant_in IsInvariant from rest (Act.call xs q es span ∷ rest) (asked_invariants rest) (λ m. refl) (found_from from n rest e t.1)

  module _ (unnamed : (f : Form) → has_binder f ≡ false → binders f ≡ []) where
    no_names : (n : ℕ) (f : Form) → has_binder f ≡ false → AreNamed n (binders f)
    no_names n f h = subst (λ (bs : List Binder). AreNamed n bs) (sym (unnamed f h)) tt

    found_asked : (xs : List Asked) → Each (IsFoundFrom 1 (in_order (acts_in p.body))) xs → Each (IsAsked ps p) xs
    found_asked [] h = tt
    found_asked (x ∷ xs) h = (record { asks = λ g i. ap (λ b. question ps p b) (same_goal g (BoundGoal.invariant h.0.number) (i ∙ h.0.says.id)) ∙ (ap (λ o. one_bound p (form_or_zero o)) h.0.found ∙ ap (λ f. one_bound p f) h.0.says.form); named = no_names (length (variables p)) x.1 h.0.says.plain }, found_asked xs h.1)

    pub each_is_asked : MeetsRules ps p → HasNamedBinders p → Each (IsAsked ps p) (asked p)
    each_is_asked meets named = (record { asks = λ g i. ap (λ b. question ps p b) (same_goal g BoundGoal.pre i); named = no_names (length (variables p)) p.pre meets.pre.1 }, (record { asks = λ g i. ap (λ b. question ps p b) (same_goal g BoundGoal.post i); named = named }, found_asked (asked_invariants (in_order (acts_in p.body))) (found_from 1 p.loops (in_order (acts_in p.body)) meets.numbered meets.typed)))

pub pushed : (before after : List declared.Asked) (x : declared.Asked) (id : GoalId) (f : Form) (rest whole : List Asked) → after ≡ before ++ x ∷ [] → x.id ≡ id → form_of x.form ≡ f → (id, f) ∷ rest ≡ whole → map plain after ++ rest ≡ map plain before ++ whole
pushed before after x id f rest whole h i j k = ap (λ l. map plain l ++ rest) h ∙ (ap (λ l. l ++ rest) (map-append plain before (x ∷ [])) ∙ (append_assoc (map plain before) (plain x ∷ []) rest ∙ (ap (λ p. map plain before ++ p ∷ rest) (pair i j) ∙ ap (λ l. map plain before ++ l) k)))
  where
    pair : x.id ≡ id → form_of x.form ≡ f → plain x ≡ (id, f)
    pair i j = ap (λ n. (n, form_of x.form)) i ∙ ap (λ g. (id, g)) j
