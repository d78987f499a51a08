-- Meanings are monotone in what follows, up to other choices and a broken contract. They are also
-- on the safe side of a run that has not terminated.
use Rattle.std.proofs.Common.{◌≡◌, ◌∙◌, ℕ, refl, sym, ap, subst, Bool, true, false, cond, List, [], ◌∷◌, ◌++◌, ◌⊎◌, inl, inr}
use Rattle.std.specs.Prelude.{length}
use Prim.Native.Nat.{zero, suc}
use Rattle.heyvl_num.specs.Rational.{Rational, zeroʳ, oneʳ, ◌+ʳ◌, ◌≤ʳ◌}
use Rattle.heyvl_num.specs.Value.{Value, zeroᵛ, ◌+ᵛ◌, ◌*ᵛ◌, ◌≤ᵛ◌}
use Rattle.heyvl_num.specs.Value.Value.{finite}
use Rattle.heyvl_num.specs.WeightedSums.{total_weight}
use Rattle.heyvl_num.proofs.exported.Rationals.{+ʳ-zero, +ʳ_assoc, +ʳ_nonnegative}
use Rattle.heyvl_num.proofs.exported.Values.{+ᵛ_nonnegative, zero-≤ᵛ-one}
use Rattle.heylo_formula.specs.State.{Env, put, fit, has, environment, listed, IsTyped}
use Rattle.heylo_formula.specs.Choices.{Choices, here, left, right}
use Rattle.heylo_formula.specs.Formula.{Form, Term}
use Rattle.heylo_formula.specs.Meaning.{value, holds, term_value}
use Rattle.heylo_formula.specs.Typing.{Types, types_in, HasTypes, TermFits}
use Rattle.heylo_formula.specs.Variables.{IsOver}
use Rattle.heylo_formula.specs.declared.types.Ty.{Ty}
use Rattle.heylo_formula.specs.declared.values.Val.{Val}
use Rattle.heylo_formula.specs.declared.values.Val.TheVariants.{Truth}
use Rattle.heylo_formula.proofs.exported.Agreement.{same_on}
use Rattle.heylo_formula.proofs.exported.States.{env_typed, listed_same, put_keeps, fit_has}
use Rattle.heylo_formula.proofs.exported.TypedTerms.{nonnegative_value, term_typed}
use Rattle.heyvl_acts.specs.Tosses.{toss_weight, toss_parts}
use Rattle.heyvl_acts.proofs.exported.Tosses.{toss_fit, flips_weigh, before_products}
use Rattle.heyvl_acts.specs.Acts.{Head, Act, Acts, Arms, Variable, TypedProcedure, variables, type_list, types_of, procedure_at}
use Rattle.heyvl_acts.specs.Forward.{Post, past_products, picked, part, parts, drawn, meant_arms}
use Rattle.heyvl_acts.specs.ModifiedVariables.{modified}
use Rattle.heyvl_acts.specs.Rules.{ArgumentsFit}
use Rattle.heyvl_acts.specs.Visible.{Visible}
use Rattle.heyvl_acts.specs.WellTypedActs.{IsHeld, PartsFit}
use Rattle.k_induction.specs.Copies.{must, meets}
use Rattle.run_machine.specs.Configurations.{evaluate}
use Rattle.run_machine.specs.Sums.{begun}
use Rattle.run_machine.proofs.exported.Equations.{one_times}
use Rattle.bounded_runs.specs.internal.Contracts.{havoc, after, picks, past_picks, put_all, given, more, once, way, loop_value, call_value, meaning, meaning_act}
use Rattle.bounded_runs.specs.internal.Programs.{In, AllIn, Within, WithinAct, WithinArms, Owns, IsSmall, IsLoop, Program, ProgramAct, ProgramArms, HasFormulas, IsBoundedProgram}
use Rattle.bounded_runs.proofs.RunValues.{Safe, safe_refl, safe_trans, safe_sum, safe_scale, safe_picked, safe_checked, safe_blamed, pick_side, must_left, meets_least, begun_part}
use Rattle.bounded_runs.proofs.ProgramStates.{Same, same_put, same_put_all, same_havoc, again, havoc-again, after-again, repick, picks-repick, past-repick, picks_typed, havoc_keeps, append_typed, listed_state, TypedBelow}

abbrev pub both : Choices → Choices → Choices
both c d = Choices.choose (Truth false) c d

abbrev pub behind : Choices → Choices
behind c = Choices.choose (Truth false) Choices.stop c

-- For some choices the value is on the safe side.
pub record Found (up : Bool) (x : Value) (f : Choices → Value) : Type 0 where
  pub choices : Choices
  pub safe : Safe up x (f choices)

pub both_found : {B X Y Z : Type 0} → B ⊎ X → B ⊎ Y → (X → Y → Z) → B ⊎ Z
both_found (inl b) q f = inl b
both_found (inr x) (inl b) f = inl b
both_found (inr x) (inr y) f = inr (f x y)

pub then_found : {B X Z : Type 0} → B ⊎ X → (X → Z) → B ⊎ Z
then_found (inl b) f = inl b
then_found (inr x) f = inr (f x)

-- ---- Contracts that hold are formulas, and at most 1 in a program with `@wlp`

pub args_typed : (p : TypedProcedure) (ts : List Ty) (es : List Term) (s : Env) → ArgumentsFit p ts es → HasTypes (types_of p) s → IsTyped ts (evaluate es s)
args_typed p [] [] s f h = refl
args_typed p [] (e ∷ es) s f h = absurd f
args_typed p (t ∷ ts) [] s f h = absurd f
args_typed p (t ∷ ts) (e ∷ es) s f h = (term_typed (types_of p) t e s f.0 h, args_typed p ts es s f.1 h)

pub held_value : (types : Types) (f : Form) (s : Env) → IsHeld types f → HasTypes types s → zeroᵛ ≤ᵛ value f s Choices.stop
held_value types f s h e = nonnegative_value types f s Choices.stop h.0 e

pub begun_value : (up : Bool) (xs : List Variable) (f : Form) (s : Env) → IsHeld (types_in (type_list xs)) f → IsOver (length xs) f → (up ≡ false → IsSmall (type_list xs) f) → TypedBelow xs s → Safe up (begun up) (value f s Choices.stop)
begun_value up xs f s h o k e = subst (λ v. Safe up (begun up) v) (sym (same_on f s (environment (listed (length xs) s)) Choices.stop (λ y i. listed_same (length xs) s y (o y i)))) (at up k)
  where
    at : (d : Bool) → (d ≡ false → IsSmall (type_list xs) f) → Safe d (begun d) (value f (environment (listed (length xs) s)) Choices.stop)
    at true k = held_value (types_in (type_list xs)) f _ h (env_typed (type_list xs) _ (listed_state xs s e))
    at false k = k refl _ (listed_state xs s e)

pub given_pre : (q : TypedProcedure) → HasFormulas q → (vs : List Val) → IsTyped (type_list q.inputs) vs → zeroᵛ ≤ᵛ given q.pre vs
given_pre q f vs h = held_value (types_in (type_list q.inputs)) q.pre _ f.pre (env_typed (type_list q.inputs) vs h)

pub given_post : (q : TypedProcedure) → HasFormulas q → (vs ws : List Val) → IsTyped (type_list q.inputs) vs → IsTyped (type_list q.outputs) ws → zeroᵛ ≤ᵛ given q.post (vs ++ ws)
given_post q f vs ws h k = held_value (types_in (type_list (q.inputs ++ q.outputs))) q.post _ f.post (env_typed (type_list (q.inputs ++ q.outputs)) (vs ++ ws) (append_typed q.inputs q.outputs vs ws h k))

-- ---- Under: the same meaning with another post

abbrev pub Under : (up : Bool) (p : TypedProcedure) (B : Type 0) (v : Visible) (ms : List ℕ) (s : Env) (k l : Post) → Type 0
Under up p B v ms s k l = (t : Env) (c : Choices) → Same p v ms s t → B ⊎ Found up (k t c) (l t)

by_test : (up : Bool) (B : Type 0) (t : Bool) (x y : Value) (f g : Choices → Value) → B ⊎ Found up x f → B ⊎ Found up y g → B ⊎ Found up (cond t x y) (λ c. cond t (f c) (g c))
by_test up B true x y f g h k = h
by_test up B false x y f g h k = k

behind_found : {B : Type 0} (up : Bool) (x : Value) (f : Choices → Value) → B ⊎ Found up x f → B ⊎ Found up x (λ c. f (right c))
behind_found up x f (inl b) = inl b
behind_found up x f (inr g) = inr (record { choices = behind g.choices; safe = g.safe })

module _ (up : Bool) (ps : List TypedProcedure) (R : ℕ → Type 0) (hold : (n : ℕ) → R n → IsBoundedProgram up ps R (procedure_at ps n)) (p : TypedProcedure) where
  module _ (B : Type 0) (v : Visible) (ms : List ℕ) (s : Env) where
    part_under : (x : ℕ) (q : Rational × Term) → (v x ≡ true → In x ms) → (zeroʳ ≤ʳ q.0) × TermFits (types_of p) (types_of p x) q.1 → (k l : Post) → Under up p B v ms s k l → (t : Env) (c : Choices) → Same p v ms s t → B ⊎ Found up (part x q k t c) (part x q l t)
    part_under x q w f k l u t c e = then_found (u (put x (term_value q.1 t) t) c (same_put p v ms x _ s t w (term_typed (types_of p) (types_of p x) q.1 t f.1 e.typed) e)) (λ g. record { choices = g.choices; safe = safe_scale up q.0 _ _ f.0 g.safe })

    parts_under : (x : ℕ) (qs : List (Rational × Term)) → (v x ≡ true → In x ms) → PartsFit (types_of p) x qs → (k l : Post) → Under up p B v ms s k l → (total more : Post) (t : Env) (c : Choices) → Same p v ms s t → ((d : Choices) → B ⊎ Found up (total t d) (more t)) → B ⊎ Found up (parts x qs k total t c) (parts x qs l more t)
    parts_under x [] w f k l u total more t c e h = h c
    parts_under x (q ∷ qs) w f k l u total more t c e h = parts_under x qs w f.1 k l u (λ r d. total r (left d) +ᵛ part x q k r (right d)) (λ r d. more r (left d) +ᵛ part x q l r (right d)) t c e (λ d. both_found (h (left d)) (part_under x q w f.0 k l u t (right d) e) (λ g i. record { choices = both g.choices i.choices; safe = safe_sum up _ _ _ _ g.safe i.safe }))

    drawn_under : (x : ℕ) (qs : List (Rational × Term)) → (v x ≡ true → In x ms) → PartsFit (types_of p) x qs → (k l : Post) → Under up p B v ms s k l → Under up p B v ms s (drawn x qs k) (drawn x qs l)
    drawn_under x [] w f k l u t c e = inr (record { choices = c; safe = safe_refl up zeroᵛ })
    drawn_under x (q ∷ qs) w f k l u t c e = parts_under x qs w f.1 k l u (part x q k) (part x q l) t c e (λ d. part_under x q w f.0 k l u t d e)

    once_under : (body : Post → Post) (h : Head) (k l x y : Post) → Under up p B v ms s k l → Under up p B v ms s (body x) (body y) → Under up p B v ms s (once body h k x) (once body h l y)
    once_under body h k l x y u w t c e = by_test up B (holds h.guard t Choices.stop) _ _ _ _ (behind_found up _ _ (w t (right c) e)) (behind_found up _ _ (u t (right c) e))

    way_under : (body : Post → Post) → ((k l : Post) → Under up p B v ms s k l → Under up p B v ms s (body k) (body l)) → (h : Head) (b : Acts) → IsLoop up p h b → (k l : Post) → Under up p B v ms s k l → (j : ℕ) → Under up p B v ms s (way up body h k j) (way up body h l j)
    way_under body car h b f k l u zero t c e = inr (record { choices = c; safe = safe_refl up _ })
    way_under body car h b f k l u (suc j) t c e = then_found (behind_found up _ _ (once_under body h k l _ _ u (car _ _ (way_under body car h b f k l u j)) t (right c) e)) (λ g. record { choices = g.choices; safe = safe_checked up (meets up) _ _ _ (held_value (types_of p) h.inv t f.inv e.typed) g.safe })

    loop_under : (body : Post → Post) → ((k l : Post) → Under up p B v ms s k l → Under up p B v ms s (body k) (body l)) → (h : Head) (b : Acts) → IsLoop up p h b → AllIn v ms (modified h.scope b) → (k l : Post) → Under up p B v ms s k l → Under up p B v ms s (loop_value up (types_of p) h b body k) (loop_value up (types_of p) h b body l)
    loop_under body car h b f w k l u t c e =
        then_found (once_under body h k l _ _ u (car _ _ (way_under body car h b f k l u (more h))) (havoc (types_of p) (modified h.scope b) t (right c)) (right (after (modified h.scope b) (right c))) (same_havoc p v ms (modified h.scope b) s t (right c) w e))
        (λ g. record { choices = behind (again (modified h.scope b) (right c) (behind g.choices)); safe = safe_checked up (must up) _ _ _ (held_value (types_of p) h.inv t f.inv e.typed) (rw (havoc-again (types_of p) (modified h.scope b) t (right c) (behind g.choices), after-again (modified h.scope b) (right c) (behind g.choices)) (safe_blamed up _ _ _ (held_value (types_of p) h.inv _ f.inv (havoc_keeps (types_of p) (modified h.scope b) t (right c) e.typed)) g.safe)) })

    call_under : (xs : List ℕ) (n : ℕ) (es : List Term) → R n → Owns p xs (type_list (procedure_at ps n).outputs) → ArgumentsFit p (type_list (procedure_at ps n).inputs) es → AllIn v ms xs → (k l : Post) → Under up p B v ms s k l → Under up p B v ms s (call_value up ps xs n es k) (call_value up ps xs n es l)
    call_under xs n es r o f w k l u t c e =
        let vs = evaluate es t in
        let vt : IsTyped (type_list (procedure_at ps n).inputs) vs = args_typed p (type_list (procedure_at ps n).inputs) es t f e.typed in
        then_found (u (put_all xs (picks (type_list (procedure_at ps n).outputs) (right c)) t) (right (past_picks (type_list (procedure_at ps n).outputs) (right c))) (same_put_all p v ms xs (type_list (procedure_at ps n).outputs) _ s t w o (picks_typed (type_list (procedure_at ps n).outputs) (right c)) e))
        (λ g. record { choices = behind (repick (type_list (procedure_at ps n).outputs) (right c) (behind g.choices)); safe = safe_checked up (must up) _ _ _ (given_pre (procedure_at ps n) (hold n r).formulas vs vt) (rw (picks-repick (type_list (procedure_at ps n).outputs) (right c) (behind g.choices), past-repick (type_list (procedure_at ps n).outputs) (right c) (behind g.choices)) (safe_blamed up _ _ _ (given_post (procedure_at ps n) (hold n r).formulas vs (picks (type_list (procedure_at ps n).outputs) (right c)) vt (picks_typed (type_list (procedure_at ps n).outputs) (right c))) g.safe)) })

    mutual
      under_act : (a : Act) → ProgramAct up ps R p a → WithinAct v ms a → (k l : Post) → Under up p B v ms s k l → Under up p B v ms s (meaning_act up (types_of p) ps a k) (meaning_act up (types_of p) ps a l)
      under_act (Act.set x t' span) m w k l u t c e = u (put x (term_value t' t) t) c (same_put p v ms x _ s t w (term_typed (types_of p) (types_of p x) t' t m.1 e.typed) e)
      under_act (Act.draw x qs span) m w k l u t c e = drawn_under x qs w m.1.0 k l u t c e
      under_act (Act.toss x f span) m w k l u t c e = then_found (drawn_under x (toss_parts f t) w (toss_fit (types_of p) x f t m.1.0 m.1.1 e.typed) k l u t (past_products c) e) (λ g. record { choices = before_products g.choices; safe = g.safe })
      under_act (Act.any x d ty span) m w k l u t c e = then_found (u (put x (fit ty (here c)) t) (left c) (same_put p v ms x _ s t w (subst (λ ty'. has ty' (fit ty (here c)) ≡ true) (sym m.1.0) (fit_has ty (here c))) e)) (λ f. record { choices = Choices.choose (here c) f.choices Choices.stop; safe = f.safe })
      under_act (Act.reward f span) m w k l u t c e = then_found (u t (left c) e) (λ g. record { choices = both g.choices Choices.stop; safe = safe_sum up _ _ _ _ g.safe (safe_refl up _) })
      under_act (Act.ifs arms b span) m w k l u t c e = under_arms arms m.0 w.0 k l u (meaning up (types_of p) ps b k) (meaning up (types_of p) ps b l) (under_acts b m.1 w.1 k l u) t c e
      under_act (Act.pick d a b span) m w k l u t c e = both_found (under_acts a m.1.0 w.0 k l u t (left c) e) (under_acts b m.1.1 w.1 k l u t (right c) e) (λ f g. record { choices = both f.choices g.choices; safe = safe_picked up d _ _ _ _ f.safe g.safe })
      under_act (Act.check kind f span) m w k l u t c e = absurd m
      under_act (Act.validate co span) m w k l u t c e = absurd m
      under_act (Act.loop h b) m w k l u t c e = loop_under (meaning up (types_of p) ps b) (under_acts b m.1 w.1) h b m.0 w.0 k l u t c e
      under_act (Act.call xs n es span) m w k l u t c e = call_under xs n es m.0 m.1.0 m.1.1 w k l u t c e

      pub under_acts : (as' : Acts) → Program up ps R p as' → Within v ms as' → (k l : Post) → Under up p B v ms s k l → Under up p B v ms s (meaning up (types_of p) ps as' k) (meaning up (types_of p) ps as' l)
      under_acts Acts.done m w k l u t c e = u t c e
      under_acts (Acts.next a rest) m w k l u t c e = under_act a m.0 w.0 _ _ (under_acts rest m.1 w.1 k l u) t c e

      under_arms : (arms : Arms) → ProgramArms up ps R p arms → WithinArms v ms arms → (k l : Post) → Under up p B v ms s k l → (x y : Post) → Under up p B v ms s x y → Under up p B v ms s (meant_arms (loop_value up (types_of p)) (call_value up ps) arms k x) (meant_arms (loop_value up (types_of p)) (call_value up ps) arms l y)
      under_arms Arms.no_arm m w k l u x y v t c e = v t c e
      under_arms (Arms.arm g b more) m w k l u x y v t c e = by_test up B (holds g t Choices.stop) _ _ _ _ (behind_found up _ _ (under_acts b m.1.0 w.0 k l u t (right c) e)) (behind_found up _ _ (under_arms more m.1.1 w.1 k l u x y v t (right c) e))

  -- ---- Begun: on the safe side of a run that has not terminated

  abbrev pub Begun : Post → Type 0
  Begun k = (s : Env) (c : Choices) → HasTypes (types_of p) s → Safe up (begun up) (k s c)

  begun_test : (t : Bool) (x y : Value) → Safe up (begun up) x → Safe up (begun up) y → Safe up (begun up) (cond t x y)
  begun_test true x y h k = h
  begun_test false x y h k = k

  put_term : (x : ℕ) (t : Term) (s : Env) → TermFits (types_of p) (types_of p x) t → HasTypes (types_of p) s → HasTypes (types_of p) (put x (term_value t s) s)
  put_term x t s f h = put_keeps (types_of p) s x _ h (term_typed (types_of p) (types_of p x) t s f h)

  begun_parts : (x : ℕ) (qs : List (Rational × Term)) → PartsFit (types_of p) x qs → (k : Post) → Begun k → (u : Rational) → zeroʳ ≤ʳ u → (total : Post) (s : Env) → HasTypes (types_of p) s → ((d : Choices) → Safe up (finite u *ᵛ begun up) (total s d)) → (c : Choices) → Safe up (finite (u +ʳ total_weight qs) *ᵛ begun up) (parts x qs k total s c)
  unfolding total_weight
  begun_parts x [] f k b u q total s h g c = rw (+ʳ-zero u) (g c)
  begun_parts x (w ∷ qs) f k b u q total s h g c = subst (λ v. Safe up (finite v *ᵛ begun up) (parts x (w ∷ qs) k total s c)) (+ʳ_assoc u w.0 (total_weight qs)) (begun_parts x qs f.1 k b (u +ʳ w.0) (+ʳ_nonnegative u w.0 q f.0.0) (λ r d. total r (left d) +ᵛ part x w k r (right d)) s h (λ d. begun_part up u w.0 _ _ q f.0.0 (g (left d)) (b (put x (term_value w.1 s) s) (right d) (put_term x w.1 s f.0.1 h))) c)

  begun_none : (d : Bool) → Safe d (begun d) zeroᵛ
  begun_none true = safe_refl true zeroᵛ
  begun_none false = zero-≤ᵛ-one

  begun_drawn : (x : ℕ) (qs : List (Rational × Term)) → PartsFit (types_of p) x qs → total_weight qs ≡ oneʳ → (k : Post) → Begun k → Begun (drawn x qs k)
  unfolding total_weight
  begun_drawn x [] f e k b s c h = begun_none up
  begun_drawn x (w ∷ qs) f e k b s c h = subst (λ v. Safe up v (parts x qs k (part x w k) s c)) (ap (λ u. finite u *ᵛ begun up) e ∙ one_times (begun up)) (begun_parts x qs f.1 k b w.0 f.0.0 (part x w k) s h (λ d. safe_scale up w.0 _ _ f.0.0 (b (put x (term_value w.1 s) s) d (put_term x w.1 s f.0.1 h))) c)

  pub begun_way : (body : Post → Post) → ((k : Post) → Begun k → Begun (body k)) → (h : Head) (b : Acts) → IsLoop up p h b → (k : Post) → Begun k → (j : ℕ) → Begun (way up body h k j)
  begun_way body car h b f k g zero s c e = begun_value up (variables p) h.inv s f.inv f.over f.small (λ y i. e.typed y)
  begun_way body car h b f k g (suc j) s c e = meets_least up (begun up) _ _ (begun_value up (variables p) h.inv s f.inv f.over f.small (λ y i. e.typed y)) (begun_test (holds h.guard s Choices.stop) _ _ (car _ (begun_way body car h b f k g j) s (right (right c)) e) (g s (right (right c)) e))

  begun_reward : (d : Bool) → d ≡ true → (x a : Value) → zeroᵛ ≤ᵛ a → Safe d (begun d) x → Safe d (begun d) (x +ᵛ a)
  begun_reward true e x a h k = +ᵛ_nonnegative x a k h
  begun_reward false e x a h k = absurd (cc)

  begun_pick : (d e : Bool) → d ≡ e → (a b x : Value) → Safe e x a → Safe e x (picked d a b)
  begun_pick true true q a b x h = safe_trans true x a _ h (pick_side true a b).0
  begun_pick true false q a b x h = absurd (cc)
  begun_pick false true q a b x h = absurd (cc)
  begun_pick false false q a b x h = safe_trans false x a _ h (pick_side false a b).0

  mutual
    pub begun_act : (a : Act) → ProgramAct up ps R p a → (k : Post) → Begun k → Begun (meaning_act up (types_of p) ps a k)
    begun_act (Act.set x t span) m k b s c h = b _ c (put_term x t s m.1 h)
    begun_act (Act.draw x qs span) m k b s c h = begun_drawn x qs m.1.0 m.1.1 k b s c h
    begun_act (Act.toss x f span) m k b s c h = begun_drawn x (toss_parts f s) (toss_fit (types_of p) x f s m.1.0 m.1.1 h) (flips_weigh (toss_weight f s)) k b s (past_products c) h
    begun_act (Act.any x d ty span) m k b s c h = b _ (left c) (put_keeps (types_of p) s x _ h (subst (λ ty'. has ty' (fit ty (here c)) ≡ true) (sym m.1.0) (fit_has ty (here c))))
    begun_act (Act.reward f span) m k b s c h = begun_reward up m.0 _ _ (held_value (types_of p) f s m.1 h) (b s (left c) h)
    begun_act (Act.ifs arms e span) m k b s c h = begun_arms arms m.0 k b (meaning up (types_of p) ps e k) (begun_acts e m.1 k b) s c h
    begun_act (Act.pick d x y span) m k b s c h = begun_pick d up m.0 _ _ _ (begun_acts x m.1.0 k b s (left c) h)
    begun_act (Act.check kind f span) m k b s c h = absurd m
    begun_act (Act.validate co span) m k b s c h = absurd m
    begun_act (Act.loop h' b') m k b s c h = safe_trans up _ _ _ (begun_value up (variables p) h'.inv s m.0.inv m.0.over m.0.small (λ y i. h.typed y)) (must_left up _ _)
    begun_act (Act.call xs n es span) m k b s c h = safe_trans up _ _ _ (begun_value up (procedure_at ps n).inputs (procedure_at ps n).pre _ (hold n m.0).formulas.pre (hold n m.0).formulas.pre_over (hold n m.0).small_pre (λ y i. (env_typed (type_list (procedure_at ps n).inputs) _ (args_typed p (type_list (procedure_at ps n).inputs) es s m.1.1 h)).typed y)) (must_left up _ _)

    pub begun_acts : (as' : Acts) → Program up ps R p as' → (k : Post) → Begun k → Begun (meaning up (types_of p) ps as' k)
    begun_acts Acts.done m k b s c h = b s c h
    begun_acts (Acts.next a rest) m k b s c h = begun_act a m.0 _ (begun_acts rest m.1 k b) s c h

    begun_arms : (arms : Arms) → ProgramArms up ps R p arms → (k : Post) → Begun k → (y : Post) → Begun y → Begun (meant_arms (loop_value up (types_of p)) (call_value up ps) arms k y)
    begun_arms Arms.no_arm m k b y d s c h = d s c h
    begun_arms (Arms.arm g x more) m k b y d s c h = begun_test (holds g s Choices.stop) _ _ (begun_acts x m.1.0 k b s (right c) h) (begun_arms more m.1.1 k b y d s (right c) h)
