-- The iterations of a loop, times the step, are at most the ranking: by induction on the number of
-- steps, for each list of acts of the body that is left before the next test.
use Rattle.std.proofs.lemmas.List.{length-map}
use Rattle.std.proofs.Common.{◌≡◌, ◌∙◌, ℕ, ◌+◌, ◌<◌, refl, sym, ap, ap₂, subst, arith, Bool, true, false, List, [], ◌∷◌, ◌==◌}
use Rattle.std.specs.Prelude.{length, pos, set, if◌then◌else◌, ◌+ℤ◌}
use Prim.Native.Nat.{zero, suc}
use Rattle.heyvl_num.specs.Rational.{Rational, ratio, zeroʳ, oneʳ, ◌+ʳ◌, ◌≤ʳ◌}
use Rattle.heyvl_num.specs.Value.{Value, zeroᵛ, oneᵛ, ◌+ᵛ◌, ◌*ᵛ◌, ◌≤ᵛ◌}
use Rattle.heyvl_num.specs.Value.Value.{finite}
use Rattle.heyvl_num.specs.ValueOperators.{maxᵛ}
use Rattle.heyvl_num.specs.WeightedSums.{total_weight, weighted_sum}
use Rattle.heyvl_num.proofs.exported.Integers.{*ℤ-one}
use Rattle.heyvl_num.proofs.exported.Rationals.{ratio-+, +ʳ-zero, +ʳ_assoc, +ʳ_nonnegative}
use Rattle.heyvl_num.proofs.exported.Values.{+ᵛ_comm, +ᵛ_assoc, zero-+ᵛ, +ᵛ-zero, *ᵛ_left_comm, *ᵛ-zero, *ᵛ-one, scale-+ᵛ, weights-*, finite-+, ≤ᵛ_refl, ≤ᵛ_trans, +ᵛ_mono, scale_mono, ≤ᵛ-+ᵛ}
use Rattle.heyvl_num.proofs.exported.Operators.{max_above_left, max_above_right}
use Rattle.heyvl_num.proofs.exported.WeightedSums.{weighted_sum-empty}
use Rattle.heylo_formula.specs.Binders.{has_binder}
use Rattle.heylo_formula.specs.Choices.{Choices, left, right}
use Rattle.heylo_formula.specs.Formula.{Form, Term}
use Rattle.heylo_formula.specs.Meaning.{value, holds, term_value}
use Rattle.heylo_formula.specs.Typing.{TermFits}
use Rattle.heylo_formula.specs.State.{Env, put, fit, has, environment}
use Rattle.heylo_formula.specs.declared.values.Val.{Val}
use Rattle.heylo_formula.specs.declared.values.Val.TheVariants.{Truth}
use Rattle.heylo_formula.proofs.exported.Agreement.{unchosen}
use Rattle.heylo_formula.proofs.exported.States.{length-typed, set_is_put, set_typed, env_typed, fit_has}
use Rattle.heylo_formula.proofs.exported.TypedTerms.{term_typed}
use Rattle.heyvl_acts.specs.Acts.{Head, Act, Acts, TypedProcedure, Variable, join, procedure_at, type_list, types_of, variables}
use Rattle.heyvl_acts.specs.Forward.{Post, part, parts, drawn, forward}
use Rattle.heyvl_acts.specs.Matching.{taken}
use Rattle.heyvl_acts.specs.Tosses.{toss_weight, toss_parts}
use Rattle.heyvl_acts.proofs.exported.Tosses.{toss_fit, flips_weigh, before_products}
use Rattle.heyvl_acts.specs.Places.{in_order, inside, inside_arms}
use Rattle.heyvl_acts.specs.Rules.{Each, IsOwn}
use Rattle.heyvl_acts.specs.WellTypedActs.{PartsFit, DrawFits}
use Rattle.run_machine.specs.Bound.{IsState, RankedBy, at_test}
use Rattle.run_machine.specs.Configurations.{Item, Config, Outcomes, push}
use Rattle.run_machine.specs.Runs.{runs, spread}
use Rattle.run_machine.specs.Scheduler.{Tree, Forest, decision, under, first, rest}
use Rattle.run_machine.specs.Step.{Decision, value_of, side_of, sure, moved, turned, counted, branch, branches, test, step_act}
use Rattle.run_machine.specs.Sums.{turns_in, turns_sum}
use Rattle.run_machine.proofs.exported.Equations.{push_join, runs-zero, runs-next, one_times, worth-one, worth-spread, worth-sure}
use Rattle.ranking_rule.specs.Rankings.{IsRanking}
use Rattle.heyvl_acts.specs.Upward.{upward}
use Rattle.heyvl_acts.proofs.exported.Each.{each_first, each_second, each_join, each_taken}
use Rattle.ranking_rule.proofs.RankedBodies.{IsTurnAct}
use Rattle.heyvl_acts.proofs.exported.UpwardMeaning.{joined_meaning, raised_meaning}

-- ---- Numbers of iterations

abbrev count : ℕ → Value
count n = finite (ratio (pos n) 1)

count-suc : (n : ℕ) → count (1 + n) ≡ oneᵛ +ᵛ count n
unfolding oneᵛ oneʳ
count-suc n = sym (finite-+ (ratio (pos 1) 1) (ratio (pos n) 1) ∙ ap finite (ratio-+ (pos 1) 1 (pos n) 1 (omega arith) (omega arith) ∙ ap (λ a. ratio a 1) (ap₂ (λ a b. a +ℤ b) (*ℤ-one (pos 1)) (*ℤ-one (pos n)))))

count-zero : count 0 ≡ zeroᵛ
unfolding zeroᵛ zeroʳ
count-zero = refl

alike : (x : ℕ) → (x == x) ≡ true
alike x = grind arith

-- ---- Sums that stay at most the values for some choices

four : (a b c d : Value) → (a +ᵛ b) +ᵛ (c +ᵛ d) ≡ (a +ᵛ c) +ᵛ (b +ᵛ d)
four a b c d = +ᵛ_assoc a b (c +ᵛ d) ∙ ap (λ u. a +ᵛ u) (sym (+ᵛ_assoc b c d) ∙ ap (λ u. u +ᵛ d) (+ᵛ_comm b c) ∙ +ᵛ_assoc c b d) ∙ sym (+ᵛ_assoc a c (b +ᵛ d))

-- For some choices, `x` times `e` is at most `there` plus the value.
record AtMost (e : Rational) (x there : Value) (f : Choices → Value) : Type 0 where
  choices : Choices
  most : finite e *ᵛ x ≤ᵛ there +ᵛ f choices

part_first : (e w : Rational) (x t k : Value) → zeroʳ ≤ʳ w → finite e *ᵛ x ≤ᵛ t +ᵛ k → finite e *ᵛ (finite w *ᵛ x) ≤ᵛ (finite w *ᵛ t) +ᵛ (finite w *ᵛ k)
part_first e w x t k p h = subst (λ u. u ≤ᵛ (finite w *ᵛ t) +ᵛ (finite w *ᵛ k)) (*ᵛ_left_comm (finite w) (finite e) x) (subst (λ u. finite w *ᵛ (finite e *ᵛ x) ≤ᵛ u) (scale-+ᵛ w t k) (scale_mono w (finite e *ᵛ x) (t +ᵛ k) p h))

part_add : (e u w : Rational) (y x t d k : Value) → zeroʳ ≤ʳ u → zeroʳ ≤ʳ w → finite e *ᵛ y ≤ᵛ (finite u *ᵛ t) +ᵛ d → finite e *ᵛ x ≤ᵛ t +ᵛ k → finite e *ᵛ (y +ᵛ (finite w *ᵛ x)) ≤ᵛ (finite (u +ʳ w) *ᵛ t) +ᵛ (d +ᵛ (finite w *ᵛ k))
part_add e u w y x t d k p q g h = subst (λ v. v ≤ᵛ (finite (u +ʳ w) *ᵛ t) +ᵛ (d +ᵛ (finite w *ᵛ k))) (sym (scale-+ᵛ e y (finite w *ᵛ x))) (subst (λ v. (finite e *ᵛ y) +ᵛ (finite e *ᵛ (finite w *ᵛ x)) ≤ᵛ v) (four (finite u *ᵛ t) d (finite w *ᵛ t) (finite w *ᵛ k) ∙ ap (λ v. v +ᵛ (d +ᵛ (finite w *ᵛ k))) (sym (weights-* u w t p q))) (+ᵛ_mono (finite e *ᵛ y) ((finite u *ᵛ t) +ᵛ d) (finite e *ᵛ (finite w *ᵛ x)) ((finite w *ᵛ t) +ᵛ (finite w *ᵛ k)) g (part_first e w x t k q h)))

at_most_more : (e : Rational) (x t v w : Value) → v ≤ᵛ w → finite e *ᵛ x ≤ᵛ t +ᵛ v → finite e *ᵛ x ≤ᵛ t +ᵛ w
at_most_more e x t v w h k = ≤ᵛ_trans (finite e *ᵛ x) (t +ᵛ v) (t +ᵛ w) k (+ᵛ_mono t t v w (≤ᵛ_refl t) h)

one_turn : (e : Rational) (x n v : Value) → finite e *ᵛ x ≤ᵛ (finite e *ᵛ (oneᵛ +ᵛ n)) +ᵛ v → finite e *ᵛ x ≤ᵛ (finite e *ᵛ n) +ᵛ (finite e +ᵛ v)
one_turn e x n v h = subst (λ u. finite e *ᵛ x ≤ᵛ u) (ap (λ u. u +ᵛ v) (scale-+ᵛ e oneᵛ n ∙ ap (λ u. u +ᵛ (finite e *ᵛ n)) times_one ∙ +ᵛ_comm (finite e) (finite e *ᵛ n)) ∙ +ᵛ_assoc (finite e *ᵛ n) (finite e) v) h
  where
    times_one : finite e *ᵛ oneᵛ ≡ finite e
    times_one = *ᵛ-one (finite e)

-- ---- States

module _ (q : TypedProcedure) where
  own_below : (x : ℕ) → IsOwn q x → x < length (type_list (variables q))
  own_below x o = subst (λ n. x < n) (sym (length-map (variables q) (λ (v : Variable). v.ty))) o.below

  set_state : (x : ℕ) (v : Val) (s : List Val) → IsOwn q x → has (types_of q x) v ≡ true → IsState q s → IsState q (set s x v)
  set_state x v s o e h = set_typed (type_list (variables q)) s x v h (own_below x o) e

  set_env : (x : ℕ) (v : Val) (s : List Val) → IsOwn q x → IsState q s → environment (set s x v) ≡ put x v (environment s)
  set_env x v s o h = set_is_put s x v (subst (λ n. x < n) (sym (length-typed (type_list (variables q)) s h)) (own_below x o))

-- ---- The induction

module _ (ps : List TypedProcedure) (p : ℕ) (h : Head) (b : Acts) (r : Rational × Form) (body : Each (IsTurnAct ps (procedure_at ps p)) (in_order b)) (ranking : IsRanking (procedure_at ps p) h b r) (nonnegative : (acts : Acts) (s : List Val) (c : Choices) → Each (IsTurnAct ps (procedure_at ps p)) (in_order acts) → IsState (procedure_at ps p) s → zeroᵛ ≤ᵛ forward (upward acts) (value r.1) (environment s) c) where
  abbrev Fine : Acts → Type 0
  Fine acts = Each (IsTurnAct ps (procedure_at ps p)) (in_order acts)

  abbrev State : List Val → Type 0
  State s = IsState (procedure_at ps p) s

  abbrev tests : List Item
  tests = Item.turn h b ∷ []

  abbrev at : List Item → List Val → Value → (ℕ → ℕ) → Config
  at is s v turns = record { procedure = p; items = is; frames = []; state = s; reward = v; turns = turns }

  abbrev so_far : (ℕ → ℕ) → Value
  so_far turns = finite r.0 *ᵛ count (turns h.number)

  abbrev Total : ℕ → Config → Tree → Value
  Total n c t = turns_sum h.number (runs ps n c t)

  abbrev Spread : ℕ → Outcomes → Forest → Value
  Spread n cs ts = turns_sum h.number (spread (runs ps n) cs ts)

  abbrev left_over : Acts → Post
  left_over acts = forward (upward acts) (value r.1)

  abbrev Few : Value → (ℕ → ℕ) → (Choices → Value) → Type 0
  Few x turns f = AtMost r.0 x (so_far turns) f

  -- The claim from acts of the body before the next test on.
  abbrev Claim : ℕ → Type 0
  Claim n = (acts : Acts) → Fine acts → (s : List Val) → State s → (v : Value) (turns : ℕ → ℕ) (t : Tree) → Few (Total n (at (push acts tests) s v turns) t) turns (left_over acts (environment s))

  module _ (n : ℕ) (claim : Claim n) where
    from_sure : (acts : Acts) → Fine acts → (s : List Val) → State s → (v : Value) (turns : ℕ → ℕ) (ts : Forest) → Few (Spread n (sure (at (push acts tests) s v turns)) ts) turns (left_over acts (environment s))
    from_sure acts f s st v turns ts = let k = claim acts f s st v turns (first ts) in record { choices = k.choices; most = subst (λ x. finite r.0 *ᵛ x ≤ᵛ so_far turns +ᵛ left_over acts (environment s) k.choices) (sym (worth-sure (turns_in h.number) (runs ps n) (at (push acts tests) s v turns) ts)) k.most }

    from_block : (block acts : Acts) → Fine block → Fine acts → (s : List Val) → State s → (v : Value) (turns : ℕ → ℕ) (ts : Forest) → Few (Spread n (sure (at (push block (push acts tests)) s v turns)) ts) turns (forward (upward block) (left_over acts) (environment s))
    from_block block acts g f s st v turns ts = subst (λ (k : Post). Few (Spread n (sure (at (push block (push acts tests)) s v turns)) ts) turns (k (environment s))) (joined_meaning block acts (value r.1)) (subst (λ is. Few (Spread n (sure (at is s v turns)) ts) turns (left_over (join block acts) (environment s))) (push_join block acts tests) (from_sure (join block acts) (each_join (IsTurnAct ps (procedure_at ps p)) block acts g f) s st v turns ts))

    from_put : (x : ℕ) (w : Val) → IsOwn (procedure_at ps p) x → has (types_of (procedure_at ps p) x) w ≡ true → (acts : Acts) → Fine acts → (s : List Val) → State s → (v : Value) (turns : ℕ → ℕ) (t : Tree) → Few (Total n (at (push acts tests) (set s x w) v turns) t) turns (left_over acts (put x w (environment s)))
    from_put x w o i acts f s st v turns t = subst (λ (e : Env). Few (Total n (at (push acts tests) (set s x w) v turns) t) turns (left_over acts e)) (set_env (procedure_at ps p) x w s o st) (claim acts f (set s x w) (set_state (procedure_at ps p) x w s o i st) v turns t)

    from_set : (x : ℕ) (w : Val) → IsOwn (procedure_at ps p) x → has (types_of (procedure_at ps p) x) w ≡ true → (acts : Acts) → Fine acts → (s : List Val) → State s → (v : Value) (turns : ℕ → ℕ) (ts : Forest) → Few (Spread n (sure (at (push acts tests) (set s x w) v turns)) ts) turns (left_over acts (put x w (environment s)))
    from_set x w o i acts f s st v turns ts = let k = from_put x w o i acts f s st v turns (first ts) in record { choices = k.choices; most = subst (λ y. finite r.0 *ᵛ y ≤ᵛ so_far turns +ᵛ left_over acts (put x w (environment s)) k.choices) (sym (worth-sure (turns_in h.number) (runs ps n) (at (push acts tests) (set s x w) v turns) ts)) k.most }

    typed_term : (x : ℕ) (t : Term) (s : List Val) → State s → TermFits (types_of (procedure_at ps p)) (types_of (procedure_at ps p) x) t → has (types_of (procedure_at ps p) x) (term_value t (environment s)) ≡ true
    typed_term x t s st i = term_typed (types_of (procedure_at ps p)) (types_of (procedure_at ps p) x) t (environment s) i (env_typed (type_list (variables (procedure_at ps p))) s st)

    from_parts : (x : ℕ) (qs : List (Rational × Term)) → IsOwn (procedure_at ps p) x → PartsFit (types_of (procedure_at ps p)) x qs → (acts : Acts) → Fine acts → (s : List Val) → State s → (v : Value) (turns : ℕ → ℕ) (ts : Forest) (u : Rational) → zeroʳ ≤ʳ u → (total : Post) (y : Value) → AtMost r.0 y (finite u *ᵛ so_far turns) (total (environment s)) → AtMost r.0 (y +ᵛ Spread n (branches (at (push acts tests) s v turns) (push acts tests) x qs) ts) (finite (u +ʳ total_weight qs) *ᵛ so_far turns) (parts x qs (left_over acts) total (environment s))
    unfolding total_weight
    from_parts x [] o i acts f s st v turns ts u z total y k = record { choices = k.choices; most = rw (weighted_sum-empty (turns_in h.number), +ᵛ-zero y, +ʳ-zero u) k.most }
    from_parts x (q ∷ qs) o i acts f s st v turns ts u z total y k =
        let w = term_value q.1 (environment s) in
        let c = at (push acts tests) s v turns in
        let d = from_put x w o (typed_term x q.1 s st i.0.1) acts f s st v turns (first ts) in
        let one = Total n (branch c (push acts tests) x q).1 (first ts) in
        let m = from_parts x qs o i.1 acts f s st v turns (rest ts) (u +ʳ q.0) (+ʳ_nonnegative u q.0 z i.0.0) (λ e c. total e (left c) +ᵛ part x q (left_over acts) e (right c)) (y +ᵛ (finite q.0 *ᵛ one)) (record { choices = Choices.choose (Truth false) k.choices d.choices; most = part_add r.0 u q.0 y one (so_far turns) (total (environment s) k.choices) (left_over acts (put x w (environment s)) d.choices) z i.0.0 k.most d.most }) in
        record {
          choices = m.choices;
          most = subst (λ a. finite r.0 *ᵛ a ≤ᵛ (finite (u +ʳ total_weight (q ∷ qs)) *ᵛ so_far turns) +ᵛ parts x (q ∷ qs) (left_over acts) total (environment s) m.choices) (+ᵛ_assoc y (finite q.0 *ᵛ one) (Spread n (branches c (push acts tests) x qs) (rest ts)) ∙ ap (λ a. y +ᵛ a) (sym (worth-spread (turns_in h.number) (runs ps n) (branch c (push acts tests) x q) (branches c (push acts tests) x qs) ts))) (subst (λ a. finite r.0 *ᵛ ((y +ᵛ (finite q.0 *ᵛ one)) +ᵛ Spread n (branches c (push acts tests) x qs) (rest ts)) ≤ᵛ (finite a *ᵛ so_far turns) +ᵛ parts x (q ∷ qs) (left_over acts) total (environment s) m.choices) (+ʳ_assoc u q.0 (total_weight qs)) m.most);
        }

    from_draw : (x : ℕ) (qs : List (Rational × Term)) → IsOwn (procedure_at ps p) x → DrawFits (types_of (procedure_at ps p)) x qs → total_weight qs ≡ oneʳ → (acts : Acts) → Fine acts → (s : List Val) → State s → (v : Value) (turns : ℕ → ℕ) (ts : Forest) → Few (Spread n (branches (at (push acts tests) s v turns) (push acts tests) x qs) ts) turns (drawn x qs (left_over acts) (environment s))
    unfolding total_weight
    from_draw x [] o i e acts f s st v turns ts = absurd i
    from_draw x (q ∷ qs) o i e acts f s st v turns ts =
        let w = term_value q.1 (environment s) in
        let c = at (push acts tests) s v turns in
        let d = from_put x w o (typed_term x q.1 s st i.0.1) acts f s st v turns (first ts) in
        let one = Total n (branch c (push acts tests) x q).1 (first ts) in
        let m = from_parts x qs o i.1 acts f s st v turns (rest ts) q.0 i.0.0 (part x q (left_over acts)) (finite q.0 *ᵛ one) (record { choices = d.choices; most = part_first r.0 q.0 one (so_far turns) (left_over acts (put x w (environment s)) d.choices) i.0.0 d.most }) in
        record {
          choices = m.choices;
          most = subst (λ a. finite r.0 *ᵛ a ≤ᵛ so_far turns +ᵛ parts x qs (left_over acts) (part x q (left_over acts)) (environment s) m.choices) (sym (worth-spread (turns_in h.number) (runs ps n) (branch c (push acts tests) x q) (branches c (push acts tests) x qs) ts)) (subst (λ a. finite r.0 *ᵛ ((finite q.0 *ᵛ one) +ᵛ Spread n (branches c (push acts tests) x qs) (rest ts)) ≤ᵛ a +ᵛ parts x qs (left_over acts) (part x q (left_over acts)) (environment s) m.choices) (one_times (so_far turns)) (subst (λ a. finite r.0 *ᵛ ((finite q.0 *ᵛ one) +ᵛ Spread n (branches c (push acts tests) x qs) (rest ts)) ≤ᵛ (finite a *ᵛ so_far turns) +ᵛ parts x qs (left_over acts) (part x q (left_over acts)) (environment s) m.choices) e m.most));
        }

    from_pick : (side : Bool) (x y acts : Acts) → Fine x → Fine y → Fine acts → (s : List Val) → State s → (v : Value) (turns : ℕ → ℕ) (ts : Forest) → Few (Spread n (sure (at (push (if side then x else y) (push acts tests)) s v turns)) ts) turns (λ c. maxᵛ (forward (upward x) (left_over acts) (environment s) (left c)) (forward (upward y) (left_over acts) (environment s) (right c)))
    from_pick true x y acts g i f s st v turns ts = let k = from_block x acts g f s st v turns ts in record { choices = Choices.choose (Truth false) k.choices Choices.stop; most = at_most_more r.0 _ (so_far turns) _ _ (max_above_left _ _) k.most }
    from_pick false x y acts g i f s st v turns ts = let k = from_block y acts i f s st v turns ts in record { choices = Choices.choose (Truth false) Choices.stop k.choices; most = at_most_more r.0 _ (so_far turns) _ _ (max_above_right _ _) k.most }

    from_act : (a : Act) → IsTurnAct ps (procedure_at ps p) a → Each (IsTurnAct ps (procedure_at ps p)) (inside a) → (acts : Acts) → Fine acts → (s : List Val) → State s → (v : Value) (turns : ℕ → ℕ) (d : Decision) (ts : Forest) → Few (Spread n (step_act ps a (push acts tests) (at (push (Acts.next a acts) tests) s v turns) d) ts) turns (left_over (Acts.next a acts) (environment s))
    from_act (Act.set x t span) g i acts f s st v turns d ts = let k = from_set x (term_value t (environment s)) g.0.0 (typed_term x t s st g.0.1) acts f s st v turns ts in record { choices = k.choices; most = k.most }
    from_act (Act.draw x qs span) g i acts f s st v turns d ts = let k = from_draw x qs g.0.0 g.0.1 g.1.0 acts f s st v turns ts in record { choices = k.choices; most = k.most }
    from_act (Act.toss x w span) g i acts f s st v turns d ts = let k = from_draw x (toss_parts w (environment s)) g.0.0 (toss_fit (types_of (procedure_at ps p)) x w (environment s) g.0.1.0 g.0.1.1 (env_typed (type_list (variables (procedure_at ps p))) s st)) (flips_weigh (toss_weight w (environment s))) acts f s st v turns ts in record { choices = before_products k.choices; most = k.most }
    from_act (Act.any x up ty span) g i acts f s st v turns d ts = let k = from_set x (fit ty (value_of d)) g.0.0 (subst (λ u. has u (fit ty (value_of d)) ≡ true) (sym g.0.1) (fit_has ty (value_of d))) acts f s st v turns ts in record { choices = Choices.choose (value_of d) k.choices Choices.stop; most = k.most }
    from_act (Act.reward w span) g i acts f s st v turns d ts = from_sure acts f s st (v +ᵛ value w (environment s) Choices.stop) turns ts
    from_act (Act.ifs arms e span) g i acts f s st v turns d ts =
        let block = taken arms e (environment s) in
        let k = from_block block acts (each_taken (IsTurnAct ps (procedure_at ps p)) arms e (environment s) (each_first (IsTurnAct ps (procedure_at ps p)) (inside_arms arms) (in_order e) i) (each_second (IsTurnAct ps (procedure_at ps p)) (inside_arms arms) (in_order e) i)) f s st v turns ts in
        let m = raised_meaning arms e (left_over acts) (environment s) k.choices in
        record { choices = m.choices; most = subst (λ y. finite r.0 *ᵛ Spread n (sure (at (push block (push acts tests)) s v turns)) ts ≤ᵛ so_far turns +ᵛ y) (sym m.reached) k.most }
    from_act (Act.pick up x y span) g i acts f s st v turns d ts = let k = from_pick (side_of d) x y acts (each_first (IsTurnAct ps (procedure_at ps p)) (in_order x) (in_order y) i) (each_second (IsTurnAct ps (procedure_at ps p)) (in_order x) (in_order y) i) f s st v turns ts in record { choices = k.choices; most = k.most }
    from_act (Act.check kind w span) g i acts f s st v turns d ts = absurd (let e = g.1.1 in cc)
    from_act (Act.validate co span) g i acts f s st v turns d ts = absurd (let e = g.1.1 in cc)
    from_act (Act.loop k c) g i acts f s st v turns d ts = absurd (let e = g.1.1 in cc)
    from_act (Act.call xs q es span) g i acts f s st v turns d ts = absurd (let e = g.1.1 in cc)

    counted_here : (s : List Val) (v : Value) (turns : ℕ → ℕ) → counted (at tests s v turns) h.number h.number ≡ 1 + turns h.number
    counted_here s v turns = rw (alike p, alike h.number) refl

    ended : (m : ℕ) (s : List Val) (v : Value) (turns : ℕ → ℕ) (t : Tree) → Total m (at [] s v turns) t ≡ count (turns h.number)
    ended zero s v turns t = ap (weighted_sum (turns_in h.number)) (runs-zero ps (at [] s v turns) t) ∙ worth-one (turns_in h.number) (at [] s v turns)
    ended (suc m) s v turns t = ap (weighted_sum (turns_in h.number)) (runs-next ps m (at [] s v turns) t) ∙ worth-one (turns_in h.number) (at [] s v turns)

    from_test : (s : List Val) → State s → (v : Value) (turns : ℕ → ℕ) (ts : Forest) → Few (Spread n (test (at tests s v turns) [] h b) ts) turns (left_over Acts.done (environment s))
    from_test s st v turns ts = go (holds h.guard (environment s) Choices.stop) (λ c. ranking s c st)
      where
        go : (u : Bool) → ((c : Choices) → (if u then finite r.0 +ᵛ forward (upward b) (value r.1) (environment s) c else zeroᵛ) ≤ᵛ value r.1 (environment s) Choices.stop) → Few (Spread n (if u then sure (turned (at tests s v turns) (push b tests) h.number) else sure (moved (at tests s v turns) [] s)) ts) turns (left_over Acts.done (environment s))
        go true k =
            let m = from_sure b body s st v (counted (at tests s v turns) h.number) ts in
            let x = Spread n (sure (turned (at tests s v turns) (push b tests) h.number)) ts in
            let w = forward (upward b) (value r.1) (environment s) m.choices in
            record { choices = Choices.stop; most = at_most_more r.0 x (so_far turns) (finite r.0 +ᵛ w) (value r.1 (environment s) Choices.stop) (k m.choices) (one_turn r.0 x (count (turns h.number)) w (subst (λ y. finite r.0 *ᵛ x ≤ᵛ (finite r.0 *ᵛ y) +ᵛ w) (ap count (counted_here s v turns) ∙ count-suc (turns h.number)) m.most)) }
        go false k = record { choices = Choices.stop; most = subst (λ y. finite r.0 *ᵛ y ≤ᵛ so_far turns +ᵛ value r.1 (environment s) Choices.stop) (sym (worth-sure (turns_in h.number) (runs ps n) (at [] s v turns) ts ∙ ended n s v turns (first ts))) (≤ᵛ-+ᵛ (so_far turns) (value r.1 (environment s) Choices.stop) (k Choices.stop)) }

  claims : (n : ℕ) → Claim n
  claims zero acts f s st v turns t = record { choices = Choices.stop; most = subst (λ y. finite r.0 *ᵛ y ≤ᵛ so_far turns +ᵛ left_over acts (environment s) Choices.stop) (sym (ap (weighted_sum (turns_in h.number)) (runs-zero ps (at (push acts tests) s v turns) t) ∙ worth-one (turns_in h.number) (at (push acts tests) s v turns))) (≤ᵛ-+ᵛ (so_far turns) (left_over acts (environment s) Choices.stop) (nonnegative acts s Choices.stop f st)) }
  claims (suc n) Acts.done f s st v turns t = let k = from_test n (claims n) s st v turns (under t) in record { choices = k.choices; most = subst (λ cs. finite r.0 *ᵛ turns_sum h.number cs ≤ᵛ so_far turns +ᵛ left_over Acts.done (environment s) k.choices) (sym (runs-next ps n (at tests s v turns) t)) k.most }
  claims (suc n) (Acts.next a acts) f s st v turns t = let k = from_act n (claims n) a f.0 (each_first (IsTurnAct ps (procedure_at ps p)) (inside a) (in_order acts) f.1) acts (each_second (IsTurnAct ps (procedure_at ps p)) (inside a) (in_order acts) f.1) s st v turns (decision t) (under t) in record { choices = k.choices; most = subst (λ cs. finite r.0 *ᵛ turns_sum h.number cs ≤ᵛ so_far turns +ᵛ left_over (Acts.next a acts) (environment s) k.choices) (sym (runs-next ps n (at (push (Acts.next a acts) tests) s v turns) t)) k.most }

  pub turns_bounded : has_binder r.1 ≡ false → RankedBy ps p h b r
  turns_bounded plain s st n t = let k = claims n Acts.done tt s st zeroᵛ (λ m. 0) t in subst (λ y. finite r.0 *ᵛ turns_sum h.number (runs ps n (at_test p h b s) t) ≤ᵛ y) (ap₂ (λ x y. x +ᵛ y) (ap (λ x. finite r.0 *ᵛ x) count-zero ∙ *ᵛ-zero (finite r.0)) (unchosen r.1 (environment s) k.choices plain) ∙ zero-+ᵛ (value r.1 (environment s) Choices.stop)) k.most
