-- Bounds with a remainder: the part of the weak sum that runs with at most m iterations do not
-- contribute is at most the weight of the runs with more than m iterations, and this is at most the
-- expected iterations over m.
use Rattle.std.proofs.Common.{◌≡◌, ◌≤◌, ◌<◌, ◌+◌, ◌*◌, ◌==◌, ℕ, refl, sym, ap, subst, ◌∙◌, arith, Bool, true, false, cond, List, [], ◌∷◌, length, leb, ◌⊎◌, inl, inr}
use Rattle.std.specs.Prelude.{pos, if◌then◌else◌}
use borrow.Author.Differences.{ints}
use Rattle.std.proofs.lemmas.Bool.Decides.{leb_tells}
use Prim.Native.Nat.{zero, suc}
use Rattle.heyvl_num.specs.Rational.{Rational, ratio, zeroʳ, oneʳ, ◌*ʳ◌, ◌≤ʳ◌}
use Rattle.heyvl_num.specs.Value.{Value, zeroᵛ, oneᵛ, ◌+ᵛ◌, ◌*ᵛ◌, ◌≤ᵛ◌}
use Rattle.heyvl_num.specs.Value.Value.{finite}
use Rattle.heyvl_num.specs.WeightedSums.{weighted_sum, scaled}
use Rattle.heyvl_num.proofs.exported.Rationals.{ratio-≤, ratio_nonnegative, zero-≤ʳ-one}
use Rattle.heyvl_num.proofs.exported.Signs.{<ʳ-≤ʳ}
use Rattle.heyvl_num.proofs.exported.Values.{≤ᵛ_refl, ≤ᵛ_trans, +ᵛ_mono, +ᵛ-zero, zero-+ᵛ, *ᵛ-zero, *ᵛ-one, scale_mono, scale_scale, order_finite, finite_nonnegative}
use Rattle.heyvl_num.proofs.exported.WeightedSums.{weighted_sum-+, weighted_sum-factor}
use Rattle.heylo_formula.specs.Choices.{Choices}
use Rattle.heylo_formula.specs.Formula.{Form, Term}
use Rattle.heylo_formula.specs.Meaning.{value, holds}
use Rattle.heylo_formula.specs.State.{environment}
use Rattle.heylo_formula.specs.declared.values.Val.{Val}
use Rattle.heyvl_acts.specs.Acts.{Head, Act, Acts, TypedProcedure, procedure_at}
use Rattle.heyvl_acts.specs.Forward.{forward}
use Rattle.heyvl_acts.specs.Length.{length_of, length_of_act}
use Rattle.heyvl_acts.specs.Places.{in_order, inside}
use Rattle.heyvl_acts.specs.Rules.{Each, MeetsRules}
use Rattle.heyvl_acts.specs.Tosses.{toss_parts}
use Rattle.run_machine.specs.Bound.{IsState, Bound, BoundBy, RankedBy, at_test}
use Rattle.run_machine.specs.Configurations.{Item, Frame, Config, Outcomes, running, push, begin}
use Rattle.run_machine.specs.Runs.{runs, spread}
use Rattle.run_machine.specs.Scheduler.{Tree, Forest, decision, under, first, rest}
use Rattle.run_machine.specs.Step.{Decision, sure, moved, turned, counted, one_more, branches, test, step_act, step_back, step_item}
use Rattle.run_machine.specs.Sums.{ended, worth, sum_of, turns_in}
use Rattle.run_machine.proofs.exported.Equations.{runs-zero, runs-next, push_join, one_times, worth-one, worth-sure}
use Rattle.heyvl_acts.specs.Upward.{upward}
use Rattle.lower_rules.specs.CollectedSums.{collected, settled}
use Rattle.lower_goals.specs.OneLoop.{OneLoop, steps, steps_from_test}
use Rattle.lower_rules.specs.Remainder.{HasSmallPost, RemainderBoundsRuns, one_part}
use Rattle.lower_rules.proofs.OneParts.{part_of}
use Rattle.lower_goals.proofs.exported.Calm.{AreCalm, IsCalm, CalmParts, calm_parts}
use Rattle.lower_rules.proofs.CalmSteps.{ruled_parts, some_length}
use Rattle.lower_goals.proofs.exported.LoopParts.{OfParts}
use Rattle.heyvl_acts.proofs.exported.Each.{each_at, each_first, each_second}
use Rattle.run_laws.specs.EachOutcome.{EachOutcome}
use Rattle.run_laws.specs.RuledConfigurations.{IsRuled, ConfigFits, ItemsFit, owner}
use Rattle.run_laws.proofs.exported.RuledSteps.{items_push}
use Rattle.run_laws.proofs.exported.SideBySide.{both_spread}
use Rattle.run_laws.proofs.exported.Outcomes.{all_more, all_sure, all_append, all_scaled, sum_at_most}
use Rattle.lower_rules.proofs.OmegaBounds.{alike, after_turn, after_loop}
use Rattle.lower_rules.proofs.RaisedBounds.{AtMost, Base, claims}
use Rattle.run_laws.proofs.exported.RuledRuns.{spread_all, runs_all, fit_kept}
use Rattle.lower_rules.proofs.CalmShapes.{before, ArePair, step_pair, IsAt, step_at, act_weighs, spread_const}

-- ---- Counts of iterations do not decrease

abbrev NoFewer : ℕ → ℕ → Rational × Config → Type 0
NoFewer num k x = k ≤ x.1.turns num

more_or_same : (num n : ℕ) (turns : ℕ → ℕ) → turns num ≤ one_more n turns num
more_or_same num n turns = go (num == n)
  where
    go : (b : Bool) → turns num ≤ cond b (1 + turns num) (turns num)
    go true = omega arith
    go false = omega arith

same_count : (n : ℕ) → n ≤ n
same_count n = omega arith

module _ (num : ℕ) (ps : List TypedProcedure) (is : List Item) (c : Config) where
  counted_more : (n : ℕ) → c.turns num ≤ counted c n num
  counted_more n = go (running c.procedure c.frames == c.procedure)
    where
      go : (b : Bool) → c.turns num ≤ (cond b (one_more n c.turns) c.turns) num
      go true = more_or_same num n c.turns
      go false = same_count (c.turns num)

  branches_turns : (x : ℕ) (qs : List (Rational × Term)) → Each (NoFewer num (c.turns num)) (branches c is x qs)
  branches_turns x [] = tt
  branches_turns x (q ∷ qs) = (same_count (c.turns num), branches_turns x qs)

  test_turns : (h : Head) (b : Acts) → Each (NoFewer num (c.turns num)) (test c is h b)
  test_turns h b = go (holds h.guard (environment c.state) Choices.stop)
    where
      go : (t : Bool) → Each (NoFewer num (c.turns num)) (cond t (sure (turned c (push b (Item.turn h b ∷ is)) h.number)) (sure (moved c is c.state)))
      go true = (counted_more h.number, tt)
      go false = (same_count (c.turns num), tt)

  back_turns : (fs : List Frame) → Each (NoFewer num (c.turns num)) (step_back ps is c fs)
  back_turns [] = (same_count (c.turns num), tt)
  back_turns (f ∷ fs) = (same_count (c.turns num), tt)

  act_turns : (a : Act) (d : Decision) → Each (NoFewer num (c.turns num)) (step_act ps a is c d)
  act_turns (Act.set x t span) d = (same_count (c.turns num), tt)
  act_turns (Act.draw x qs span) d = branches_turns x qs
  act_turns (Act.toss x f span) d = branches_turns x (toss_parts f (environment c.state))
  act_turns (Act.any x u ty span) d = (same_count (c.turns num), tt)
  act_turns (Act.reward f span) d = (same_count (c.turns num), tt)
  act_turns (Act.ifs arms e span) d = (same_count (c.turns num), tt)
  act_turns (Act.pick u a b span) d = (same_count (c.turns num), tt)
  act_turns (Act.check kind f span) d = (same_count (c.turns num), tt)
  act_turns (Act.validate co span) d = (same_count (c.turns num), tt)
  act_turns (Act.loop h b) d = test_turns h b
  act_turns (Act.call xs n es span) d = (same_count (c.turns num), tt)

  item_turns : (i : Item) (d : Decision) → Each (NoFewer num (c.turns num)) (step_item ps i is c d)
  item_turns (Item.act a) d = act_turns a d
  item_turns (Item.turn h b) d = test_turns h b
  item_turns (Item.out x ty) d = (same_count (c.turns num), tt)
  item_turns Item.back d = back_turns c.frames

both_hold : (P : Config → Type 0) (num k m : ℕ) → m < k → (xs : Outcomes) → EachOutcome P xs → Each (NoFewer num k) xs → EachOutcome (λ c. P c × (m < c.turns num)) xs
both_hold P num k m lt [] a e = tt
both_hold P num k m lt (x ∷ xs) a e = ((a.0.0, (a.0.1, omega (arith, lt, e.0))), both_hold P num k m lt xs a.1 e.1)

module _ (ps : List TypedProcedure) (rules : Each (MeetsRules ps) ps) (p : ℕ) (there : p < length ps) (l : OneLoop (procedure_at ps p)) (m : ℕ) where
  abbrev num : ℕ
  num = l.head.number

  abbrev Fit : Config → Type 0
  Fit c = ConfigFits ps p c

  -- The run has terminated, or has made more iterations.
  abbrev Done : Config → Type 0
  Done c = ConfigFits ps p c × ((c.items ≡ []) ⊎ (m < c.turns l.head.number))

  abbrev Many : Config → Type 0
  Many c = ConfigFits ps p c × (m < c.turns l.head.number)

  abbrev rest_items : List Item
  rest_items = push l.behind []

  abbrev tests : List Item
  tests = Item.turn l.head l.body ∷ push l.behind []

  calm : CalmParts (procedure_at ps p) l
  calm = calm_parts ps (procedure_at ps p) l (each_at (MeetsRules ps) ps p rules there)

  ruled : OfParts (IsRuled ps (procedure_at ps p)) (procedure_at ps p) l
  ruled = ruled_parts ps (procedure_at ps p) l (each_at (MeetsRules ps) ps p rules there)

  -- ---- Runs with more iterations

  many_kept : (c : Config) (i : Item) (is : List Item) → c.items ≡ i ∷ is → Many c → (d : Decision) → EachOutcome Many (step_item ps i is c d)
  many_kept c i is e h d = both_hold (ConfigFits ps p) l.head.number (c.turns l.head.number) m h.1 (step_item ps i is c d) (fit_kept ps rules p c i is e h.0 d) (item_turns l.head.number ps is c i d)

  many_done : (n : ℕ) (c : Config) (t : Tree) → Many c → EachOutcome Done (runs ps n c t)
  many_done n c t h = all_more Many Done (λ e k. (k.0, inr k.1)) (runs ps n c t) (runs_all ps Many many_kept n c t h)

  -- ---- Acts before items after which all runs are done

  abbrev AllBase : List Item → (ℕ → ℕ) → ℕ → Type 0
  AllBase is turns need = (n : ℕ) → need ≤ n → (s : List Val) → IsState (procedure_at ps p) s → (v : Value) (t : Tree) → EachOutcome Done (runs ps n (before ps p Acts.done is s v turns) t)

  acts_done : (is : List Item) (turns : ℕ → ℕ) (need : ℕ) → AllBase is turns need → (k n : ℕ) → k + need ≤ n → (acts : Acts) → AreCalm (procedure_at ps p) acts → length_of acts ≤ k → (s : List Val) → IsState (procedure_at ps p) s → (v : Value) (t : Tree) → EachOutcome Done (runs ps n (before ps p acts is s v turns) t)
  acts_done is turns need base k n few Acts.done f l' s st v t = base n (omega (arith, few)) s st v t
  acts_done is turns need base zero n few (Acts.next a acts) f l' s st v t = absurd (some_length a (length_of acts) l')
  acts_done is turns need base (suc k) zero few (Acts.next a acts) f l' s st v t = absurd (omega (arith, few))
  acts_done is turns need base (suc k) (suc n) few (Acts.next a acts) f l' s st v t = subst (EachOutcome Done) (sym (runs-next ps n (before ps p (Acts.next a acts) is s v turns) t)) (spread_all Done (IsAt ps p k is turns) (runs ps n) (λ c t' h. subst (λ (e : Config). EachOutcome Done (runs ps n e t')) (sym h.same) (acts_done is turns need base k n (omega (arith, few)) h.acts h.calm h.few h.state h.typed h.reward t')) (step_act ps a (push acts is) (before ps p (Acts.next a acts) is s v turns) (decision t)) (under t) (step_at ps p k is turns a f.0 (each_first (IsCalm (procedure_at ps p)) (inside a) (in_order acts) f.1) acts (each_second (IsCalm (procedure_at ps p)) (inside a) (in_order acts) f.1) l' s st v (decision t)))

  end_done : (turns : ℕ → ℕ) → AllBase [] turns 0
  end_done turns zero z s st v t = subst (EachOutcome Done) (sym (runs-zero ps (before ps p Acts.done [] s v turns) t)) (all_sure Done _ (record { here = refl; frames = tt; items = tt; state = st }, inl refl))
  end_done turns (suc n) z s st v t = subst (EachOutcome Done) (sym (runs-next ps n (before ps p Acts.done [] s v turns) t)) (all_sure Done _ (record { here = refl; frames = tt; items = tt; state = st }, inl refl))

  behind_done : (turns : ℕ → ℕ) (n : ℕ) → length_of l.behind + 0 ≤ n → (s : List Val) → IsState (procedure_at ps p) s → (v : Value) (t : Tree) → EachOutcome Done (runs ps n (before ps p l.behind [] s v turns) t)
  behind_done turns n few s st v t = acts_done [] turns 0 (end_done turns) (length_of l.behind) n few l.behind calm.behind (same_count (length_of l.behind)) s st v t

  counted_here : (s : List Val) (v : Value) (turns : ℕ → ℕ) → counted (before ps p Acts.done tests s v turns) l.head.number l.head.number ≡ 1 + turns l.head.number
  counted_here s v turns = rw (alike p, alike l.head.number) refl

  abbrev After : ℕ → List Val → Value → (ℕ → ℕ) → Forest → Bool → Type 0
  After n s v turns ts b = EachOutcome Done (spread (runs ps n) (cond b (sure (turned (before ps p Acts.done tests s v turns) (push l.body tests) l.head.number)) (sure (moved (before ps p Acts.done tests s v turns) (push l.behind []) s))) ts)

  one_done : (n : ℕ) (c : Config) (ts : Forest) → EachOutcome Done (runs ps n c (first ts)) → EachOutcome Done (spread (runs ps n) (sure c) ts)
  one_done n c ts h = all_append Done (scaled oneʳ (runs ps n c (first ts))) (spread (runs ps n) [] (rest ts)) (all_scaled Done oneʳ (runs ps n c (first ts)) zero-≤ʳ-one h) tt

  test_done : (j : ℕ) (turns : ℕ → ℕ) → turns l.head.number + j ≡ m → AllBase tests turns (steps_from_test l.body l.behind j)
  test_done j turns e zero few s st v t = absurd (omega (arith, few))
  test_done zero turns e (suc n) few s st v t = subst (EachOutcome Done) (sym (runs-next ps n (before ps p Acts.done tests s v turns) t)) (go (holds l.head.guard (environment s) Choices.stop))
    where
      go : (b : Bool) → After n s v turns (under t) b
      go true = one_done n _ (under t) (many_done n _ (first (under t)) (record { here = refl; frames = tt; items = items_push ps rules p [] l.body tests ruled.body (ruled.body, items_push ps rules p [] l.behind [] ruled.behind tt); state = st }, (let i = counted_here s v turns in omega (arith, i, e))))
      go false = one_done n _ (under t) (behind_done turns n (after_loop (0 * (1 + length_of l.body)) (length_of l.behind) n few) s st v (first (under t)))
  test_done (suc j) turns e (suc n) few s st v t = subst (EachOutcome Done) (sym (runs-next ps n (before ps p Acts.done tests s v turns) t)) (go (holds l.head.guard (environment s) Choices.stop) (test_done j))
    where
      go : (b : Bool) → ((turns' : ℕ → ℕ) → turns' l.head.number + j ≡ m → AllBase tests turns' (steps_from_test l.body l.behind j)) → After n s v turns (under t) b
      go true base = one_done n _ (under t) (acts_done tests (counted (before ps p Acts.done tests s v turns) l.head.number) (steps_from_test l.body l.behind j) (base (counted (before ps p Acts.done tests s v turns) l.head.number) (let i = counted_here s v turns in omega (arith, i, e))) (length_of l.body) n (after_turn j (length_of l.body) (length_of l.behind) n few) l.body calm.body (same_count (length_of l.body)) s st v (first (under t)))
      go false base = one_done n _ (under t) (behind_done turns n (after_loop (suc j * (1 + length_of l.body)) (length_of l.behind) n few) s st v (first (under t)))

  -- ---- The loop as an act

  abbrev as_act : List Item
  as_act = Item.act (Act.loop l.head l.body) ∷ push l.behind []

  loop_is_test : (n : ℕ) (s : List Val) (v : Value) (turns : ℕ → ℕ) (t : Tree) → runs ps (suc n) (before ps p Acts.done as_act s v turns) t ≡ runs ps (suc n) (before ps p Acts.done tests s v turns) t
  loop_is_test n s v turns t = runs-next ps n (before ps p Acts.done as_act s v turns) t ∙ sym (runs-next ps n (before ps p Acts.done tests s v turns) t)

  loop_done : (turns : ℕ → ℕ) → turns l.head.number + m ≡ m → AllBase as_act turns (steps_from_test l.body l.behind m)
  loop_done turns e zero few s st v t = absurd (omega (arith, few))
  loop_done turns e (suc n) few s st v t = subst (EachOutcome Done) (sym (loop_is_test n s v turns t)) (test_done m turns e (suc n) few s st v t)

  all_done : (n : ℕ) → length_of l.front + steps_from_test l.body l.behind m ≤ n → (s : List Val) → IsState (procedure_at ps p) s → (t : Tree) → EachOutcome Done (runs ps n (before ps p l.front as_act s zeroᵛ (λ k. 0)) t)
  all_done n few s st t = acts_done as_act (λ k. 0) (steps_from_test l.body l.behind m) (loop_done (λ k. 0) (omega arith)) (length_of l.front) n few l.front calm.front (same_count (length_of l.front)) s st zeroᵛ t

  -- ---- Each run

  abbrev over : Config → Value
  over c = if leb (c.turns l.head.number) m then zeroᵛ else oneᵛ

  module _ (small : (s : List Val) → IsState (procedure_at ps p) s → value (procedure_at ps p).post (environment s) Choices.stop ≤ᵛ oneᵛ) where
    small_ended : (fs : List Frame) (is : List Item) (s : List Val) → ItemsFit ps p fs is → IsState (owner ps p fs) s → ended false (procedure_at ps p).post is s ≤ᵛ oneᵛ
    small_ended [] [] s g st = small s st
    small_ended (f ∷ fs) [] s g st = absurd g
    small_ended fs (i ∷ is) s g st = ≤ᵛ_refl oneᵛ

    ended_either : (is : List Item) (s : List Val) → is ≡ [] → ended false (procedure_at ps p).post is s ≤ᵛ ended true (procedure_at ps p).post is s +ᵛ zeroᵛ
    ended_either [] s e = subst (λ x. value (procedure_at ps p).post (environment s) Choices.stop ≤ᵛ x) (sym (+ᵛ-zero _)) (≤ᵛ_refl _)
    ended_either (i ∷ is) s e = absurd (cc)

    each_run : (c : Config) → Done c → worth false (procedure_at ps p).post c ≤ᵛ settled m l.head.number (procedure_at ps p).post c +ᵛ over c
    each_run c h = go (leb_tells (c.turns l.head.number) m) h.1
      where
        go : ((leb (c.turns l.head.number) m ≡ true) × (c.turns l.head.number ≤ m)) ⊎ ((leb (c.turns l.head.number) m ≡ false) × (m < c.turns l.head.number)) → (c.items ≡ []) ⊎ (m < c.turns l.head.number) → worth false (procedure_at ps p).post c ≤ᵛ settled m l.head.number (procedure_at ps p).post c +ᵛ over c
        go (inl e) (inl i) = rw e.0 (ended_either c.items c.state i)
        go (inl e) (inr i) = absurd (let k = e.1 in omega (arith, k, i))
        go (inr e) d = rw (e.0, zero-+ᵛ oneᵛ) (small_ended c.frames c.items c.state h.0.items h.0.state)

  each_count : (c : Config) → finite (ratio (pos m) 1) *ᵛ over c ≤ᵛ turns_in l.head.number c
  each_count c = go (leb_tells (c.turns l.head.number) m)
    where
      go : ((leb (c.turns l.head.number) m ≡ true) × (c.turns l.head.number ≤ m)) ⊎ ((leb (c.turns l.head.number) m ≡ false) × (m < c.turns l.head.number)) → finite (ratio (pos m) 1) *ᵛ over c ≤ᵛ turns_in l.head.number c
      go (inl e) = rw (e.0, *ᵛ-zero (finite (ratio (pos m) 1))) (finite_nonnegative _ (ratio_nonnegative (pos (c.turns l.head.number)) 1 (omega arith) (omega (arith, ints))))
      go (inr e) = rw (e.0, *ᵛ-one (finite (ratio (pos m) 1))) (order_finite _ _ (ratio-≤ (pos m) 1 (pos (c.turns l.head.number)) 1 (omega arith) (omega arith) (let k = e.1 in omega (arith, k, ints))))

  -- ---- Iterations

  abbrev Turns : Outcomes → Value
  Turns cs = weighted_sum (turns_in l.head.number) cs

  still : (n : ℕ) (acts : Acts) → AreCalm (procedure_at ps p) acts → (s : List Val) → IsState (procedure_at ps p) s → (v : Value) (turns : ℕ → ℕ) (t : Tree) → Turns (runs ps n (before ps p acts [] s v turns) t) ≡ finite (ratio (pos (turns l.head.number)) 1)
  still zero acts f s st v turns t = ap (weighted_sum (turns_in l.head.number)) (runs-zero ps (before ps p acts [] s v turns) t) ∙ worth-one (turns_in l.head.number) (before ps p acts [] s v turns)
  still (suc n) Acts.done f s st v turns t = ap (weighted_sum (turns_in l.head.number)) (runs-next ps n (before ps p Acts.done [] s v turns) t) ∙ worth-one (turns_in l.head.number) (before ps p Acts.done [] s v turns)
  still (suc n) (Acts.next a acts) f s st v turns t =
      let xs = step_act ps a (push acts []) (before ps p (Acts.next a acts) [] s v turns) (decision t) in
      ap (weighted_sum (turns_in l.head.number)) (runs-next ps n (before ps p (Acts.next a acts) [] s v turns) t)
      ∙ (spread_const (turns_in l.head.number) (finite (ratio (pos (turns l.head.number)) 1)) (IsAt ps p (length_of_act a + length_of acts) [] turns) (runs ps n) (λ c k h. ap (λ (e : Config). Turns (runs ps n e k)) h.same ∙ still n h.acts h.calm h.state h.typed h.reward turns k) xs (under t) (step_at ps p (length_of_act a + length_of acts) [] turns a f.0 (each_first (IsCalm (procedure_at ps p)) (inside a) (in_order acts) f.1) acts (each_second (IsCalm (procedure_at ps p)) (inside a) (in_order acts) f.1) (omega arith) s st v (decision t))
      ∙ (ap (λ w. finite w *ᵛ finite (ratio (pos (turns l.head.number)) 1)) (act_weighs ps p a f.0 (push acts []) (before ps p (Acts.next a acts) [] s v turns) (decision t)) ∙ one_times _))

  -- The acts after the loop make no iterations.
  abbrev alone : List Item
  alone = Item.turn l.head l.body ∷ []

  same_turns : (n : ℕ) (acts : Acts) → AreCalm (procedure_at ps p) acts → (s : List Val) → IsState (procedure_at ps p) s → (v : Value) (turns : ℕ → ℕ) (t : Tree) → Turns (runs ps n (before ps p acts tests s v turns) t) ≡ Turns (runs ps n (before ps p acts alone s v turns) t)
  same_turns zero acts f s st v turns t = ap (weighted_sum (turns_in l.head.number)) (runs-zero ps (before ps p acts tests s v turns) t) ∙ (worth-one (turns_in l.head.number) (before ps p acts tests s v turns) ∙ sym (ap (weighted_sum (turns_in l.head.number)) (runs-zero ps (before ps p acts alone s v turns) t) ∙ worth-one (turns_in l.head.number) (before ps p acts alone s v turns)))
  same_turns (suc n) Acts.done f s st v turns t = ap (weighted_sum (turns_in l.head.number)) (runs-next ps n (before ps p Acts.done tests s v turns) t) ∙ (go (holds l.head.guard (environment s) Choices.stop) (λ turns'. same_turns n l.body calm.body s st v turns' (first (under t))) ∙ sym (ap (weighted_sum (turns_in l.head.number)) (runs-next ps n (before ps p Acts.done alone s v turns) t)))
    where
      turns' : ℕ → ℕ
      turns' = counted (before ps p Acts.done tests s v turns) l.head.number

      go : (b : Bool) → ((turns' : ℕ → ℕ) → Turns (runs ps n (before ps p l.body tests s v turns') (first (under t))) ≡ Turns (runs ps n (before ps p l.body alone s v turns') (first (under t)))) → Turns (spread (runs ps n) (cond b (sure (turned (before ps p Acts.done tests s v turns) (push l.body tests) l.head.number)) (sure (moved (before ps p Acts.done tests s v turns) (push l.behind []) s))) (under t)) ≡ Turns (spread (runs ps n) (cond b (sure (turned (before ps p Acts.done alone s v turns) (push l.body alone) l.head.number)) (sure (moved (before ps p Acts.done alone s v turns) [] s))) (under t))
      go true ih = worth-sure (turns_in l.head.number) (runs ps n) (before ps p l.body tests s v turns') (under t) ∙ (ih turns' ∙ sym (worth-sure (turns_in l.head.number) (runs ps n) (before ps p l.body alone s v turns') (under t)))
      go false ih = worth-sure (turns_in l.head.number) (runs ps n) (before ps p l.behind [] s v turns) (under t) ∙ (still n l.behind calm.behind s st v turns (first (under t)) ∙ sym (worth-sure (turns_in l.head.number) (runs ps n) (before ps p Acts.done [] s v turns) (under t) ∙ still n Acts.done tt s st v turns (first (under t))))
  same_turns (suc n) (Acts.next a acts) f s st v turns t =
      ap (weighted_sum (turns_in l.head.number)) (runs-next ps n (before ps p (Acts.next a acts) tests s v turns) t)
      ∙ (both_spread ps ps (turns_in l.head.number) (turns_in l.head.number) (ArePair ps p (length_of_act a + length_of acts) tests alone turns) n (λ c e k h. ap (λ (x : Config). Turns (runs ps n x k)) h.first ∙ (same_turns n h.acts h.calm h.state h.typed h.reward turns k ∙ sym (ap (λ (x : Config). Turns (runs ps n x k)) h.second))) (step_act ps a (push acts tests) (before ps p (Acts.next a acts) tests s v turns) (decision t)) (step_act ps a (push acts alone) (before ps p (Acts.next a acts) alone s v turns) (decision t)) (under t) (step_pair ps p (length_of_act a + length_of acts) tests alone turns a f.0 (each_first (IsCalm (procedure_at ps p)) (inside a) (in_order acts) f.1) acts (each_second (IsCalm (procedure_at ps p)) (inside a) (in_order acts) f.1) (omega arith) s st v (decision t))
      ∙ sym (ap (weighted_sum (turns_in l.head.number)) (runs-next ps n (before ps p (Acts.next a acts) alone s v turns) t)))

  loop_turns : (n : ℕ) (s : List Val) → IsState (procedure_at ps p) s → (t : Tree) → Turns (runs ps n (before ps p Acts.done as_act s zeroᵛ (λ k. 0)) t) ≡ Turns (runs ps n (at_test p l.head l.body s) t)
  loop_turns zero s st t = ap (weighted_sum (turns_in l.head.number)) (runs-zero ps (before ps p Acts.done as_act s zeroᵛ (λ k. 0)) t) ∙ (worth-one (turns_in l.head.number) (before ps p Acts.done as_act s zeroᵛ (λ k. 0)) ∙ sym (ap (weighted_sum (turns_in l.head.number)) (runs-zero ps (at_test p l.head l.body s) t) ∙ worth-one (turns_in l.head.number) (at_test p l.head l.body s)))
  loop_turns (suc n) s st t = ap (weighted_sum (turns_in l.head.number)) (loop_is_test n s zeroᵛ (λ k. 0) t) ∙ same_turns (suc n) Acts.done tt s st zeroᵛ (λ k. 0) t

  module _ (r : Rational × Form) (ranked : RankedBy ps p l.head l.body r) where
    abbrev stepped : Config → Value
    stepped c = finite r.0 *ᵛ turns_in l.head.number c

    loop_base : Base ps p stepped as_act (λ k. 0) (value r.1) 0
    loop_base n z s st t = record { choices = Choices.stop; most = subst (λ x. x ≤ᵛ value r.1 (environment s) Choices.stop) (sym (weighted_sum-factor (turns_in l.head.number) r.0 (runs ps n (before ps p Acts.done as_act s zeroᵛ (λ k. 0)) t) ∙ ap (λ x. finite r.0 *ᵛ x) (loop_turns n s st t))) (ranked s st n t) }

    front_turns : (n : ℕ) → length_of l.front + 0 ≤ n → (s : List Val) → IsState (procedure_at ps p) s → (t : Tree) → AtMost (weighted_sum stepped (runs ps n (before ps p l.front as_act s zeroᵛ (λ k. 0)) t)) (forward (upward l.front) (value r.1) (environment s))
    front_turns n few s st t = claims ps p stepped as_act (λ k. 0) (value r.1) 0 loop_base n l.front calm.front few s st t

-- ---- The bound

-- The bound with any fraction whose product with the step and `m` is 1, if the step is not
-- negative.
abbrev BoundedByPart : Type 0
BoundedByPart = (ps : List TypedProcedure) (p : ℕ) → Each (MeetsRules ps) ps → p < length ps → (l : OneLoop (procedure_at ps p)) (r : Rational × Form) → zeroʳ ≤ʳ r.0 → Bound ps p → HasSmallPost (procedure_at ps p) → RankedBy ps p l.head l.body r → (s : List Val) → IsState (procedure_at ps p) s → (u : Value) → ((c : Choices) → forward (upward l.front) (value r.1) (environment s) c ≤ᵛ u)
    → (m n : ℕ) → steps l.front l.body l.behind m ≤ n → (d : Rational) → zeroʳ ≤ʳ d → d *ʳ (r.0 *ʳ ratio (pos m) 1) ≡ oneʳ → (t : Tree) → value (procedure_at ps p).pre (environment s) Choices.stop ≤ᵛ collected m l.head.number (procedure_at ps p).post (runs ps n (begin ps p s) t) +ᵛ (finite d *ᵛ u)

bounded_by_part : BoundedByPart
bounded_by_part ps p rules there l r from_zero bound small ranked s st u above m n few d nonnegative part t = subst (λ c. value (procedure_at ps p).pre (environment s) Choices.stop ≤ᵛ weighted_sum (settled m l.head.number (procedure_at ps p).post) (runs ps n c t) +ᵛ (finite d *ᵛ u)) (sym begins_there) (≤ᵛ_trans _ _ _ weak_bound (≤ᵛ_trans _ _ _ parted (+ᵛ_mono _ _ _ _ (≤ᵛ_refl _) few_over)))
  where
    start : Config
    start = before ps p l.front (as_act ps rules p there l m) s zeroᵛ (λ k. 0)

    all : Outcomes
    all = runs ps n (before ps p l.front (as_act ps rules p there l m) s zeroᵛ (λ k. 0)) t

    begins_there : begin ps p s ≡ before ps p l.front (as_act ps rules p there l m) s zeroᵛ (λ k. 0)
    begins_there = ap (λ (is : List Item). record { procedure = p; items = is; frames = []; state = s; reward = zeroᵛ; turns = λ k. 0 }) (ap (λ acts. push acts []) l.is.whole ∙ push_join l.front (Acts.next (Act.loop l.head l.body) l.behind) [])

    weak_bound : value (procedure_at ps p).pre (environment s) Choices.stop ≤ᵛ sum_of false (procedure_at ps p).post (runs ps n (before ps p l.front (as_act ps rules p there l m) s zeroᵛ (λ k. 0)) t)
    weak_bound = subst (λ c. value (procedure_at ps p).pre (environment s) Choices.stop ≤ᵛ sum_of false (procedure_at ps p).post (runs ps n c t)) begins_there (subst (λ b. BoundBy b ps p) ((each_at (MeetsRules ps) ps p rules there).weak_is_proc l.is.weak) bound s st n t)

    done : EachOutcome (Done ps rules p there l m) (runs ps n (before ps p l.front (as_act ps rules p there l m) s zeroᵛ (λ k. 0)) t)
    done = all_done ps rules p there l m n few s st t

    parted : sum_of false (procedure_at ps p).post (runs ps n (before ps p l.front (as_act ps rules p there l m) s zeroᵛ (λ k. 0)) t) ≤ᵛ weighted_sum (settled m l.head.number (procedure_at ps p).post) (runs ps n (before ps p l.front (as_act ps rules p there l m) s zeroᵛ (λ k. 0)) t) +ᵛ weighted_sum (over ps rules p there l m) (runs ps n (before ps p l.front (as_act ps rules p there l m) s zeroᵛ (λ k. 0)) t)
    parted = subst (λ x. sum_of false (procedure_at ps p).post all ≤ᵛ x) (weighted_sum-+ (settled m l.head.number (procedure_at ps p).post) (over ps rules p there l m) all) (sum_at_most (worth false (procedure_at ps p).post) (λ c. settled m l.head.number (procedure_at ps p).post c +ᵛ over ps rules p there l m c) all (all_more (Done ps rules p there l m) (λ c. worth false (procedure_at ps p).post c ≤ᵛ settled m l.head.number (procedure_at ps p).post c +ᵛ over ps rules p there l m c) (each_run ps rules p there l m small) all done))

    over_sum : Value
    over_sum = weighted_sum (over ps rules p there l m) (runs ps n (before ps p l.front (as_act ps rules p there l m) s zeroᵛ (λ k. 0)) t)

    counted_over : finite (ratio (pos m) 1) *ᵛ weighted_sum (over ps rules p there l m) all ≤ᵛ weighted_sum (turns_in l.head.number) all
    counted_over = subst (λ x. x ≤ᵛ weighted_sum (turns_in l.head.number) all) (weighted_sum-factor (over ps rules p there l m) (ratio (pos m) 1) all) (sum_at_most (λ c. finite (ratio (pos m) 1) *ᵛ over ps rules p there l m c) (turns_in l.head.number) all (all_more (Done ps rules p there l m) (λ c. finite (ratio (pos m) 1) *ᵛ over ps rules p there l m c ≤ᵛ turns_in l.head.number c) (λ c k. each_count ps rules p there l m c) all done))

    stepped_most : AtMost (weighted_sum (λ c. finite r.0 *ᵛ turns_in l.head.number c) all) (forward (upward l.front) (value r.1) (environment s))
    stepped_most = front_turns ps rules p there l m r ranked n (omega (arith, few)) s st t

    stepped_turns : finite r.0 *ᵛ weighted_sum (turns_in l.head.number) all ≤ᵛ u
    stepped_turns = subst (λ x. x ≤ᵛ u) (weighted_sum-factor (turns_in l.head.number) r.0 all) (≤ᵛ_trans _ _ _ stepped_most.most (above stepped_most.choices))

    undone : finite d *ᵛ (finite r.0 *ᵛ (finite (ratio (pos m) 1) *ᵛ weighted_sum (over ps rules p there l m) all)) ≡ weighted_sum (over ps rules p there l m) all
    undone = ap (λ x. finite d *ᵛ x) (scale_scale r.0 (ratio (pos m) 1) (weighted_sum (over ps rules p there l m) all)) ∙ (scale_scale d (r.0 *ʳ ratio (pos m) 1) (weighted_sum (over ps rules p there l m) all) ∙ (ap (λ w. finite w *ᵛ weighted_sum (over ps rules p there l m) all) part ∙ one_times _))

    few_over : weighted_sum (over ps rules p there l m) all ≤ᵛ finite d *ᵛ u
    few_over = subst (λ x. x ≤ᵛ finite d *ᵛ u) undone (scale_mono d _ _ nonnegative (≤ᵛ_trans _ _ _ (scale_mono r.0 _ _ from_zero counted_over) stepped_turns))

pub remainder_bounds : RemainderBoundsRuns
remainder_bounds ps p rules there l r above_zero bound small ranked s st u above m n some few t =
    let part = part_of r.0 m above_zero some in
    bounded_by_part ps p rules there l r (<ʳ-≤ʳ zeroʳ r.0 above_zero) bound small ranked s st u above m n few (one_part r.0 m) part.nonnegative part.undoes t
