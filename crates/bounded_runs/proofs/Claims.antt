-- The bounds of runs, for coprocs and for procs with `@wlp`. The runs of a configuration are
-- covered by the meaning of its items, or else some call that has not returned is shown to break
-- its contract.
use Rattle.std.proofs.Common.{◌≡◌, ◌≢◌, ◌≤◌, ◌<◌, ℕ, leb, refl, sym, ap, ap₂, ◌∙◌, subst, arith, Bool, true, false, cond, List, [], ◌∷◌, ◌++◌, ◌⊎◌, inl, inr, ◌==◌}
use Rattle.std.specs.Prelude.{length, set, eqb}
use Rattle.std.proofs.lemmas.Bool.Decides.{eqb_tells, leb_tells}
use Rattle.std.proofs.Math.ListN.{get_or-append}
use mathlib.Core.Path.{fun_ext}
use Prim.Native.Nat.{zero, suc}
use Rattle.heyvl_num.specs.Rational.{Rational, zeroʳ, oneʳ, ◌+ʳ◌, ◌≤ʳ◌}
use Rattle.heyvl_num.specs.Value.{Value, zeroᵛ, is_zeroʳ, ◌+ᵛ◌, ◌*ᵛ◌, ◌≤ᵛ◌}
use Rattle.heyvl_num.specs.Value.Value.{finite}
use Rattle.heyvl_num.specs.WeightedSums.{total_weight}
use Rattle.heyvl_num.proofs.exported.Rationals.{zero-≤ʳ-one, +ʳ-zero, +ʳ_assoc, +ʳ_nonnegative}
use Rattle.heyvl_num.proofs.exported.Values.{is_zero-zero, is_zero-one, ≤ᵛ_refl, +ᵛ_mono, +ᵛ-zero, +ᵛ_assoc}
use Rattle.heyvl_places.specs.declared.spans.Span.{Span}
use Rattle.heylo_formula.specs.State.{Env, put, fit, has, environment, IsTyped}
use Rattle.heylo_formula.specs.Choices.{Choices, here, left, right}
use Rattle.heylo_formula.specs.Formula.{Form, Term}
use Rattle.heylo_formula.specs.Meaning.{value, holds, term_value}
use Rattle.heylo_formula.specs.Goals.{Compares}
use Rattle.heylo_formula.specs.Typing.{Types, types_in, HasTypes}
use Rattle.heylo_formula.specs.declared.types.Ty.{Ty}
use Rattle.heylo_formula.specs.declared.values.Val.{Val}
use Rattle.heylo_formula.specs.declared.values.Val.TheVariants.{Truth}
use Rattle.heylo_formula.proofs.exported.Agreement.{same_on, clash}
use Rattle.heylo_formula.proofs.exported.States.{env_typed, put_keeps, fit_has}
use Rattle.heyvl_acts.specs.Tosses.{toss_weight, toss_parts}
use Rattle.heyvl_acts.proofs.exported.Tosses.{toss_fit, flips_weigh, before_products}
use Rattle.heyvl_acts.specs.Acts.{Head, Act, Acts, Arms, Variable, TypedProcedure, variables, type_list, types_of, acts_in, procedure_at}
use Rattle.heyvl_acts.specs.Forward.{Post, checked, picked, part, parts, drawn}
use Rattle.heyvl_acts.specs.Matching.{taken}
use Rattle.heyvl_acts.specs.ModifiedVariables.{modified}
use Rattle.heyvl_acts.specs.Rules.{IsOwn}
use Rattle.heyvl_acts.specs.Visible.{Visible, among, shown, interface, Sees, SeesCond, shown_by, ScopedAct}
use Rattle.heyvl_acts.specs.WellTypedActs.{PartsFit}
use Rattle.k_induction.specs.Copies.{must}
use Rattle.run_machine.specs.Bound.{BoundBy, IsState}
use Rattle.run_machine.specs.Configurations.{Item, Frame, Config, Outcomes, push, evaluate, set_all, outs, callee_items, first_state, outputs_of, begin}
use Rattle.run_machine.specs.Runs.{spread, onward, runs}
use Rattle.run_machine.specs.Scheduler.{Tree, Forest, decision, under, first, rest}
use Rattle.run_machine.specs.Step.{Decision, value_of, side_of, sure, moved, rewarded, turned, waiting, called, returned, branch, branches, test, step_act, step_back, step_item}
use Rattle.run_machine.specs.Sums.{begun, ended, worth, sum_of}
use Rattle.run_machine.proofs.exported.Equations.{runs-zero, runs-next, sum-none, sum-one, sum-spread, sum-sure}
use Rattle.bounded_runs.specs.internal.Contracts.{worst, given, put_all, call_blame, meaning, meaning_act}
use Rattle.bounded_runs.specs.internal.Programs.{ProgramAct, IsBoundedProgram, HasFormulas}
use Rattle.bounded_runs.proofs.RunValues.{Safe, safe_refl, safe_trans, decide, pick_side, must_left, must_right, compares_safe, safe_compares, Covered, covered_more, covered_worst, covered_reward, covered_start, CoveredPart, part_first, part_add, part_all}
use Rattle.bounded_runs.proofs.ScopedMeaning.{Sub, Respects, weaken, sub_shown, sub_act, put_on, value_on, way_on, blame_on, act_on, acts_on}
use Rattle.run_machine.proofs.exported.OwnOutputs.{OutsOwn, outputs_own}
use Rattle.run_machine.proofs.exported.TypedStates.{outputs_typed}
use Rattle.bounded_runs.proofs.ProgramStates.{as_long, own_put, inputs_set, inputs_of, inputs_start, Assigned, own_set_all, start_typed, give, picks-give, past-give}
use Rattle.bounded_runs.proofs.Monotone.{both, behind, args_typed, begun_value, Begun, begun_act}
use Rattle.bounded_runs.proofs.LoopTurns.{Cover, Some, turn_value, begun_turn, turn_on, turn_off}
use Rattle.bounded_runs.proofs.Kept.{owner, Waits, ItemsFit, FramesFit, IsConfig, AllNext, everything, items_more, items_push, step_kept, spread_from_zero, runs_from_zero, post_value, post_held}

-- ---- The meaning of items

-- The loops under way have labels, the innermost one first: the number of copies of the body that
-- each still counts on. Each caller has its own list of labels.
abbrev label : List ℕ → ℕ
label [] = 0
label (j ∷ js) = j

abbrev labels : List ℕ → List ℕ
labels [] = []
labels (j ∷ js) = js

abbrev top_labels : List (List ℕ) → List ℕ
top_labels [] = []
top_labels (js ∷ jss) = js

abbrev more_labels : List (List ℕ) → List (List ℕ)
more_labels [] = []
more_labels (js ∷ jss) = jss

-- The value of the items of one procedure, with these labels of its loops under way.
abbrev items_value : Bool → Types → List TypedProcedure → Post → List Item → List ℕ → Post
items_value up types ps k [] js = k
items_value up types ps k (Item.act a ∷ is) js = meaning_act up types ps a (items_value up types ps k is js)
items_value up types ps k (Item.turn h b ∷ is) js = turn_value up types (meaning up types ps b) h b (items_value up types ps k is (labels js)) (label js)
items_value up types ps k (Item.out x ty ∷ is) js = λ s c. items_value up types ps k is js (put x (fit ty (here c)) s) (left c)
items_value up types ps k (Item.back ∷ is) js = k

push_value : (up : Bool) (types : Types) (ps : List TypedProcedure) (k : Post) (b : Acts) (is : List Item) (js : List ℕ) → items_value up types ps k (push b is) js ≡ meaning up types ps b (items_value up types ps k is js)
push_value up types ps k Acts.done is js = refl
push_value up types ps k (Acts.next a rest) is js = ap (meaning_act up types ps a) (push_value up types ps k rest is js)

taken_block : (up : Bool) (types : Types) (ps : List TypedProcedure) (P : Value → Type 0) (arms : Arms) (e : Acts) (span : Span) (k : Post) (s : List Val) → Some P (meaning up types ps (taken arms e (environment s)) k (environment s)) → Some P (meaning_act up types ps (Act.ifs arms e span) k (environment s))
taken_block up types ps P Arms.no_arm e span k s f = record { choices = f.choices; covers = f.covers }
taken_block up types ps P (Arms.arm g b more) e span k s f = go (holds g (environment s) Choices.stop) (taken_block up types ps P more e span k s) f
  where
    go : (t : Bool) → (Some P (meaning up types ps (taken more e (environment s)) k (environment s)) → Some P (meaning_act up types ps (Act.ifs more e span) k (environment s))) → Some P (meaning up types ps (cond t b (taken more e (environment s))) k (environment s)) → Some P (λ c. cond t (meaning up types ps b k (environment s) (right c)) (meaning_act up types ps (Act.ifs more e span) k (environment s) (right c)))
    go true ih f = record { choices = behind f.choices; covers = f.covers }
    go false ih f = let g = ih f in record { choices = behind g.choices; covers = g.covers }

side_of_pick : (d up : Bool) → d ≡ up → (a b : Value) → Safe up a (picked d a b) × Safe up b (picked d a b)
side_of_pick true true e a b = pick_side true a b
side_of_pick true false e a b = absurd (cc)
side_of_pick false true e a b = absurd (cc)
side_of_pick false false e a b = pick_side false a b

covered_alone : (up : Bool) (post : Form) (c : Config) (v : Value) → Safe up (ended up post c.items c.state) v → Covered up (worth up post c) c.reward v
covered_alone true post c v h = +ᵛ_mono _ _ _ _ (≤ᵛ_refl c.reward) h
covered_alone false post c v h = h

types_front : (is os ls : List Variable) (y : ℕ) → y < length (is ++ os) → types_in (type_list (is ++ (os ++ ls))) y ≡ types_in (type_list (is ++ os)) y
types_front [] [] ls y h = absurd (omega arith)
types_front [] (o ∷ os) ls zero h = refl
types_front [] (o ∷ os) ls (suc y) h = types_front [] os ls y (omega arith)
types_front (i ∷ is) os ls zero h = refl
types_front (i ∷ is) os ls (suc y) h = types_front is os ls y (omega arith)

none_one : zeroʳ ≡ oneʳ → ⊥
none_one e = clash (is_zeroʳ zeroʳ) is_zero-zero (ap is_zeroʳ e ∙ is_zero-one)

is_below : (y n : ℕ) → y < n → leb (suc y) n ≡ true
is_below y n h = go (leb_tells (suc y) n)
  where
    go : ((leb (suc y) n ≡ true) × (suc y ≤ n)) ⊎ ((leb (suc y) n ≡ false) × (n < suc y)) → leb (suc y) n ≡ true
    go (inl e) = e.0
    go (inr e) = absurd (omega (arith, e.1))

turn_on_scope : (up : Bool) (types : Types) (v : Visible) (h : Head) (b : Acts) → Sees v h.inv → SeesCond v h.guard → (body : Post → Post) → ((k : Post) → Respects v k → Respects v (body k)) → (k : Post) → Respects v k → (j : ℕ) → Respects v (turn_value up types body h b k j)
turn_on_scope up types v h b si sg body car k r j s t c a = ap₂ (checked (must up)) (way_on up v h si sg body car k r j s t (left c) a) (blame_on up v h si sg body car k r types (modified h.scope b) s t (right c) a)

module _ (up : Bool) (ps : List TypedProcedure) (R : ℕ → Type 0) (hold : (n : ℕ) → R n → IsBoundedProgram up ps R (procedure_at ps n)) (main : TypedProcedure) (mains : IsBoundedProgram up ps R main) where
  -- The procedure that runs, and the types of its variables.
  abbrev own : List Frame → TypedProcedure
  own fs = owner up ps R hold main fs

  abbrev types : List Frame → Types
  types fs = types_of (own fs)

  abbrev Frames : List Frame → Type 0
  Frames fs = FramesFit up ps R hold main fs

  abbrev Fit : List Frame → Visible → List Item → Type 0
  Fit fs v is = ItemsFit up ps R hold main fs v is

  abbrev Conf : Config → Type 0
  Conf c = IsConfig up ps R hold main c

  abbrev Next : Outcomes → Type 0
  Next xs = AllNext up ps R hold main xs

  -- The meaning of acts of the procedure that runs, and of a loop under way.
  abbrev means : List Frame → Acts → Post → Post
  means fs b = meaning up (types fs) ps b

  abbrev means_act : List Frame → Act → Post → Post
  means_act fs a = meaning_act up (types fs) ps a

  abbrev turn : List Frame → Head → Acts → Post → ℕ → Post
  turn fs h b k j = turn_value up (types fs) (means fs b) h b k j

  -- The post of the procedure that runs.
  abbrev end : List Frame → Post
  end fs s c = value (own fs).post s Choices.stop

  -- The sum over the runs of a configuration, and over those of outcomes.
  abbrev Total : ℕ → Config → Tree → Value
  Total n c t = sum_of up main.post (runs ps n c t)

  abbrev Spread : ℕ → Outcomes → Forest → Value
  Spread n xs ts = sum_of up main.post (spread (runs ps n) xs ts)

  -- The meaning of the items of the procedure that runs.
  abbrev items : List Frame → List Item → List ℕ → Post
  items fs is js = items_value up (types fs) ps (end fs) is js

  holds_of : (fs : List Frame) → Frames fs → IsBoundedProgram up ps R (own fs)
  holds_of [] g = mains
  holds_of (f ∷ fs) g = hold f.callee g.1.0.1

  next_from_zero : (n : ℕ) (xs : Outcomes) → Next xs → (ts : Forest) → up ≡ false → zeroᵛ ≤ᵛ Spread n xs ts
  next_from_zero n xs a ts e = subst (λ d. zeroᵛ ≤ᵛ sum_of d main.post (spread (runs ps n) xs ts)) (sym e) (spread_from_zero up ps R hold main (runs ps n) (λ c t k. runs_from_zero up ps R hold main mains.formulas n c t k) xs a ts)

  cover_is : (x r : Value) → (up ≡ false → zeroᵛ ≤ᵛ x) → Cover up (Covered up x r)
  cover_is x r h = record { closed = λ v w k q. covered_more up x r v w k q; at_worst = covered_worst up x r h }

  -- ---- On the safe side of a run that has not terminated

  begun_end : (fs : List Frame) → Frames fs → Begun up ps R hold (own fs) (end fs)
  begun_end fs g s c h = at (own fs) (holds_of fs g) h
    where
      at : (p : TypedProcedure) → IsBoundedProgram up ps R p → HasTypes (types_of p) s → Safe up (begun up) (value p.post s Choices.stop)
      at p m h = begun_value up (p.inputs ++ p.outputs) p.post s m.formulas.post m.formulas.post_over m.small_post (λ y k. subst (λ t. has t (s y) ≡ true) (types_front p.inputs p.outputs p.locals y k) (h.typed y))

  begun_items : (fs : List Frame) → Frames fs → (v : Visible) (is : List Item) → Fit fs v is → (js : List ℕ) → Begun up ps R hold (own fs) (items fs is js)
  begun_items fs gf v [] g js s c h = begun_end fs gf s c h
  begun_items fs gf v (Item.act a ∷ is) g js s c h = begun_act up ps R hold (own fs) a g.1.1.0.0 _ (begun_items fs gf (shown_by a g.0) is g.1.1.1 js) s c h
  begun_items fs gf v (Item.turn k b ∷ is) g js s c h = begun_turn up ps R hold (own fs) b k g.1.1.0.0.0 g.1.1.0.0.1 _ (begun_items fs gf g.0 is g.1.1.1 (labels js)) (label js) s c h
  begun_items fs gf v (Item.out x ty ∷ is) g js s c h = begun_items fs gf (shown x v) is g.1 js _ (left c) (put_keeps (types fs) s x _ h (subst (λ t. has t (fit ty (here c)) ≡ true) (sym g.0.1) (fit_has ty (here c))))
  begun_items fs gf v (Item.back ∷ is) g js s c h = begun_end fs gf s c h

  -- ---- The meaning of items depends only on the visible variables

  end_on : (fs : List Frame) → Frames fs → (v : Visible) → Sub (interface (own fs)) v → Respects v (end fs)
  end_on fs gf v i s t c a = value_on v (own fs).post s t (λ y h. i y (inside y ((holds_of fs gf).formulas.post_over y h))) a
    where
      inside : (y : ℕ) → y < length ((own fs).inputs ++ (own fs).outputs) → leb (suc y) (length ((own fs).inputs ++ (own fs).outputs)) ≡ true
      inside y h = is_below y _ h

  items_on : (fs : List Frame) → Frames fs → (v : Visible) → Sub (interface (own fs)) v → (is : List Item) → Fit fs v is → (js : List ℕ) → Respects v (items fs is js)
  items_on fs gf v i [] g js = end_on fs gf v i
  items_on fs gf v i (Item.act a ∷ is) g js = weaken g.0 v _ g.1.0.1 (act_on up ps R (own fs) a g.1.1.0.0 g.0 g.1.1.0.1 _ (items_on fs gf (shown_by a g.0) (λ y e. sub_act a g.0 y (g.1.0.0 y e)) is g.1.1.1 js))
  items_on fs gf v i (Item.turn h b ∷ is) g js = weaken g.0 v _ g.1.0.1 (turn_on_scope up (types fs) g.0 h b g.1.1.0.1.1.0.0 g.1.1.0.1.1.0.1.0 (means fs b) (acts_on up ps R (own fs) b g.1.1.0.0.1 g.0 g.1.1.0.1.1.1) _ (items_on fs gf g.0 g.1.0.0 is g.1.1.1 (labels js)) (label js))
  items_on fs gf v i (Item.out x ty ∷ is) g js = λ s t c a. items_on fs gf (shown x v) (λ y e. sub_shown x v y (i y e)) is g.1 js _ _ (left c) (put_on v x _ s t a)
  items_on fs gf v i (Item.back ∷ is) g js = end_on fs gf v i

  alone : (fs : List Frame) → Frames fs → (is : List Item) → Fit fs everything is → (js : List ℕ) (s : List Val) → IsState (own fs) s → Safe up (ended up main.post is s) (items fs is js (environment s) Choices.stop)
  alone [] gf [] g js s h = safe_refl up _
  alone (f ∷ fs) gf [] g js s h = absurd g
  alone fs gf (i ∷ is) g js s h = begun_items fs gf everything (i ∷ is) g js (environment s) Choices.stop (env_typed (type_list (variables (own fs))) s h)

  -- ---- Calls: the callee's outputs take any values, and then its bound holds

  -- The inputs have the values `vs`.
  abbrev Starts : TypedProcedure → List Val → Env → Type 0
  Starts q vs s = (y : ℕ) → y < length q.inputs → s y ≡ environment vs y

  starts_put : (q : TypedProcedure) (vs : List Val) (s : Env) (x : ℕ) (v : Val) → length q.inputs ≤ x → Starts q vs s → Starts q vs (put x v s)
  starts_put q vs s x v l h y k = go (eqb_tells x y)
    where
      go : ((eqb x y ≡ true) × (x ≡ y)) ⊎ ((eqb x y ≡ false) × (x ≢ y)) → cond (x == y) v (s y) ≡ environment vs y
      go (inl e) = absurd (omega (arith, e.1))
      go (inr e) = rw e.0 (h y k)

  through : (q : TypedProcedure) (k : Post) (is : List Item) (x : Value) (vs : List Val) (b : ℕ) (ts : List Ty) → OutsOwn q b ts → ((s : Env) → HasTypes (types_of q) s → Starts q vs s → (c : Choices) → Safe up (items_value up (types_of q) ps k is [] s c) x) → (s : Env) → HasTypes (types_of q) s → Starts q vs s → (c : Choices) → Safe up (items_value up (types_of q) ps k (outs b ts is) [] s c) x
  through q k is x vs b [] o f s t e c = f s t e c
  through q k is x vs b (ty ∷ ts) o f s t e c = through q k is x vs (suc b) ts o.1 f (put b (fit ty (here c)) s) (put_keeps (types_of q) s b _ t (subst (λ u. has u (fit ty (here c)) ≡ true) (sym o.0.1) (fit_has ty (here c)))) (starts_put q vs s b _ o.0.0.no_input e) (left c)

  callee_below : (p : ℕ) → R p → (vs : List Val) → IsTyped (type_list (procedure_at ps p).inputs) vs → (c : Choices) → Safe up (items_value up (types_of (procedure_at ps p)) ps (λ s c. value (procedure_at ps p).post s Choices.stop) (callee_items (procedure_at ps p)) [] (environment (first_state (procedure_at ps p) vs)) c) (given (procedure_at ps p).pre vs)
  callee_below p m vs t c = through (procedure_at ps p) _ _ _ vs _ _ (outputs_own (procedure_at ps p)) inner _ (env_typed (type_list (variables (procedure_at ps p))) _ (start_typed (procedure_at ps p) vs t)) (λ y h. get_or-append vs _ (Truth false) y (subst (λ l. y < l) (sym (as_long (procedure_at ps p).inputs vs t)) h)) c
    where
      inner : (s : Env) → HasTypes (types_of (procedure_at ps p)) s → Starts (procedure_at ps p) vs s → (c : Choices) → Safe up (items_value up (types_of (procedure_at ps p)) ps (λ s c. value (procedure_at ps p).post s Choices.stop) (push (acts_in (procedure_at ps p).body) (Item.back ∷ [])) [] s c) (given (procedure_at ps p).pre vs)
      inner s u e c = subst (λ (k : Post). Safe up (k s c) (given (procedure_at ps p).pre vs)) (sym (push_value up (types_of (procedure_at ps p)) ps _ (acts_in (procedure_at ps p).body) (Item.back ∷ []) [])) (subst (λ v. Safe up (meaning up (types_of (procedure_at ps p)) ps (acts_in (procedure_at ps p).body) (λ s c. value (procedure_at ps p).post s Choices.stop) s c) v) (same_on (procedure_at ps p).pre s (environment vs) Choices.stop (λ y k. e y ((hold p m).formulas.pre_over y k))) (compares_safe up _ _ ((hold p m).bound s c u)))

  -- ---- Broken contracts

  -- Choices that show the call of a caller to break its contract.
  record Broken (f : Frame) (fs : List Frame) (js : List ℕ) (s : List Val) : Type 0 where
    choices : Choices
    broken : call_blame up (procedure_at ps f.callee) f.targets (inputs_of (procedure_at ps f.callee) s) (items fs f.items js) (environment f.state) choices ≡ worst up

  -- The call of some caller breaks its contract.
  abbrev Escapes : List Frame → List (List ℕ) → List Val → Type 0
  Escapes [] jss s = ⊥
  Escapes (f ∷ fs) jss s = Broken f fs (top_labels jss) s ⊎ Escapes fs (more_labels jss) f.state

  same_escapes : (fs : List Frame) (jss : List (List ℕ)) (s t : List Val) → inputs_of (own fs) t ≡ inputs_of (own fs) s → Escapes fs jss t → Escapes fs jss s
  same_escapes [] jss s t e h = h
  same_escapes (f ∷ fs) jss s t e (inl b) = inl (record { choices = b.choices; broken = subst (λ vs. call_blame up (procedure_at ps f.callee) f.targets vs (items fs f.items (top_labels jss)) (environment f.state) b.choices ≡ worst up) e b.broken })
  same_escapes (f ∷ fs) jss s t e (inr h) = inr h

  -- Some choices give the post a value that covers the sum, or some call breaks its contract.
  abbrev Res : List Frame → List (List ℕ) → Post → List Val → Value → Value → Type 0
  Res fs jss k s x r = Escapes fs jss s ⊎ Some (Covered up x r) (k (environment s))

  -- The runs of at most `n` steps are covered by the items, for all labels of the loops under way.
  abbrev Claim : ℕ → Type 0
  Claim n = (c : Config) → Conf c → (jss : List (List ℕ)) (js : List ℕ) (t : Tree) → Res c.frames jss (items c.frames c.items js) c.state (Total n c t) c.reward

  module _ (n : ℕ) (claim : Claim n) where
    from_sure : (c : Config) → Conf c → (jss : List (List ℕ)) (js : List ℕ) (ts : Forest) → Res c.frames jss (items c.frames c.items js) c.state (Spread n (sure c) ts) c.reward
    from_sure c h jss js ts = subst (λ x. Res c.frames jss (items c.frames c.items js) c.state x c.reward) (sym (sum-sure up main.post (runs ps n) c ts)) (claim c h jss js (first ts))

    -- ---- One step more: the configuration's items are one item and then `is`

    module _ (c : Config) (gf : Frames c.frames) (st : IsState (own c.frames) c.state) (jss : List (List ℕ)) (is : List Item) (v : Visible) (g : Fit c.frames v is) (ts : Forest) where
      abbrev Res_of : Post → Outcomes → Type 0
      Res_of k xs = Res c.frames jss k c.state (Spread n xs ts) c.reward

      -- The configuration after the call.
      abbrev entered : List ℕ → ℕ → List Term → Config
      entered xs p es = called c is xs p (procedure_at ps p) (evaluate es (environment c.state))

      from_push : (b : Acts) (is : List Item) (js : List ℕ) → Conf (moved c (push b is) c.state) → Res_of (means c.frames b (items c.frames is js)) (sure (moved c (push b is) c.state))
      from_push b is js h = subst (λ (k : Post). Res_of k (sure (moved c (push b is) c.state))) (push_value up (types c.frames) ps (end c.frames) b is js) (from_sure (moved c (push b is) c.state) h jss js ts)

      to_put : (js : List ℕ) (x : ℕ) (v : Val) (y : Value) → IsOwn (own c.frames) x → Res c.frames jss (items c.frames is js) (set c.state x v) y c.reward → Escapes c.frames jss c.state ⊎ Some (Covered up y c.reward) (items c.frames is js (put x v (environment c.state)))
      to_put js x v y o (inl e) = inl (same_escapes c.frames jss c.state _ (inputs_set (own c.frames) x v c.state o) e)
      to_put js x v y o (inr f) = inr (subst (λ (s : Env). Some (Covered up y c.reward) (items c.frames is js s)) (own_put (own c.frames) x v c.state o st) f)

      from_put : (js : List ℕ) (x : ℕ) (v : Val) → IsOwn (own c.frames) x → Conf (moved c is (set c.state x v)) → Escapes c.frames jss c.state ⊎ Some (Covered up (Spread n (sure (moved c is (set c.state x v))) ts) c.reward) (items c.frames is js (put x v (environment c.state)))
      from_put js x v o h = to_put js x v _ o (from_sure (moved c is (set c.state x v)) h jss js ts)

      from_test : (h : Head) (b : Acts) → Sub (interface (own c.frames)) v → ProgramAct up ps R (own c.frames) (Act.loop h b) → ScopedAct v (Act.loop h b) → Next (test c is h b) → (js : List ℕ) (j : ℕ) → Res_of (turn c.frames h b (items c.frames is js) j) (test c is h b)
      from_test h b i m k a js j = go (holds h.guard (environment c.state) Choices.stop) refl a
        where
          typed : HasTypes (types c.frames) (environment c.state)
          typed = env_typed (type_list (variables (own c.frames))) c.state st

          scoped : ScopedAct (among h.scope) (Act.loop h b)
          scoped = subst (λ (z : Visible). ScopedAct z (Act.loop h b)) (fun_ext k.0) k

          respects : Respects (among h.scope) (items c.frames is js)
          respects = subst (λ (z : Visible). Respects z (items c.frames is js)) (fun_ext k.0) (items_on c.frames gf v i is g js)

          go : (u : Bool) → holds h.guard (environment c.state) Choices.stop ≡ u → Next (cond u (sure (turned c (push b (Item.turn h b ∷ is)) h.number)) (sure (moved c is c.state))) → Res_of (turn c.frames h b (items c.frames is js) j) (cond u (sure (turned c (push b (Item.turn h b ∷ is)) h.number)) (sure (moved c is c.state)))
          go true e a = turn_on up ps R hold (own c.frames) b h m.0 m.1 (items c.frames is js) (begun_items c.frames gf v is g js) scoped.1.0.0 scoped.1.0.1.0 scoped.1.1 respects (Covered up (Spread n (sure (turned c (push b (Item.turn h b ∷ is)) h.number)) ts) c.reward) (cover_is (Spread n (sure (turned c (push b (Item.turn h b ∷ is)) h.number)) ts) c.reward (next_from_zero n (sure (turned c (push b (Item.turn h b ∷ is)) h.number)) a ts)) (Escapes c.frames jss c.state) (environment c.state) typed e (λ i. subst (λ (k : Post). Res_of k (sure (turned c (push b (Item.turn h b ∷ is)) h.number))) (push_value up (types c.frames) ps (end c.frames) b (Item.turn h b ∷ is) (i ∷ js)) (from_sure (turned c (push b (Item.turn h b ∷ is)) h.number) a.0.1 jss (i ∷ js) ts)) j
          go false e a = turn_off up ps R hold (own c.frames) b h m.0 m.1 (items c.frames is js) (begun_items c.frames gf v is g js) scoped.1.0.0 scoped.1.0.1.0 scoped.1.1 respects (Covered up (Spread n (sure (moved c is c.state)) ts) c.reward) (cover_is (Spread n (sure (moved c is c.state)) ts) c.reward (next_from_zero n (sure (moved c is c.state)) a ts)) (Escapes c.frames jss c.state) (environment c.state) typed e (from_sure (moved c is c.state) a.0.1 jss js ts) j

      from_parts : (x : ℕ) (qs : List (Rational × Term)) → IsOwn (own c.frames) x → PartsFit (types c.frames) x qs → Next (branches c is x qs) → (js : List ℕ) (u : Rational) → zeroʳ ≤ʳ u → (total : Post) (y : Value) → Some (CoveredPart up y u c.reward) (total (environment c.state)) → (ts : Forest) → Escapes c.frames jss c.state ⊎ Some (CoveredPart up (y +ᵛ Spread n (branches c is x qs) ts) (u +ʳ total_weight qs) c.reward) (parts x qs (items c.frames is js) total (environment c.state))
      unfolding total_weight
      from_parts x [] o f a js u p total y h ts = inr (record { choices = h.choices; covers = rw (sum-none up main.post, +ᵛ-zero y, +ʳ-zero u) h.covers })
      from_parts x (q ∷ qs) o f a js u p total y h ts = go (to_put js x (term_value q.1 (environment c.state)) _ o (claim _ a.0.1 jss js (first ts))) (λ v t k. from_parts x qs o f.1 a.1 js (u +ʳ q.0) (+ʳ_nonnegative u q.0 p f.0.0) t v k (rest ts))
        where
          go : Escapes c.frames jss c.state ⊎ Some (Covered up (Total n (branch c is x q).1 (first ts)) c.reward) (items c.frames is js (put x (term_value q.1 (environment c.state)) (environment c.state))) → ((v : Value) (t : Post) → Some (CoveredPart up v (u +ʳ q.0) c.reward) (t (environment c.state)) → Escapes c.frames jss c.state ⊎ Some (CoveredPart up (v +ᵛ Spread n (branches c is x qs) (rest ts)) ((u +ʳ q.0) +ʳ total_weight qs) c.reward) (parts x qs (items c.frames is js) t (environment c.state))) → Escapes c.frames jss c.state ⊎ Some (CoveredPart up (y +ᵛ Spread n (branches c is x (q ∷ qs)) ts) (u +ʳ total_weight (q ∷ qs)) c.reward) (parts x (q ∷ qs) (items c.frames is js) total (environment c.state))
          go (inl e) ih = inl e
          go (inr d) ih = elim (ih (y +ᵛ (finite q.0 *ᵛ Total n (branch c is x q).1 (first ts))) (λ r d. total r (left d) +ᵛ part x q (items c.frames is js) r (right d)) (record { choices = both h.choices d.choices; covers = part_add up u q.0 y _ c.reward _ _ p f.0.0 h.covers d.covers })) [ inl e ↦ inl e | inr i ↦ inr (record { choices = i.choices; covers = subst (λ v. CoveredPart up v (u +ʳ total_weight (q ∷ qs)) c.reward (parts x (q ∷ qs) (items c.frames is js) total (environment c.state) i.choices)) (+ᵛ_assoc y _ _ ∙ ap (λ v. y +ᵛ v) (sym (sum-spread up main.post (runs ps n) (branch c is x q) (branches c is x qs) ts))) (subst (λ w. CoveredPart up ((y +ᵛ (finite q.0 *ᵛ Total n (branch c is x q).1 (first ts))) +ᵛ Spread n (branches c is x qs) (rest ts)) w c.reward (parts x (q ∷ qs) (items c.frames is js) total (environment c.state) i.choices)) (+ʳ_assoc u q.0 (total_weight qs)) i.covers) }) ]

      from_draw : (x : ℕ) (qs : List (Rational × Term)) → IsOwn (own c.frames) x → PartsFit (types c.frames) x qs → total_weight qs ≡ oneʳ → Next (branches c is x qs) → (js : List ℕ) → Res_of (drawn x qs (items c.frames is js)) (branches c is x qs)
      unfolding total_weight
      from_draw x [] o f e a js = absurd (none_one e)
      from_draw x (q ∷ qs) o f e a js = go (to_put js x (term_value q.1 (environment c.state)) _ o (claim _ a.0.1 jss js (first ts)))
        where
          last : Escapes c.frames jss c.state ⊎ Some (CoveredPart up ((finite q.0 *ᵛ Total n (branch c is x q).1 (first ts)) +ᵛ Spread n (branches c is x qs) (rest ts)) (q.0 +ʳ total_weight qs) c.reward) (parts x qs (items c.frames is js) (part x q (items c.frames is js)) (environment c.state)) → Res_of (drawn x (q ∷ qs) (items c.frames is js)) (branches c is x (q ∷ qs))
          last (inl h) = inl h
          last (inr h) = inr (record { choices = h.choices; covers = part_all up _ c.reward _ (subst (λ v. CoveredPart up v oneʳ c.reward (parts x qs (items c.frames is js) (part x q (items c.frames is js)) (environment c.state) h.choices)) (sym (sum-spread up main.post (runs ps n) (branch c is x q) (branches c is x qs) ts)) (subst (λ w. CoveredPart up ((finite q.0 *ᵛ Total n (branch c is x q).1 (first ts)) +ᵛ Spread n (branches c is x qs) (rest ts)) w c.reward (parts x qs (items c.frames is js) (part x q (items c.frames is js)) (environment c.state) h.choices)) e h.covers)) })

          go : Escapes c.frames jss c.state ⊎ Some (Covered up (Total n (branch c is x q).1 (first ts)) c.reward) (items c.frames is js (put x (term_value q.1 (environment c.state)) (environment c.state))) → Res_of (drawn x (q ∷ qs) (items c.frames is js)) (branches c is x (q ∷ qs))
          go (inl h) = inl h
          go (inr h) = last (from_parts x qs o f.1 a.1 js q.0 f.0.0 (part x q (items c.frames is js)) _ (record { choices = h.choices; covers = part_first up q.0 _ c.reward _ f.0.0 h.covers }) (rest ts))

      from_pick : (d : Bool) (a b : Acts) (span : Span) → d ≡ up → (js : List ℕ) (t : Bool) → Conf (moved c (push (cond t a b) is) c.state) → Res_of (means_act c.frames (Act.pick d a b span) (items c.frames is js)) (sure (moved c (push (cond t a b) is) c.state))
      from_pick d a b span e js true h = elim (from_push a is js h) [ inl k ↦ inl k | inr f ↦ inr (record { choices = both f.choices Choices.stop; covers = covered_more up _ c.reward _ _ (side_of_pick d up e _ _).0 f.covers }) ]
      from_pick d a b span e js false h = elim (from_push b is js h) [ inl k ↦ inl k | inr f ↦ inr (record { choices = both Choices.stop f.choices; covers = covered_more up _ c.reward _ _ (side_of_pick d up e _ _).1 f.covers }) ]

      from_call : (xs : List ℕ) (p : ℕ) (es : List Term) (span : Span) → ProgramAct up ps R (own c.frames) (Act.call xs p es span) → Conf (entered xs p es) → (js : List ℕ) → Res_of (means_act c.frames (Act.call xs p es span) (items c.frames is js)) (sure (entered xs p es))
      from_call xs p es span m h js = go (from_sure (entered xs p es) h (js ∷ jss) [] ts)
        where
          typed : IsTyped (type_list (procedure_at ps p).inputs) (evaluate es (environment c.state))
          typed = args_typed (own c.frames) (type_list (procedure_at ps p).inputs) es (environment c.state) m.1.1 (env_typed (type_list (variables (own c.frames))) c.state st)

          from_zero : up ≡ false → zeroᵛ ≤ᵛ Spread n (sure (entered xs p es)) ts
          from_zero = next_from_zero n (sure (entered xs p es)) ((zero-≤ʳ-one, h), tt) ts

          go : Res (waiting c is xs p ∷ c.frames) (js ∷ jss) (items (waiting c is xs p ∷ c.frames) (callee_items (procedure_at ps p)) []) (first_state (procedure_at ps p) (evaluate es (environment c.state))) (Spread n (sure (entered xs p es)) ts) c.reward → Res_of (means_act c.frames (Act.call xs p es span) (items c.frames is js)) (sure (entered xs p es))
          go (inl (inr e)) = inl e
          go (inl (inl b)) = inr (record { choices = behind b.choices; covers = covered_more up _ c.reward _ _ (must_right up _ _) (subst (Covered up (Spread n (sure (entered xs p es)) ts) c.reward) (sym (subst (λ ws. call_blame up (procedure_at ps p) xs ws (items c.frames is js) (environment c.state) b.choices ≡ worst up) (inputs_start (procedure_at ps p) (evaluate es (environment c.state)) typed) b.broken)) (covered_worst up _ c.reward from_zero)) })
          go (inr f) = inr (record { choices = Choices.stop; covers = covered_more up _ c.reward _ _ (safe_trans up _ _ _ (callee_below p m.0 (evaluate es (environment c.state)) typed f.choices) (must_left up _ _)) f.covers })

    from_act : (c : Config) (gf : Frames c.frames) (st : IsState (own c.frames) c.state) (jss : List (List ℕ)) (is : List Item) (w : Visible) → Sub (interface (own c.frames)) w → (a : Act) → ProgramAct up ps R (own c.frames) a → ScopedAct w a → Fit c.frames (shown_by a w) is → (d : Decision) → Next (step_act ps a is c d) → (js : List ℕ) (ts : Forest) → Res c.frames jss (means_act c.frames a (items c.frames is js)) c.state (Spread n (step_act ps a is c d) ts) c.reward
    from_act c gf st jss is w i (Act.set x t span) m k g d a js ts = elim (from_put c gf st jss is _ g ts js x (term_value t (environment c.state)) m.0 a.0.1) [ inl h ↦ inl h | inr f ↦ inr (record { choices = f.choices; covers = f.covers }) ]
    from_act c gf st jss is w i (Act.draw x qs span) m k g d a js ts = from_draw c gf st jss is _ g ts x qs m.0 m.1.0 m.1.1 a js
    from_act c gf st jss is w i (Act.toss x f span) m k g d a js ts = elim (from_draw c gf st jss is _ g ts x (toss_parts f (environment c.state)) m.0 (toss_fit (types c.frames) x f (environment c.state) m.1.0 m.1.1 (env_typed (type_list (variables (own c.frames))) c.state st)) (flips_weigh (toss_weight f (environment c.state))) a js) [ inl h ↦ inl h | inr q ↦ inr (record { choices = before_products q.choices; covers = q.covers }) ]
    from_act c gf st jss is w i (Act.any x u ty span) m k g d a js ts = elim (from_put c gf st jss is _ g ts js x (fit ty (value_of d)) m.0 a.0.1) [ inl h ↦ inl h | inr f ↦ inr (record { choices = Choices.choose (value_of d) f.choices Choices.stop; covers = f.covers }) ]
    from_act c gf st jss is w i (Act.reward f span) m k g d a js ts = elim (from_sure (rewarded c is (value f (environment c.state) Choices.stop)) a.0.1 jss js ts) [ inl h ↦ inl h | inr k ↦ inr (record { choices = both k.choices Choices.stop; covers = covered_reward up m.0 _ c.reward _ _ k.covers }) ]
    from_act c gf st jss is w i (Act.ifs arms e span) m k g d a js ts = elim (from_push c gf st jss is _ g ts (taken arms e (environment c.state)) is js a.0.1) [ inl h ↦ inl h | inr f ↦ inr (taken_block up (types c.frames) ps _ arms e span (items c.frames is js) c.state f) ]
    from_act c gf st jss is w i (Act.pick u x y span) m k g d a js ts = from_pick c gf st jss is _ g ts u x y span m.0 js (side_of d) a.0.1
    from_act c gf st jss is w i (Act.check kind f span) m k g d a js ts = absurd m
    from_act c gf st jss is w i (Act.validate co span) m k g d a js ts = absurd m
    from_act c gf st jss is w i (Act.loop h b) m k g d a js ts = elim (from_test c gf st jss is w g ts h b i m k a js 0) [ inl q ↦ inl q | inr f ↦ inr (record { choices = behind (right f.choices); covers = f.covers }) ]
    from_act c gf st jss is w i (Act.call xs p es span) m k g d a js ts = from_call c gf st jss is _ g ts xs p es span m a.0.1 js

    from_back : (c : Config) (f : Frame) (fs : List Frame) → Frames (f ∷ fs) → IsState (procedure_at ps f.callee) c.state → Conf (returned ps c f fs) → (jss : List (List ℕ)) (ts : Forest) → Res (f ∷ fs) jss (end (f ∷ fs)) c.state (Spread n (sure (returned ps c f fs)) ts) c.reward
    from_back c f fs gf st h jss ts = go (from_sure (returned ps c f fs) h (more_labels jss) (top_labels jss) ts)
      where
        assigned : Assigned (own fs) f.targets (outputs_of (procedure_at ps f.callee) c.state) f.state
        assigned = own_set_all (own fs) f.targets _ _ f.state gf.1.0.0 (outputs_typed (procedure_at ps f.callee) c.state st) gf.0.0

        fits : HasFormulas (procedure_at ps f.callee)
        fits = (hold f.callee gf.1.0.1).formulas

        last : (d : Choices) → Covered up (Spread n (sure (returned ps c f fs)) ts) c.reward (items fs f.items (top_labels jss) (put_all f.targets (outputs_of (procedure_at ps f.callee) c.state) (environment f.state)) d) → Res (f ∷ fs) jss (end (f ∷ fs)) c.state (Spread n (sure (returned ps c f fs)) ts) c.reward
        last d k = elim (decide up (given (procedure_at ps f.callee).post (inputs_of (procedure_at ps f.callee) c.state ++ outputs_of (procedure_at ps f.callee) c.state)) (items fs f.items (top_labels jss) (put_all f.targets (outputs_of (procedure_at ps f.callee) c.state) (environment f.state)) d) (post_held (procedure_at ps f.callee) fits c.state st)) [ inl g ↦ inr (record { choices = d; covers = subst (Covered up (Spread n (sure (returned ps c f fs)) ts) c.reward) (sym (post_value (procedure_at ps f.callee) fits c.state)) (covered_more up _ c.reward _ _ g.0 k) }) | inr w ↦ inl (inl (record { choices = give (outputs_of (procedure_at ps f.callee) c.state) (behind d); broken = rw (picks-give (type_list (procedure_at ps f.callee).outputs) (outputs_of (procedure_at ps f.callee) c.state) (behind d) (outputs_typed (procedure_at ps f.callee) c.state st), past-give (type_list (procedure_at ps f.callee).outputs) (outputs_of (procedure_at ps f.callee) c.state) (behind d) (outputs_typed (procedure_at ps f.callee) c.state st)) w })) ]

        go : Res fs (more_labels jss) (items fs f.items (top_labels jss)) (set_all f.targets (outputs_of (procedure_at ps f.callee) c.state) f.state) (Spread n (sure (returned ps c f fs)) ts) c.reward → Res (f ∷ fs) jss (end (f ∷ fs)) c.state (Spread n (sure (returned ps c f fs)) ts) c.reward
        go (inl e) = inl (inr (same_escapes fs (more_labels jss) f.state _ assigned.inputs e))
        go (inr k) = last k.choices (subst (λ (s : Env). Covered up (Spread n (sure (returned ps c f fs)) ts) c.reward (items fs f.items (top_labels jss) s k.choices)) assigned.same k.covers)

    from_step_back : (is : List Item) (c : Config) (fs : List Frame) → Frames fs → Waits up ps R hold main fs → IsState (own fs) c.state → Next (step_back ps is c fs) → (jss : List (List ℕ)) (ts : Forest) → Res fs jss (end fs) c.state (Spread n (step_back ps is c fs) ts) c.reward
    from_step_back is c [] gf w st a jss ts = absurd w
    from_step_back is c (f ∷ fs) gf w st a jss ts = from_back c f fs gf st a.0.1 jss ts

    from_item : (c : Config) (gf : Frames c.frames) (st : IsState (own c.frames) c.state) (i : Item) (is : List Item) (v : Visible) → Fit c.frames v (i ∷ is) → (d : Decision) → Next (step_item ps i is c d) → (jss : List (List ℕ)) (js : List ℕ) (ts : Forest) → Res c.frames jss (items c.frames (i ∷ is) js) c.state (Spread n (step_item ps i is c d) ts) c.reward
    from_item c gf st (Item.act x) is v g d a jss js ts = from_act c gf st jss is g.0 g.1.0.0 x g.1.1.0.0 g.1.1.0.1 g.1.1.1 d a js ts
    from_item c gf st (Item.turn h b) is v g d a jss js ts = from_test c gf st jss is g.0 g.1.1.1 ts h b g.1.0.0 g.1.1.0.0 g.1.1.0.1 a (labels js) (label js)
    from_item c gf st (Item.out x ty) is v g d a jss js ts = elim (from_put c gf st jss is _ g.1 ts js x (fit ty (value_of d)) g.0.0 a.0.1) [ inl h ↦ inl h | inr f ↦ inr (record { choices = Choices.choose (value_of d) f.choices Choices.stop; covers = f.covers }) ]
    from_item c gf st Item.back is v g d a jss js ts = from_step_back is c c.frames gf g st a jss ts

  ends_here : (c : Config) → Conf c → (jss : List (List ℕ)) (js : List ℕ) → Res c.frames jss (items c.frames c.items js) c.state (sum_of up main.post (sure c)) c.reward
  ends_here c h jss js = inr (record { choices = Choices.stop; covers = subst (λ x. Covered up x c.reward (items c.frames c.items js (environment c.state) Choices.stop)) (sym (sum-one up main.post c)) (covered_alone up main.post c _ (alone c.frames h.frames c.items h.items js c.state h.state)) })

  claims : (n : ℕ) → Claim n
  claims zero c h jss js t = subst (λ cs. Res c.frames jss (items c.frames c.items js) c.state (sum_of up main.post cs) c.reward) (sym (runs-zero ps c t)) (ends_here c h jss js)
  claims (suc n) c h jss js t = subst (λ cs. Res c.frames jss (items c.frames c.items js) c.state (sum_of up main.post cs) c.reward) (sym (runs-next ps n c t)) (go c.items h.items refl (claims n))
    where
      go : (is : List Item) → Fit c.frames everything is → is ≡ c.items → Claim n → Res c.frames jss (items c.frames is js) c.state (sum_of up main.post (onward ps (runs ps n) is c t)) c.reward
      go [] g e ih = subst (λ is. Res c.frames jss (items c.frames is js) c.state (sum_of up main.post (sure c)) c.reward) (sym e) (ends_here c h jss js)
      go (i ∷ is) g e ih = from_item n ih c h.frames h.state i is everything g (decision t) (step_kept up ps R hold main i is c h.frames everything g h.state (decision t)) jss js (under t)

pub bounds : (up : Bool) (ps : List TypedProcedure) (R : ℕ → Type 0) → ((n : ℕ) → R n → IsBoundedProgram up ps R (procedure_at ps n)) → (p : ℕ) → IsBoundedProgram up ps R (procedure_at ps p) → BoundBy up ps p
bounds up ps R hold p m s t n tree = go (claims up ps R hold (procedure_at ps p) m n (begin ps p s) (record { frames = tt; items = items_more up ps R hold (procedure_at ps p) [] (interface (procedure_at ps p)) everything (λ y e. refl) _ (items_push up ps R hold (procedure_at ps p) [] (interface (procedure_at ps p)) (interface (procedure_at ps p)) (λ y e. e) (λ y e. e) (acts_in (procedure_at ps p).body) [] m.program m.scoped tt); state = t }) [] [] tree)
  where
    go : ⊥ ⊎ Some (Covered up (sum_of up (procedure_at ps p).post (runs ps n (begin ps p s) tree)) zeroᵛ) (items_value up (types_of (procedure_at ps p)) ps (λ r c. value (procedure_at ps p).post r Choices.stop) (push (acts_in (procedure_at ps p).body) []) [] (environment s)) → Compares up (value (procedure_at ps p).pre (environment s) Choices.stop) (sum_of up (procedure_at ps p).post (runs ps n (begin ps p s) tree))
    go (inl e) = absurd e
    go (inr f) = safe_compares up _ _ (safe_trans up _ _ _ (covered_start up _ _ f.covers) (subst (λ (k : Post). Safe up (k (environment s) f.choices) (value (procedure_at ps p).pre (environment s) Choices.stop)) (sym (push_value up (types_of (procedure_at ps p)) ps (λ r c. value (procedure_at ps p).post r Choices.stop) (acts_in (procedure_at ps p).body) [] [])) (compares_safe up _ _ (m.bound (environment s) f.choices (env_typed (type_list (variables (procedure_at ps p))) s t)))))
