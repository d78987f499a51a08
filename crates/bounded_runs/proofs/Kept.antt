-- Each step of a program leads to configurations whose states have the right types and whose items
-- belong to the procedure that runs. So the sums of procs with `@wlp` are not negative.
use Rattle.std.proofs.Common.{◌≡◌, ℕ, refl, sym, ap, ◌∙◌, subst, Bool, true, false, cond, ◌==◌, ◌||◌, List, [], ◌∷◌, ◌++◌}
use Rattle.std.specs.Prelude.{length, take, set}
use Prim.Native.Nat.{zero, suc}
use Rattle.heyvl_num.specs.Rational.{Rational, zeroʳ, ◌≤ʳ◌}
use Rattle.heyvl_num.specs.Value.{zeroᵛ, ◌≤ᵛ◌}
use Rattle.heyvl_num.proofs.exported.Rationals.{zero-≤ʳ-one}
use Rattle.heyvl_num.proofs.exported.Values.{zero-≤ᵛ-one, zero-≤ᵛ-zero, +ᵛ_nonnegative, scale_nonnegative}
use Rattle.heyvl_places.specs.declared.spans.Span.{Span}
use Rattle.heylo_formula.specs.State.{fit, has, environment, IsTyped}
use Rattle.heylo_formula.specs.Choices.{Choices}
use Rattle.heylo_formula.specs.Formula.{Term}
use Rattle.heylo_formula.specs.Meaning.{value, holds, term_value}
use Rattle.heylo_formula.specs.Typing.{types_in, TermFits}
use Rattle.heylo_formula.specs.declared.types.Ty.{Ty}
use Rattle.heylo_formula.specs.declared.values.Val.{Val}
use Rattle.heylo_formula.proofs.exported.Agreement.{same_on}
use Rattle.heylo_formula.proofs.exported.States.{env_typed, fit_has}
use Rattle.heylo_formula.proofs.exported.TypedTerms.{term_typed}
use Rattle.heyvl_acts.specs.Tosses.{toss_parts}
use Rattle.heyvl_acts.proofs.exported.Tosses.{toss_fit}
use Rattle.heyvl_acts.specs.Acts.{Head, Act, Acts, Arms, TypedProcedure, variables, type_list, types_of, acts_in, procedure_at}
use Rattle.heyvl_acts.specs.Matching.{taken}
use Rattle.heyvl_acts.specs.Rules.{IsOwn}
use Rattle.heyvl_acts.specs.Visible.{Visible, shown, interface, shown_by, ScopedAct, Scoped, ScopedArms}
use Rattle.heyvl_acts.specs.WellTypedActs.{PartsFit}
use Rattle.run_machine.specs.Bound.{IsState}
use Rattle.run_machine.specs.Configurations.{Item, Frame, Config, Outcomes, push, evaluate, outs, callee_items, outputs_of}
use Rattle.run_machine.specs.Runs.{Runner, spread, onward, runs}
use Rattle.run_machine.specs.Scheduler.{Tree, Forest, decision, under, first, rest}
use Rattle.run_machine.specs.Step.{Decision, value_of, side_of, sure, moved, turned, waiting, called, returned, branches, test, step_act, step_back, step_item}
use Rattle.run_machine.specs.Sums.{ended, sum_of}
use Rattle.run_machine.proofs.exported.Equations.{runs-zero, runs-next, sum-none, sum-one, sum-spread}
use Rattle.bounded_runs.specs.internal.Contracts.{given}
use Rattle.bounded_runs.specs.internal.Programs.{Owns, Program, ProgramAct, ProgramArms, IsBoundedProgram, HasFormulas}
use Rattle.bounded_runs.proofs.ScopedMeaning.{Sub, sub_shown, sub_act}
use Rattle.run_machine.proofs.exported.OwnOutputs.{OutsOwn, outputs_own}
use Rattle.run_machine.proofs.exported.TypedStates.{outputs_typed}
use Rattle.bounded_runs.proofs.ProgramStates.{append_typed, take_typed, own_set, own_set_all, inputs_of, start_typed, front_same, results}
use Rattle.bounded_runs.proofs.Monotone.{args_typed, held_value}

pub post_value : (p : TypedProcedure) → HasFormulas p → (s : List Val) → value p.post (environment s) Choices.stop ≡ given p.post (inputs_of p s ++ outputs_of p s)
post_value p f s = same_on p.post (environment s) (environment (take (length (p.inputs ++ p.outputs)) s)) Choices.stop (λ y h. front_same _ y s (f.post_over y h)) ∙ ap (given p.post) (sym (results p s))

results_typed : (p : TypedProcedure) (s : List Val) → IsState p s → IsTyped (type_list (p.inputs ++ p.outputs)) (inputs_of p s ++ outputs_of p s)
results_typed p s h = append_typed p.inputs p.outputs _ _ (take_typed p.inputs _ s h) (outputs_typed p s h)

pub post_held : (p : TypedProcedure) → HasFormulas p → (s : List Val) → IsState p s → zeroᵛ ≤ᵛ given p.post (inputs_of p s ++ outputs_of p s)
post_held p f s h = held_value (types_in (type_list (p.inputs ++ p.outputs))) p.post _ f.post (env_typed (type_list (p.inputs ++ p.outputs)) _ (results_typed p s h))

-- Every variable is visible.
abbrev pub everything : Visible
everything y = true

shown_both : (x : ℕ) (v w : Visible) → Sub v w → Sub (shown x v) (shown x w)
shown_both x v w h y e = go (x == y) e
  where
    go : (b : Bool) → (b || v y) ≡ true → (b || w y) ≡ true
    go true k = refl
    go false k = h y k

module _ (up : Bool) (ps : List TypedProcedure) (R : ℕ → Type 0) (hold : (n : ℕ) → R n → IsBoundedProgram up ps R (procedure_at ps n)) (main : TypedProcedure) where
  -- The procedure that runs: the last one that was called, otherwise the one that was started.
  abbrev pub owner : List Frame → TypedProcedure
  owner [] = main
  owner (f ∷ fs) = procedure_at ps f.callee

  -- The items of a procedure may end without a return only if it has no caller.
  abbrev pub Ends : List Frame → Type 0
  Ends [] = Unit {0}
  Ends (f ∷ fs) = ⊥

  -- There is a caller.
  abbrev pub Waits : List Frame → Type 0
  Waits [] = ⊥
  Waits (f ∷ fs) = Unit {0}

  -- The items of a called procedure end with its return; those of the procedure that was started
  -- have no return. At each act variables of the procedure are visible, and what follows the act
  -- reads only these and those that the act makes visible.
  abbrev pub ItemsFit : List Frame → Visible → List Item → Type 0
  ItemsFit fs v [] = Ends fs
  ItemsFit fs v (Item.act a ∷ is) = (w : Visible) × ((Sub (interface (owner fs)) w × Sub w v) × ((ProgramAct up ps R (owner fs) a × ScopedAct w a) × ItemsFit fs (shown_by a w) is))
  ItemsFit fs v (Item.turn h b ∷ is) = (w : Visible) × ((Sub (interface (owner fs)) w × Sub w v) × ((ProgramAct up ps R (owner fs) (Act.loop h b) × ScopedAct w (Act.loop h b)) × ItemsFit fs w is))
  ItemsFit fs v (Item.out x ty ∷ is) = (IsOwn (owner fs) x × (types_of (owner fs) x ≡ ty)) × ItemsFit fs (shown x v) is
  ItemsFit fs v (Item.back ∷ is) = Waits fs

  -- Each caller has a state with the right types, items and targets of its procedure, and called
  -- one of the procedures.
  abbrev pub FramesFit : List Frame → Type 0
  FramesFit [] = Unit {0}
  FramesFit (f ∷ fs) = (IsState (owner fs) f.state × ItemsFit fs everything f.items) × ((Owns (owner fs) f.targets (type_list (procedure_at ps f.callee).outputs) × R f.callee) × FramesFit fs)

  -- A configuration that steps of the program reach.
  pub record IsConfig (c : Config) : Type 0 where
    pub frames : FramesFit c.frames
    pub items : ItemsFit c.frames everything c.items
    pub state : IsState (owner c.frames) c.state

  -- The outcomes of a step: no weight is negative.
  abbrev pub AllNext : Outcomes → Type 0
  AllNext [] = Unit {0}
  AllNext (x ∷ xs) = ((zeroʳ ≤ʳ x.0) × IsConfig x.1) × AllNext xs

  -- ---- Items with more visible variables, and items after others

  pub items_more : (fs : List Frame) (v w : Visible) → Sub v w → (is : List Item) → ItemsFit fs v is → ItemsFit fs w is
  items_more fs v w h [] g = g
  items_more fs v w h (Item.act a ∷ is) g = (g.0, ((g.1.0.0, λ y e. h y (g.1.0.1 y e)), g.1.1))
  items_more fs v w h (Item.turn k b ∷ is) g = (g.0, ((g.1.0.0, λ y e. h y (g.1.0.1 y e)), g.1.1))
  items_more fs v w h (Item.out x ty ∷ is) g = (g.0, items_more fs (shown x v) (shown x w) (shown_both x v w h) is g.1)
  items_more fs v w h (Item.back ∷ is) g = g

  pub items_push : (fs : List Frame) (v w : Visible) → Sub (interface (owner fs)) v → Sub v w → (b : Acts) (is : List Item) → Program up ps R (owner fs) b → Scoped w b → ItemsFit fs v is → ItemsFit fs w (push b is)
  items_push fs v w i h Acts.done is m k g = items_more fs v w h is g
  items_push fs v w i h (Acts.next a rest) is m k g = (w, ((λ y e. h y (i y e), λ y e. e), ((m.0, k.0), items_push fs v (shown_by a w) i (λ y e. sub_act a w y (h y e)) rest is m.1 k.1 g)))

  items_outs : (f : Frame) (fs : List Frame) (v : Visible) → Sub (interface (procedure_at ps f.callee)) v → (n : ℕ) (ts : List Ty) (is : List Item) → OutsOwn (procedure_at ps f.callee) n ts → ItemsFit (f ∷ fs) (interface (procedure_at ps f.callee)) is → ItemsFit (f ∷ fs) v (outs n ts is)
  items_outs f fs v i n [] is h k = items_more (f ∷ fs) _ v i is k
  items_outs f fs v i n (t ∷ ts) is h k = (h.0, items_outs f fs (shown n v) (λ y e. sub_shown n v y (i y e)) (suc n) ts is h.1 k)

  callee_fits : (f : Frame) (fs : List Frame) → R f.callee → ItemsFit (f ∷ fs) everything (callee_items (procedure_at ps f.callee))
  callee_fits f fs r = items_outs f fs everything (λ y e. refl) _ _ _ (outputs_own (procedure_at ps f.callee)) (items_push (f ∷ fs) (interface (procedure_at ps f.callee)) (interface (procedure_at ps f.callee)) (λ y e. e) (λ y e. e) (acts_in (procedure_at ps f.callee).body) (Item.back ∷ []) (hold f.callee r).program (hold f.callee r).scoped tt)

  -- ---- One step

  program_taken : (p : TypedProcedure) (arms : Arms) (e : Acts) (s : List Val) → ProgramArms up ps R p arms → Program up ps R p e → Program up ps R p (taken arms e (environment s))
  program_taken p Arms.no_arm e s h k = k
  program_taken p (Arms.arm g b more) e s h k = go (holds g (environment s) Choices.stop) h.1.0 (program_taken p more e s h.1.1 k)
    where
      go : (t : Bool) → Program up ps R p b → Program up ps R p (taken more e (environment s)) → Program up ps R p (cond t b (taken more e (environment s)))
      go true x y = x
      go false x y = y

  scoped_taken : (v : Visible) (arms : Arms) (e : Acts) (s : List Val) → ScopedArms v arms → Scoped v e → Scoped v (taken arms e (environment s))
  scoped_taken v Arms.no_arm e s h k = k
  scoped_taken v (Arms.arm g b more) e s h k = go (holds g (environment s) Choices.stop) h.1.0 (scoped_taken v more e s h.1.1 k)
    where
      go : (t : Bool) → Scoped v b → Scoped v (taken more e (environment s)) → Scoped v (cond t b (taken more e (environment s)))
      go true x y = x
      go false x y = y

  sure_fits : (c : Config) → IsConfig c → AllNext (sure c)
  sure_fits c h = ((zero-≤ʳ-one, h), tt)

  -- The items are one item and then `is`.
  module _ (is : List Item) (c : Config) (gf : FramesFit c.frames) (st : IsState (owner c.frames) c.state) where
    moves : (v : Visible) (is : List Item) → ItemsFit c.frames v is → (s : List Val) → IsState (owner c.frames) s → IsConfig (moved c is s)
    moves v is g s h = record { frames = gf; items = items_more c.frames v everything (λ y e. refl) is g; state = h }

    sets : (v : Visible) → ItemsFit c.frames v is → (x : ℕ) (a : Val) → IsOwn (owner c.frames) x → has (types_of (owner c.frames) x) a ≡ true → IsConfig (moved c is (set c.state x a))
    sets v g x a o e = moves v is g _ (own_set (owner c.frames) x a c.state o e st)

    sets_term : (v : Visible) → ItemsFit c.frames v is → (x : ℕ) (t : Term) → IsOwn (owner c.frames) x × TermFits (types_of (owner c.frames)) (types_of (owner c.frames) x) t → IsConfig (moved c is (set c.state x (term_value t (environment c.state))))
    sets_term v g x t m = sets v g x _ m.0 (term_typed (types_of (owner c.frames)) (types_of (owner c.frames) x) t _ m.1 (env_typed (type_list (variables (owner c.frames))) c.state st))

    sets_fit : (v : Visible) → ItemsFit c.frames v is → (x : ℕ) (ty : Ty) (a : Val) → IsOwn (owner c.frames) x → types_of (owner c.frames) x ≡ ty → IsConfig (moved c is (set c.state x (fit ty a)))
    sets_fit v g x ty a o e = sets v g x _ o (subst (λ t. has t (fit ty a) ≡ true) (sym e) (fit_has ty a))

    draws : (v : Visible) → ItemsFit c.frames v is → (x : ℕ) (qs : List (Rational × Term)) → IsOwn (owner c.frames) x → PartsFit (types_of (owner c.frames)) x qs → AllNext (branches c is x qs)
    draws v g x [] o f = tt
    draws v g x (q ∷ qs) o f = ((f.0.0, sets_term v g x q.1 (o, f.0.1)), draws v g x qs o f.1)

    turns : (w : Visible) → Sub (interface (owner c.frames)) w → (h : Head) (b : Acts) → ProgramAct up ps R (owner c.frames) (Act.loop h b) → ScopedAct w (Act.loop h b) → ItemsFit c.frames w is → IsConfig (turned c (push b (Item.turn h b ∷ is)) h.number)
    turns w i h b m k g = record { frames = gf; items = items_more c.frames w everything (λ y e. refl) (push b (Item.turn h b ∷ is)) (items_push c.frames w w i (λ y e. e) b (Item.turn h b ∷ is) m.1 k.1.1 (w, ((i, λ y e. e), ((m, k), g)))); state = st }

    tests : (w : Visible) → Sub (interface (owner c.frames)) w → (h : Head) (b : Acts) → ProgramAct up ps R (owner c.frames) (Act.loop h b) → ScopedAct w (Act.loop h b) → ItemsFit c.frames w is → AllNext (test c is h b)
    tests w i h b m k g = go (holds h.guard (environment c.state) Choices.stop)
      where
        go : (t : Bool) → AllNext (cond t (sure (turned c (push b (Item.turn h b ∷ is)) h.number)) (sure (moved c is c.state)))
        go true = sure_fits _ (turns w i h b m k g)
        go false = sure_fits _ (moves w is g c.state st)

    calls : (v : Visible) (xs : List ℕ) (n : ℕ) (es : List Term) (span : Span) → ProgramAct up ps R (owner c.frames) (Act.call xs n es span) → ItemsFit c.frames v is → IsConfig (called c is xs n (procedure_at ps n) (evaluate es (environment c.state)))
    calls v xs n es span m g = record { frames = ((st, items_more c.frames v everything (λ y e. refl) is g), ((m.1.0, m.0), gf)); items = callee_fits (waiting c is xs n) c.frames m.0; state = start_typed (procedure_at ps n) _ (args_typed (owner c.frames) (type_list (procedure_at ps n).inputs) es _ m.1.1 (env_typed (type_list (variables (owner c.frames))) c.state st)) }

    sides : (a b : Acts) (d : Bool) → Program up ps R (owner c.frames) a × Program up ps R (owner c.frames) b → Program up ps R (owner c.frames) (cond d a b)
    sides a b true h = h.0
    sides a b false h = h.1

    scoped_sides : (v : Visible) (a b : Acts) (d : Bool) → Scoped v a × Scoped v b → Scoped v (cond d a b)
    scoped_sides v a b true h = h.0
    scoped_sides v a b false h = h.1

    act_kept : (w : Visible) → Sub (interface (owner c.frames)) w → (a : Act) → ProgramAct up ps R (owner c.frames) a → ScopedAct w a → ItemsFit c.frames (shown_by a w) is → (d : Decision) → AllNext (step_act ps a is c d)
    act_kept w i (Act.set x t span) m k g d = sure_fits _ (sets_term _ g x t m)
    act_kept w i (Act.draw x qs span) m k g d = draws _ g x qs m.0 m.1.0
    act_kept w i (Act.toss x f span) m k g d = draws _ g x (toss_parts f (environment c.state)) m.0 (toss_fit (types_of (owner c.frames)) x f (environment c.state) m.1.0 m.1.1 (env_typed (type_list (variables (owner c.frames))) c.state st))
    act_kept w i (Act.any x u ty span) m k g d = sure_fits _ (sets_fit _ g x ty (value_of d) m.0 m.1.0)
    act_kept w i (Act.reward f span) m k g d = sure_fits _ (record { frames = gf; items = items_more c.frames w everything (λ y e. refl) is g; state = st })
    act_kept w i (Act.ifs arms e span) m k g d = sure_fits _ (moves w _ (items_push c.frames w w i (λ y e. e) (taken arms e (environment c.state)) is (program_taken (owner c.frames) arms e c.state m.0 m.1) (scoped_taken w arms e c.state k.0 k.1) g) c.state st)
    act_kept w i (Act.pick u a b span) m k g d = sure_fits _ (moves w _ (items_push c.frames w w i (λ y e. e) (cond (side_of d) a b) is (sides a b (side_of d) m.1) (scoped_sides w a b (side_of d) k) g) c.state st)
    act_kept w i (Act.check kind f span) m k g d = absurd m
    act_kept w i (Act.validate co span) m k g d = absurd m
    act_kept w i (Act.loop h b) m k g d = tests w i h b m k g
    act_kept w i (Act.call xs n es span) m k g d = sure_fits _ (calls _ xs n es span m g)

  returns : (c : Config) (f : Frame) (fs : List Frame) → FramesFit (f ∷ fs) → IsState (procedure_at ps f.callee) c.state → IsConfig (returned ps c f fs)
  returns c f fs gf st = record { frames = gf.1.1; items = gf.0.1; state = (own_set_all (owner fs) f.targets _ _ f.state gf.1.0.0 (outputs_typed (procedure_at ps f.callee) c.state st) gf.0.0).typed }

  back_kept : (is : List Item) (c : Config) (fs : List Frame) → FramesFit fs → Waits fs → IsState (owner fs) c.state → AllNext (step_back ps is c fs)
  back_kept is c [] gf g st = absurd g
  back_kept is c (f ∷ fs) gf g st = sure_fits _ (returns c f fs gf st)

  pub step_kept : (i : Item) (is : List Item) (c : Config) → FramesFit c.frames → (v : Visible) → ItemsFit c.frames v (i ∷ is) → IsState (owner c.frames) c.state → (d : Decision) → AllNext (step_item ps i is c d)
  step_kept (Item.act a) is c gf v g st d = act_kept is c gf st g.0 g.1.0.0 a g.1.1.0.0 g.1.1.0.1 g.1.1.1 d
  step_kept (Item.turn h b) is c gf v g st d = tests is c gf st g.0 g.1.0.0 h b g.1.1.0.0 g.1.1.0.1 g.1.1.1
  step_kept (Item.out x ty) is c gf v g st d = sure_fits _ (sets_fit is c gf st _ g.1 x ty (value_of d) g.0.0 g.0.1)
  step_kept Item.back is c gf v g st d = back_kept is c c.frames gf g st

  -- ---- Sums of programs with `@wlp`

  ended_from_zero : (fits : HasFormulas main) (fs : List Frame) (is : List Item) (s : List Val) → ItemsFit fs everything is → IsState (owner fs) s → zeroᵛ ≤ᵛ ended false main.post is s
  ended_from_zero fits [] [] s g st = subst (λ v. zeroᵛ ≤ᵛ v) (sym (post_value main fits s)) (post_held main fits s st)
  ended_from_zero fits (f ∷ fs) [] s g st = absurd g
  ended_from_zero fits fs (i ∷ is) s g st = zero-≤ᵛ-one

  pub spread_from_zero : (f : Runner) → ((c : Config) (t : Tree) → IsConfig c → zeroᵛ ≤ᵛ sum_of false main.post (f c t)) → (xs : Outcomes) → AllNext xs → (ts : Forest) → zeroᵛ ≤ᵛ sum_of false main.post (spread f xs ts)
  spread_from_zero f h [] a ts = rw (sum-none false main.post) zero-≤ᵛ-zero
  spread_from_zero f h (x ∷ xs) a ts = rw (sum-spread false main.post f x xs ts) (+ᵛ_nonnegative _ _ (scale_nonnegative x.0 _ a.0.0 (h x.1 (first ts) a.0.1)) (spread_from_zero f h xs a.1 (rest ts)))

  pub runs_from_zero : HasFormulas main → (n : ℕ) (c : Config) (t : Tree) → IsConfig c → zeroᵛ ≤ᵛ sum_of false main.post (runs ps n c t)
  runs_from_zero fits zero c t h = rw (runs-zero ps c t, sum-one false main.post c) (ended_from_zero fits c.frames c.items c.state h.items h.state)
  runs_from_zero fits (suc n) c t h = rw (runs-next ps n c t) (go c.items h.items (λ e k. runs_from_zero fits n e k))
    where
      go : (is : List Item) → ItemsFit c.frames everything is → ((e : Config) (k : Tree) → IsConfig e → zeroᵛ ≤ᵛ sum_of false main.post (runs ps n e k)) → zeroᵛ ≤ᵛ sum_of false main.post (onward ps (runs ps n) is c t)
      go [] g ih = rw (sum-one false main.post c) (ended_from_zero fits c.frames c.items c.state h.items h.state)
      go (i ∷ is) g ih = spread_from_zero (runs ps n) ih (step_item ps i is c (decision t)) (step_kept i is c h.frames everything g h.state (decision t)) (under t)
