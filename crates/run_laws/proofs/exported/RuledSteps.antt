-- In a file that satisfies the static rules, each step leads to configurations whose states have
-- the right types, whose items are acts that satisfy the rules of the procedure that runs, and
-- whose reward has not decreased. The weights of a step have the sum 1.
use Rattle.std.proofs.Common.{◌≡◌, ℕ, refl, sym, subst, Bool, true, false, cond, List, [], ◌∷◌, length}
use Rattle.std.specs.Prelude.{set}
use Prim.Native.Nat.{zero, suc}
use Rattle.heyvl_num.specs.Rational.{Rational, oneʳ}
use Rattle.heyvl_num.specs.WeightedSums.{total_weight}
use Rattle.heyvl_num.proofs.exported.Rationals.{zero-≤ʳ-one}
use Rattle.heyvl_num.proofs.exported.Values.{≤ᵛ_refl, ≤ᵛ-+ᵛ}
use Rattle.heyvl_places.specs.declared.spans.Span.{Span}
use Rattle.heylo_formula.specs.State.{fit, has, environment}
use Rattle.heylo_formula.specs.Choices.{Choices}
use Rattle.heylo_formula.specs.Formula.{Term}
use Rattle.heylo_formula.specs.Meaning.{holds, term_value}
use Rattle.heylo_formula.specs.Typing.{TermFits}
use Rattle.heylo_formula.specs.declared.types.Ty.{Ty}
use Rattle.heylo_formula.specs.declared.values.Val.{Val}
use Rattle.heylo_formula.proofs.exported.States.{env_typed, fit_has}
use Rattle.heylo_formula.proofs.exported.TypedTerms.{nonnegative_value}
use Rattle.heyvl_acts.specs.Acts.{Head, Act, Acts, TypedProcedure, variables, type_list, types_of, acts_in, procedure_at}
use Rattle.heyvl_acts.specs.Matching.{taken}
use Rattle.heyvl_acts.specs.Places.{in_order, inside, inside_arms}
use Rattle.heyvl_acts.specs.Rules.{Each, IsOwn, HasOwnTargets, IsTypedAct, WeighsOne, MeetsRules}
use Rattle.heyvl_acts.specs.Tosses.{toss_parts}
use Rattle.heyvl_acts.specs.WellTypedActs.{PartsFit, DrawFits}
use Rattle.heyvl_acts.proofs.exported.Each.{each_first, each_second, each_two, each_taken}
use Rattle.heyvl_acts.proofs.exported.Tosses.{toss_fit}
use Rattle.run_machine.specs.Bound.{IsState}
use Rattle.run_machine.specs.Configurations.{Item, Frame, Config, push, evaluate, outs, begin}
use Rattle.run_machine.specs.RunLaws.{ItemWeighsOne}
use Rattle.run_machine.specs.Step.{Decision, value_of, side_of, sure, moved, turned, waiting, called, branches, test, step_act, step_back, step_item, step_items}
use Rattle.run_machine.proofs.exported.OwnOutputs.{OutsOwn, outputs_own}
use Rattle.run_machine.proofs.exported.StepWeights.{steps_weigh_one}
use Rattle.run_machine.proofs.exported.TypedStates.{first_typed, own_set, resumed_typed, term_has}
use Rattle.run_laws.specs.EachOutcome.{EachOutcome}
use Rattle.run_laws.specs.RuledConfigurations.{IsRuled, AreRuled, owner, Waits, ItemsFit, FramesFit, ConfigFits, Follows}
use Rattle.run_laws.specs.RuledSteps.{BeginningsFit, StepsKeepTheRules, RuledStepsWeighOne}

module _ (ps : List TypedProcedure) (rules : Each (MeetsRules ps) ps) (start : ℕ) where
  pub ruled_body : (n : ℕ) → AreRuled ps (procedure_at ps n) (acts_in (procedure_at ps n).body)
  ruled_body n = go ps rules n
    where
      go : (qs : List TypedProcedure) → Each (MeetsRules ps) qs → (m : ℕ) → AreRuled ps (procedure_at qs m) (acts_in (procedure_at qs m).body)
      go [] h m = tt
      go (q ∷ qs) h zero = each_two (λ a. HasOwnTargets q a × IsTypedAct ps q a) WeighsOne (in_order (acts_in q.body)) (each_two (HasOwnTargets q) (IsTypedAct ps q) (in_order (acts_in q.body)) h.0.targets h.0.typed) h.0.weights
      go (q ∷ qs) h (suc m) = go qs h.1 m

  pub items_push : (fs : List Frame) (b : Acts) (is : List Item) → AreRuled ps (owner ps start fs) b → ItemsFit ps start fs is → ItemsFit ps start fs (push b is)
  items_push fs Acts.done is m g = g
  items_push fs (Acts.next a rest) is m g = ((m.0, each_first (IsRuled ps (owner ps start fs)) (inside a) (in_order rest) m.1), items_push fs rest is (each_second (IsRuled ps (owner ps start fs)) (inside a) (in_order rest) m.1) g)

  pub begins : (s : List Val) → IsState (procedure_at ps start) s → ConfigFits ps start (begin ps start s)
  begins s h = record { here = refl; frames = tt; items = items_push [] (acts_in (procedure_at ps start).body) [] (ruled_body start) tt; state = h }

  -- ---- One step

  -- The items are one item and then `is`.
  module _ (is : List Item) (c : Config) (fit_c : ConfigFits ps start c) where
    st : IsState (owner ps start c.frames) c.state
    st = fit_c.state

    fits : (js : List Item) → ItemsFit ps start c.frames js → (s : List Val) → IsState (owner ps start c.frames) s → Follows ps start c.reward (moved c js s)
    fits js g s h = (record { here = fit_c.here; frames = fit_c.frames; items = g; state = h }, ≤ᵛ_refl c.reward)

    one : (e : Config) → Follows ps start c.reward e → EachOutcome (Follows ps start c.reward) (sure e)
    one e h = ((zero-≤ʳ-one, h), tt)

    sets : ItemsFit ps start c.frames is → (x : ℕ) (a : Val) → IsOwn (owner ps start c.frames) x → has (types_of (owner ps start c.frames) x) a ≡ true → Follows ps start c.reward (moved c is (set c.state x a))
    sets g x a o e = fits is g _ (own_set (owner ps start c.frames) c.state x a st o e)

    sets_term : ItemsFit ps start c.frames is → (x : ℕ) (t : Term) → IsOwn (owner ps start c.frames) x → TermFits (types_of (owner ps start c.frames)) (types_of (owner ps start c.frames) x) t → Follows ps start c.reward (moved c is (set c.state x (term_value t (environment c.state))))
    sets_term g x t o m = sets g x _ o (term_has (owner ps start c.frames) c.state (types_of (owner ps start c.frames) x) t st m)

    sets_fit : ItemsFit ps start c.frames is → (x : ℕ) (ty : Ty) (a : Val) → IsOwn (owner ps start c.frames) x → types_of (owner ps start c.frames) x ≡ ty → Follows ps start c.reward (moved c is (set c.state x (fit ty a)))
    sets_fit g x ty a o e = sets g x _ o (subst (λ t. has t (fit ty a) ≡ true) (sym e) (fit_has ty a))

    draws : ItemsFit ps start c.frames is → (x : ℕ) (qs : List (Rational × Term)) → IsOwn (owner ps start c.frames) x → PartsFit (types_of (owner ps start c.frames)) x qs → EachOutcome (Follows ps start c.reward) (branches c is x qs)
    draws g x [] o f = tt
    draws g x (q ∷ qs) o f = ((f.0.0, sets_term g x q.1 o f.0.1), draws g x qs o f.1)

    parts_fit : (x : ℕ) (qs : List (Rational × Term)) → DrawFits (types_of (owner ps start c.frames)) x qs → PartsFit (types_of (owner ps start c.frames)) x qs
    parts_fit x [] f = absurd f
    parts_fit x (q ∷ qs) f = f

    tests : (h : Head) (b : Acts) → AreRuled ps (owner ps start c.frames) b → ItemsFit ps start c.frames is → EachOutcome (Follows ps start c.reward) (test c is h b)
    tests h b m g = go (holds h.guard (environment c.state) Choices.stop)
      where
        go : (t : Bool) → EachOutcome (Follows ps start c.reward) (cond t (sure (turned c (push b (Item.turn h b ∷ is)) h.number)) (sure (moved c is c.state)))
        go true = one _ (record { here = fit_c.here; frames = fit_c.frames; items = items_push c.frames b (Item.turn h b ∷ is) m (m, g); state = st }, ≤ᵛ_refl c.reward)
        go false = one _ (fits is g c.state st)

    calls : ItemsFit ps start c.frames is → (xs : List ℕ) (n : ℕ) (es : List Term) (span : Span) → IsRuled ps (owner ps start c.frames) (Act.call xs n es span) → Follows ps start c.reward (called c is xs n (procedure_at ps n) (evaluate es (environment c.state)))
    calls g xs n es span m =
        let q = procedure_at ps n in (
          record {
            here = fit_c.here;
            frames = (record { state = st; items = g; own = m.0.0; targets = m.0.1.targets; there = m.0.1.there }, fit_c.frames);
            items = items_outs (waiting c is xs n ∷ c.frames) (length q.inputs) (type_list q.outputs) _ (outputs_own q) (items_push (waiting c is xs n ∷ c.frames) (acts_in q.body) (Item.back ∷ []) (ruled_body n) tt);
            state = first_typed (owner ps start c.frames) q c.state es st m.0.1.arguments;
          },
          ≤ᵛ_refl c.reward,
        )
      where
        items_outs : (fs : List Frame) (k : ℕ) (ts : List Ty) (js : List Item) → OutsOwn (owner ps start fs) k ts → ItemsFit ps start fs js → ItemsFit ps start fs (outs k ts js)
        items_outs fs k [] js h i = i
        items_outs fs k (t ∷ ts) js h i = (h.0, items_outs fs (suc k) ts js h.1 i)

    act_kept : (a : Act) → Each (IsRuled ps (owner ps start c.frames)) (a ∷ inside a) → ItemsFit ps start c.frames is → (d : Decision) → EachOutcome (Follows ps start c.reward) (step_act ps a is c d)
    act_kept (Act.set x t span) m g d = one _ (sets_term g x t m.0.0.0 m.0.0.1)
    act_kept (Act.draw x qs span) m g d = draws g x qs m.0.0.0 (parts_fit x qs m.0.0.1)
    act_kept (Act.toss x f span) m g d = draws g x (toss_parts f (environment c.state)) m.0.0.0 (toss_fit (types_of (owner ps start c.frames)) x f (environment c.state) m.0.0.1.0 m.0.0.1.1 (env_typed (type_list (variables (owner ps start c.frames))) c.state st))
    act_kept (Act.any x u ty span) m g d = one _ (sets_fit g x ty (value_of d) m.0.0.0 m.0.0.1)
    act_kept (Act.reward f span) m g d = one _ (record { here = fit_c.here; frames = fit_c.frames; items = g; state = st }, ≤ᵛ-+ᵛ c.reward _ (nonnegative_value (types_of (owner ps start c.frames)) f _ Choices.stop m.0.0.1.0 (env_typed (type_list (variables (owner ps start c.frames))) c.state st)))
    act_kept (Act.ifs arms e span) m g d = one _ (fits _ (items_push c.frames (taken arms e (environment c.state)) is (each_taken (IsRuled ps (owner ps start c.frames)) arms e (environment c.state) (each_first (IsRuled ps (owner ps start c.frames)) (inside_arms arms) (in_order e) m.1) (each_second (IsRuled ps (owner ps start c.frames)) (inside_arms arms) (in_order e) m.1)) g) c.state st)
    act_kept (Act.pick u a b span) m g d = one _ (fits _ (items_push c.frames (cond (side_of d) a b) is (sides (side_of d)) g) c.state st)
      where
        sides : (t : Bool) → AreRuled ps (owner ps start c.frames) (cond t a b)
        sides true = each_first (IsRuled ps (owner ps start c.frames)) (in_order a) (in_order b) m.1
        sides false = each_second (IsRuled ps (owner ps start c.frames)) (in_order a) (in_order b) m.1
    act_kept (Act.check kind f span) m g d = one _ (fits is g c.state st)
    act_kept (Act.validate co span) m g d = one _ (fits is g c.state st)
    act_kept (Act.loop h b) m g d = tests h b m.1 g
    act_kept (Act.call xs n es span) m g d = one _ (calls g xs n es span m.0)

    back_kept : (fs : List Frame) → FramesFit ps start fs → Waits fs → IsState (owner ps start fs) c.state → EachOutcome (Follows ps start c.reward) (step_back ps is c fs)
    back_kept [] gf w h = absurd w
    back_kept (f ∷ fs) gf w h = one _ (record { here = fit_c.here; frames = gf.1; items = gf.0.items; state = resumed_typed (owner ps start fs) (procedure_at ps f.callee) f.targets c.state f.state gf.0.own gf.0.targets h gf.0.state }, ≤ᵛ_refl c.reward)

    pub item_kept : (i : Item) → ItemsFit ps start c.frames (i ∷ is) → (d : Decision) → EachOutcome (Follows ps start c.reward) (step_item ps i is c d)
    item_kept (Item.act a) g d = act_kept a g.0 g.1 d
    item_kept (Item.turn h b) g d = tests h b g.0 g.1
    item_kept (Item.out x ty) g d = one _ (sets_fit g.1 x ty (value_of d) g.0.0 g.0.1)
    item_kept Item.back g d = back_kept c.frames fit_c.frames g st

  -- ---- Weights

  item_one : (fs : List Frame) (i : Item) (is : List Item) → ItemsFit ps start fs (i ∷ is) → ItemWeighsOne i
  item_one fs (Item.act a) is g = g.0.0.1
  item_one fs (Item.turn h b) is g = tt
  item_one fs (Item.out x ty) is g = tt
  item_one fs Item.back is g = tt

  pub item_weighs : (c : Config) (i : Item) (is : List Item) → ItemsFit ps start c.frames (i ∷ is) → (d : Decision) → total_weight (step_item ps i is c d) ≡ oneʳ
  item_weighs c i is g d = steps_weigh_one ps i is c d (item_one c.frames i is g)

-- ---- The laws

pub beginnings_fit : BeginningsFit
beginnings_fit ps p rules s h = begins ps rules p s h

pub steps_keep_the_rules : StepsKeepTheRules
steps_keep_the_rules ps p rules c f d = go c.items f.items
  where
    go : (is : List Item) → ItemsFit ps p c.frames is → EachOutcome (Follows ps p c.reward) (step_items ps is c d)
    go [] g = tt
    go (i ∷ is) g = item_kept ps rules p is c f i g d

pub ruled_steps_weigh_one : RuledStepsWeighOne
ruled_steps_weigh_one ps p rules c f i is e d = subst (λ js. total_weight (step_items ps js c d) ≡ oneʳ) (sym e) (item_weighs ps rules p c i is (subst (ItemsFit ps p c.frames) e f.items) d)
