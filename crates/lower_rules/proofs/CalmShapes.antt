-- A step of a calm act leads to fewer calm acts before the same items, with the same iterations.
-- Two lists of items are also compared side by side.
use Rattle.std.proofs.Common.{◌≡◌, ◌≤◌, ◌+◌, ℕ, refl, sym, ap, ap₂, subst, ◌∙◌, arith, Bool, true, false, cond, List, [], ◌∷◌}
use Rattle.std.specs.Prelude.{set}
use Prim.Native.Nat.{suc}
use Rattle.heyvl_num.specs.Rational.{Rational, zeroʳ, oneʳ, ◌≤ʳ◌}
use Rattle.heyvl_num.specs.Value.{Value, zeroᵛ, ◌+ᵛ◌, ◌*ᵛ◌}
use Rattle.heyvl_num.proofs.exported.Values.{zero-*ᵛ, weights-*}
use Rattle.heyvl_num.specs.Value.Value.{finite}
use Rattle.heyvl_num.specs.WeightedSums.{weighted_sum, total_weight}
use Rattle.heyvl_num.proofs.exported.Rationals.{zero-≤ʳ-one}
use Rattle.heyvl_num.proofs.exported.WeightedSums.{weighted_sum-empty, total_weight-empty, total_weight-cons}
use Rattle.heylo_formula.specs.Formula.{Term}
use Rattle.heylo_formula.specs.Meaning.{term_value}
use Rattle.heylo_formula.specs.State.{fit, has, environment}
use Rattle.heylo_formula.specs.Typing.{TermFits}
use Rattle.heylo_formula.specs.declared.values.Val.{Val}
use Rattle.heylo_formula.proofs.exported.States.{env_typed, fit_has}
use Rattle.heylo_formula.proofs.exported.TypedTerms.{term_typed}
use Rattle.heyvl_acts.specs.Acts.{Act, Acts, TypedProcedure, join, procedure_at, type_list, types_of, variables}
use Rattle.heyvl_acts.specs.Length.{length_of, length_of_act}
use Rattle.heyvl_acts.specs.Matching.{taken}
use Rattle.heyvl_acts.specs.Places.{in_order, inside, inside_arms}
use Rattle.heyvl_acts.specs.Rules.{Each, IsOwn, WeighsOne}
use Rattle.heyvl_acts.specs.Tosses.{toss_parts}
use Rattle.heyvl_acts.specs.WellTypedActs.{PartsFit, DrawFits}
use Rattle.run_machine.specs.Bound.{IsState}
use Rattle.run_machine.specs.Configurations.{Item, Config, Outcomes, push}
use Rattle.run_machine.specs.Runs.{Runner, spread}
use Rattle.run_machine.specs.Scheduler.{Tree, Forest, first, rest}
use Rattle.run_machine.specs.Step.{Decision, value_of, side_of, sure, branches, step_act}
use Rattle.run_machine.proofs.exported.Equations.{push_join, worth-spread}
use Rattle.run_machine.proofs.exported.StepWeights.{steps_weigh_one}
use Rattle.run_laws.specs.EachOutcome.{EachOutcome}
use Rattle.run_laws.proofs.exported.SideBySide.{Both}
use Rattle.lower_goals.proofs.exported.Calm.{IsCalm, AreCalm}
use Rattle.heyvl_acts.proofs.exported.Each.{each_first, each_second, each_join, each_taken}
use Rattle.heyvl_acts.proofs.exported.Lengths.{length_join, taken_length, pick_lengths}
use Rattle.heyvl_acts.proofs.exported.Tosses.{toss_fit}
use Rattle.run_laws.proofs.exported.Outcomes.{weights_held}
use Rattle.lower_rules.proofs.OwnVariables.{own_set}

module _ (ps : List TypedProcedure) (p : ℕ) where
  abbrev pub before : Acts → List Item → List Val → Value → (ℕ → ℕ) → Config
  before acts is s v turns = record { procedure = p; items = push acts is; frames = []; state = s; reward = v; turns = turns }

  abbrev q : TypedProcedure
  q = procedure_at ps p

  -- Calm acts before two lists of items.
  pub record ArePair (k : ℕ) (is js : List Item) (turns : ℕ → ℕ) (c e : Config) : Type 0 where
    pub acts : Acts
    pub calm : AreCalm (procedure_at ps p) acts
    pub few : length_of acts ≤ k
    pub state : List Val
    pub typed : IsState (procedure_at ps p) state
    pub reward : Value
    pub first : c ≡ before acts is state reward turns
    pub second : e ≡ before acts js state reward turns

  module _ (k : ℕ) (is js : List Item) (turns : ℕ → ℕ) where
    pair_at : (acts : Acts) → AreCalm (procedure_at ps p) acts → length_of acts ≤ k → (s : List Val) → IsState (procedure_at ps p) s → (v : Value) → ArePair k is js turns (before acts is s v turns) (before acts js s v turns)
    pair_at acts f l s st v = record { acts = acts; calm = f; few = l; state = s; typed = st; reward = v; first = refl; second = refl }

    sure_pair : (c e : Config) → ArePair k is js turns c e → Both (ArePair k is js turns) (sure c) (sure e)
    sure_pair c e h = ((refl, h), tt)

    block_pair : (block acts : Acts) → AreCalm (procedure_at ps p) block → AreCalm (procedure_at ps p) acts → length_of block + length_of acts ≤ k → (s : List Val) → IsState (procedure_at ps p) s → (v : Value) → ArePair k is js turns (before block (push acts is) s v turns) (before block (push acts js) s v turns)
    block_pair block acts b f l s st v = record { acts = join block acts; calm = each_join (IsCalm (procedure_at ps p)) block acts b f; few = (let e = length_join block acts in omega (arith, l, e)); state = s; typed = st; reward = v; first = ap (λ (l : List Item). record { procedure = p; items = l; frames = []; state = s; reward = v; turns = turns }) (sym (push_join block acts is)); second = ap (λ (l : List Item). record { procedure = p; items = l; frames = []; state = s; reward = v; turns = turns }) (sym (push_join block acts js)) }

    term_set : (x : ℕ) (t : Term) (s : List Val) → IsOwn (procedure_at ps p) x → TermFits (types_of (procedure_at ps p)) (types_of (procedure_at ps p) x) t → IsState (procedure_at ps p) s → IsState (procedure_at ps p) (set s x (term_value t (environment s)))
    term_set x t s o f st = own_set (procedure_at ps p) x _ s o (term_typed (types_of (procedure_at ps p)) (types_of (procedure_at ps p) x) t (environment s) f (env_typed (type_list (variables (procedure_at ps p))) s st)) st

    parts_pair : (x : ℕ) (qs : List (Rational × Term)) → IsOwn (procedure_at ps p) x → PartsFit (types_of (procedure_at ps p)) x qs → (acts top : Acts) → AreCalm (procedure_at ps p) acts → length_of acts ≤ k → (s : List Val) → IsState (procedure_at ps p) s → (v : Value) → Both (ArePair k is js turns) (branches (before top is s v turns) (push acts is) x qs) (branches (before top js s v turns) (push acts js) x qs)
    parts_pair x [] o i acts top f l s st v = tt
    parts_pair x (r ∷ qs) o i acts top f l s st v = ((refl, pair_at acts f l _ (term_set x r.1 s o i.0.1 st) v), parts_pair x qs o i.1 acts top f l s st v)

    draw_pair : (x : ℕ) (qs : List (Rational × Term)) → IsOwn (procedure_at ps p) x → DrawFits (types_of (procedure_at ps p)) x qs → (acts top : Acts) → AreCalm (procedure_at ps p) acts → length_of acts ≤ k → (s : List Val) → IsState (procedure_at ps p) s → (v : Value) → Both (ArePair k is js turns) (branches (before top is s v turns) (push acts is) x qs) (branches (before top js s v turns) (push acts js) x qs)
    draw_pair x [] o i acts top f l s st v = absurd i
    draw_pair x (r ∷ qs) o i acts top f l s st v = parts_pair x (r ∷ qs) o i acts top f l s st v

    pub step_pair : (a : Act) → IsCalm (procedure_at ps p) a → Each (IsCalm (procedure_at ps p)) (inside a) → (acts : Acts) → AreCalm (procedure_at ps p) acts → length_of_act a + length_of acts ≤ suc k → (s : List Val) → IsState (procedure_at ps p) s → (v : Value) (d : Decision) → Both (ArePair k is js turns) (step_act ps a (push acts is) (before (Acts.next a acts) is s v turns) d) (step_act ps a (push acts js) (before (Acts.next a acts) js s v turns) d)
    step_pair (Act.set x t span) h i acts f l s st v d = sure_pair _ _ (pair_at acts f (omega (arith, l)) _ (term_set x t s h.0 h.1 st) v)
    step_pair (Act.draw x qs span) h i acts f l s st v d = draw_pair x qs h.0 h.1.0 acts (Acts.next (Act.draw x qs span) acts) f (omega (arith, l)) s st v
    step_pair (Act.toss x w span) h i acts f l s st v d = draw_pair x (toss_parts w (environment s)) h.0 (toss_fit (types_of (procedure_at ps p)) x w (environment s) h.1.0 h.1.1 (env_typed (type_list (variables (procedure_at ps p))) s st)) acts (Acts.next (Act.toss x w span) acts) f (omega (arith, l)) s st v
    step_pair (Act.any x up ty span) h i acts f l s st v d = sure_pair _ _ (pair_at acts f (omega (arith, l)) _ (own_set (procedure_at ps p) x (fit ty (value_of d)) s h.0 (subst (λ u. has u (fit ty (value_of d)) ≡ true) (sym h.1) (fit_has ty (value_of d))) st) v)
    step_pair (Act.reward w span) h i acts f l s st v d = absurd h
    step_pair (Act.ifs arms e span) h i acts f l s st v d = sure_pair _ _ (block_pair (taken arms e (environment s)) acts (each_taken (IsCalm (procedure_at ps p)) arms e (environment s) (each_first (IsCalm (procedure_at ps p)) (inside_arms arms) (in_order e) i) (each_second (IsCalm (procedure_at ps p)) (inside_arms arms) (in_order e) i)) f (let b = taken_length arms e (environment s) in omega (arith, l, b)) s st v)
    step_pair (Act.pick up x y span) h i acts f l s st v d = sure_pair _ _ (block_pair (cond (side_of d) x y) acts (sides (side_of d)) f (let b = pick_lengths x y (side_of d) in omega (arith, l, b)) s st v)
      where
        sides : (b : Bool) → AreCalm (procedure_at ps p) (cond b x y)
        sides true = each_first (IsCalm (procedure_at ps p)) (in_order x) (in_order y) i
        sides false = each_second (IsCalm (procedure_at ps p)) (in_order x) (in_order y) i
    step_pair (Act.check kind w span) h i acts f l s st v d = absurd h
    step_pair (Act.validate co span) h i acts f l s st v d = absurd h
    step_pair (Act.loop r b) h i acts f l s st v d = absurd h
    step_pair (Act.call xs r es span) h i acts f l s st v d = absurd h

  -- ---- The weights of a step

  parts_held : (x : ℕ) (qs : List (Rational × Term)) → PartsFit (types_of (procedure_at ps p)) x qs → (c : Config) (is : List Item) → Each (λ (y : Rational × Config). zeroʳ ≤ʳ y.0) (branches c is x qs)
  parts_held x [] i c is = tt
  parts_held x (r ∷ qs) i c is = (i.0.0, parts_held x qs i.1 c is)

  draw_held : (x : ℕ) (qs : List (Rational × Term)) → DrawFits (types_of (procedure_at ps p)) x qs → (c : Config) (is : List Item) → Each (λ (y : Rational × Config). zeroʳ ≤ʳ y.0) (branches c is x qs)
  draw_held x [] i c is = tt
  draw_held x (r ∷ qs) i c is = parts_held x (r ∷ qs) i c is

  pub act_held : (a : Act) → IsCalm (procedure_at ps p) a → (is : List Item) (c : Config) → IsState (procedure_at ps p) c.state → (d : Decision) → Each (λ (y : Rational × Config). zeroʳ ≤ʳ y.0) (step_act ps a is c d)
  act_held (Act.set x t span) h is c st d = (zero-≤ʳ-one, tt)
  act_held (Act.draw x qs span) h is c st d = draw_held x qs h.1.0 c is
  act_held (Act.toss x w span) h is c st d = parts_held x (toss_parts w (environment c.state)) (toss_fit (types_of (procedure_at ps p)) x w (environment c.state) h.1.0 h.1.1 (env_typed (type_list (variables (procedure_at ps p))) c.state st)) c is
  act_held (Act.any x up ty span) h is c st d = (zero-≤ʳ-one, tt)
  act_held (Act.reward w span) h is c st d = absurd h
  act_held (Act.ifs arms e span) h is c st d = (zero-≤ʳ-one, tt)
  act_held (Act.pick up x y span) h is c st d = (zero-≤ʳ-one, tt)
  act_held (Act.check kind w span) h is c st d = absurd h
  act_held (Act.validate co span) h is c st d = absurd h
  act_held (Act.loop r b) h is c st d = absurd h
  act_held (Act.call xs r es span) h is c st d = absurd h

  weighs_one : (a : Act) → IsCalm (procedure_at ps p) a → WeighsOne a
  weighs_one (Act.set x t span) h = tt
  weighs_one (Act.draw x qs span) h = h.1.1
  weighs_one (Act.toss x w span) h = tt
  weighs_one (Act.any x up ty span) h = tt
  weighs_one (Act.reward w span) h = tt
  weighs_one (Act.ifs arms e span) h = tt
  weighs_one (Act.pick up x y span) h = tt
  weighs_one (Act.check kind w span) h = tt
  weighs_one (Act.validate co span) h = tt
  weighs_one (Act.loop r b) h = tt
  weighs_one (Act.call xs r es span) h = tt

  pub act_weighs : (a : Act) → IsCalm (procedure_at ps p) a → (is : List Item) (c : Config) (d : Decision) → total_weight (step_act ps a is c d) ≡ oneʳ
  act_weighs a h is c d = steps_weigh_one ps (Item.act a) is c d (weighs_one a h)

pub both_all : (R : Config → Config → Type 0) (P : Config → Type 0) → ((c e : Config) → R c e → P c) → (xs ys : Outcomes) → Each (λ (y : Rational × Config). zeroʳ ≤ʳ y.0) xs → Both R xs ys → EachOutcome P xs
both_all R P h [] [] w b = tt
both_all R P h [] (y ∷ ys) w b = absurd b
both_all R P h (x ∷ xs) [] w b = absurd b
both_all R P h (x ∷ xs) (y ∷ ys) w b = ((w.0, h x.1 y.1 b.0.1), both_all R P h xs ys w.1 b.1)

-- ---- Calm acts before one list of items

-- Calm acts before these items.
pub record IsAt (ps : List TypedProcedure) (p k : ℕ) (is : List Item) (turns : ℕ → ℕ) (c : Config) : Type 0 where
  pub acts : Acts
  pub calm : AreCalm (procedure_at ps p) acts
  pub few : length_of acts ≤ k
  pub state : List Val
  pub typed : IsState (procedure_at ps p) state
  pub reward : Value
  pub same : c ≡ before ps p acts is state reward turns

pub step_at : (ps : List TypedProcedure) (p k : ℕ) (is : List Item) (turns : ℕ → ℕ) (a : Act) → IsCalm (procedure_at ps p) a → Each (IsCalm (procedure_at ps p)) (inside a) → (acts : Acts) → AreCalm (procedure_at ps p) acts → length_of_act a + length_of acts ≤ suc k → (s : List Val) → IsState (procedure_at ps p) s → (v : Value) (d : Decision) → EachOutcome (IsAt ps p k is turns) (step_act ps a (push acts is) (before ps p (Acts.next a acts) is s v turns) d)
step_at ps p k is turns a h i acts f l s st v d = both_all (ArePair ps p k is is turns) (IsAt ps p k is turns) (λ c e r. record { acts = r.acts; calm = r.calm; few = r.few; state = r.state; typed = r.typed; reward = r.reward; same = r.first }) _ _ (act_held ps p a h (push acts is) (before ps p (Acts.next a acts) is s v turns) st d) (step_pair ps p k is is turns a h i acts f l s st v d)

-- ---- Sums of a value that all runs have

no_weight : (v : Value) → zeroᵛ ≡ finite zeroʳ *ᵛ v
unfolding zeroᵛ
no_weight v = sym (zero-*ᵛ v)

pub spread_const : (f : Config → Value) (v : Value) (P : Config → Type 0) (r : Runner) → ((c : Config) (t : Tree) → P c → weighted_sum f (r c t) ≡ v) → (xs : Outcomes) (ts : Forest) → EachOutcome P xs → weighted_sum f (spread r xs ts) ≡ finite (total_weight xs) *ᵛ v
spread_const f v P r h [] ts a = weighted_sum-empty f ∙ (no_weight v ∙ ap (λ w. finite w *ᵛ v) (sym (total_weight-empty Config)))
spread_const f v P r h (x ∷ xs) ts a = worth-spread f r x xs ts ∙ (ap₂ (λ y z. (finite x.0 *ᵛ y) +ᵛ z) (h x.1 (first ts) a.0.1) (spread_const f v P r h xs (rest ts) a.1) ∙ (sym (weights-* x.0 (total_weight xs) v a.0.0 (weights_held P xs a.1)) ∙ ap (λ w. finite w *ᵛ v) (sym (total_weight-cons x.0 x.1 xs))))
