-- Calm acts before items with a known lower bound: the expected post of the terminated runs is at
-- least the forward meaning of the acts, for some choices.
use Rattle.std.proofs.Common.{◌≡◌, ◌≤◌, ◌+◌, ℕ, sym, ap, subst, ◌∙◌, arith, Bool, true, false, cond, List, [], ◌∷◌}
use Rattle.std.specs.Prelude.{set}
use Prim.Native.Nat.{zero, suc}
use Rattle.heyvl_num.specs.Rational.{Rational}
use Rattle.heyvl_num.specs.Value.{Value, ◌+ᵛ◌, ◌*ᵛ◌, ◌≤ᵛ◌}
use Rattle.heyvl_num.specs.Value.Value.{finite}
use Rattle.heyvl_num.specs.ValueOperators.{minᵛ}
use Rattle.heyvl_num.specs.WeightedSums.{weighted_sum}
use Rattle.heyvl_num.proofs.exported.Values.{+ᵛ_assoc, +ᵛ-zero, ≤ᵛ_trans, +ᵛ_mono, scale_mono}
use Rattle.heyvl_num.proofs.exported.Operators.{min_below_left, min_below_right}
use Rattle.heyvl_num.proofs.exported.WeightedSums.{weighted_sum-empty}
use Rattle.heylo_formula.specs.Choices.{Choices, left, right}
use Rattle.heylo_formula.specs.Formula.{Term}
use Rattle.heylo_formula.specs.Meaning.{term_value}
use Rattle.heylo_formula.specs.State.{Env, put, fit, has, environment}
use Rattle.heylo_formula.specs.Typing.{TermFits}
use Rattle.heylo_formula.specs.declared.values.Val.{Val}
use Rattle.heylo_formula.specs.declared.values.Val.TheVariants.{Truth}
use Rattle.heylo_formula.proofs.exported.States.{env_typed, fit_has}
use Rattle.heylo_formula.proofs.exported.TypedTerms.{term_typed}
use Rattle.heyvl_acts.specs.Acts.{Act, Acts, TypedProcedure, join, procedure_at, type_list, types_of, variables}
use Rattle.heyvl_acts.specs.Forward.{Post, part, parts, drawn, forward}
use Rattle.heyvl_acts.specs.Length.{length_of, length_of_act}
use Rattle.heyvl_acts.specs.Matching.{taken}
use Rattle.heyvl_acts.specs.Places.{in_order, inside, inside_arms}
use Rattle.heyvl_acts.specs.Rules.{Each, IsOwn}
use Rattle.heyvl_acts.specs.Tosses.{toss_parts}
use Rattle.heyvl_acts.specs.WellTypedActs.{PartsFit, DrawFits}
use Rattle.run_machine.specs.Bound.{IsState}
use Rattle.run_machine.specs.Configurations.{Item, Config, Outcomes, push}
use Rattle.run_machine.specs.Runs.{runs, spread}
use Rattle.run_machine.specs.Scheduler.{Tree, Forest, decision, under, first, rest}
use Rattle.run_machine.specs.Step.{Decision, value_of, side_of, sure, branch, branches, step_act}
use Rattle.run_machine.proofs.exported.Equations.{runs-next, push_join, worth-spread, worth-sure}
use Rattle.lower_goals.proofs.exported.Calm.{IsCalm, AreCalm}
use Rattle.lower_rules.proofs.CalmSteps.{some_length}
use Rattle.heyvl_acts.proofs.exported.Each.{each_first, each_second, each_join, each_taken}
use Rattle.heyvl_acts.proofs.exported.Lengths.{length_join, taken_length, pick_lengths}
use Rattle.heyvl_acts.proofs.exported.Tosses.{toss_fit, before_products}
use Rattle.heyvl_acts.proofs.exported.UpwardMeaning.{forward_join, taken_meaning}
use Rattle.lower_rules.proofs.OwnVariables.{own_set, own_put}

-- `x` is at least the value of `f` for some choices.
pub record AtLeast (x : Value) (f : Choices → Value) : Type 0 where
  pub choices : Choices
  pub least : f choices ≤ᵛ x

module _ (ps : List TypedProcedure) (p : ℕ) (g : Config → Value) where
  -- A configuration of the procedure that was started.
  abbrev pub at : List Item → List Val → Value → (ℕ → ℕ) → Config
  at is s v turns = record { procedure = p; items = is; frames = []; state = s; reward = v; turns = turns }

  abbrev pub State : List Val → Type 0
  State s = IsState (procedure_at ps p) s

  abbrev pub Fine : Acts → Type 0
  Fine acts = AreCalm (procedure_at ps p) acts

  abbrev pub Total : ℕ → Config → Tree → Value
  Total n c t = weighted_sum g (runs ps n c t)

  abbrev Spread : ℕ → Outcomes → Forest → Value
  Spread n cs ts = weighted_sum g (spread (runs ps n) cs ts)

  -- The sum from these items on, with these iterations so far, is at least the value of the post.
  abbrev pub Base : List Item → (ℕ → ℕ) → Post → ℕ → Type 0
  Base is turns k need = (n : ℕ) → need ≤ n → (s : List Val) → State s → (v : Value) (t : Tree) → AtLeast (Total n (at is s v turns) t) (k (environment s))

  module _ (is : List Item) (turns : ℕ → ℕ) (k : Post) (need : ℕ) (base : Base is turns k need) where
    abbrev Claim : ℕ → Type 0
    Claim n = (acts : Acts) → Fine acts → length_of acts + need ≤ n → (s : List Val) → State s → (v : Value) (t : Tree) → AtLeast (Total n (at (push acts is) s v turns) t) (forward acts k (environment s))

    module _ (n : ℕ) (claim : Claim n) where
      from_sure : (acts : Acts) → Fine acts → length_of acts + need ≤ n → (s : List Val) → State s → (v : Value) (ts : Forest) → AtLeast (Spread n (sure (at (push acts is) s v turns)) ts) (forward acts k (environment s))
      from_sure acts f l s st v ts = let m = claim acts f l s st v (first ts) in record { choices = m.choices; least = subst (λ x. forward acts k (environment s) m.choices ≤ᵛ x) (sym (worth-sure g (runs ps n) (at (push acts is) s v turns) ts)) m.least }

      from_block : (block acts : Acts) → Fine block → Fine acts → length_of block + (length_of acts + need) ≤ n → (s : List Val) → State s → (v : Value) (ts : Forest) → AtLeast (Spread n (sure (at (push block (push acts is)) s v turns)) ts) (forward block (forward acts k) (environment s))
      from_block block acts h f l s st v ts = subst (λ (j : Post). AtLeast (Spread n (sure (at (push block (push acts is)) s v turns)) ts) (j (environment s))) (forward_join block acts k) (subst (λ js. AtLeast (Spread n (sure (at js s v turns)) ts) (forward (join block acts) k (environment s))) (push_join block acts is) (from_sure (join block acts) (each_join (IsCalm (procedure_at ps p)) block acts h f) (let e = length_join block acts in omega (arith, l, e)) s st v ts))

      from_put : (x : ℕ) (w : Val) → IsOwn (procedure_at ps p) x → has (types_of (procedure_at ps p) x) w ≡ true → (acts : Acts) → Fine acts → length_of acts + need ≤ n → (s : List Val) → State s → (v : Value) (t : Tree) → AtLeast (Total n (at (push acts is) (set s x w) v turns) t) (forward acts k (put x w (environment s)))
      from_put x w o i acts f l s st v t = subst (λ (e : Env). AtLeast (Total n (at (push acts is) (set s x w) v turns) t) (forward acts k e)) (own_put (procedure_at ps p) x w s o st) (claim acts f l (set s x w) (own_set (procedure_at ps p) x w s o i st) v t)

      from_set : (x : ℕ) (w : Val) → IsOwn (procedure_at ps p) x → has (types_of (procedure_at ps p) x) w ≡ true → (acts : Acts) → Fine acts → length_of acts + need ≤ n → (s : List Val) → State s → (v : Value) (ts : Forest) → AtLeast (Spread n (sure (at (push acts is) (set s x w) v turns)) ts) (forward acts k (put x w (environment s)))
      from_set x w o i acts f l s st v ts = let m = from_put x w o i acts f l s st v (first ts) in record { choices = m.choices; least = subst (λ y. forward acts k (put x w (environment s)) m.choices ≤ᵛ y) (sym (worth-sure g (runs ps n) (at (push acts is) (set s x w) v turns) ts)) m.least }

      typed_term : (x : ℕ) (t : Term) (s : List Val) → State s → TermFits (types_of (procedure_at ps p)) (types_of (procedure_at ps p) x) t → has (types_of (procedure_at ps p) x) (term_value t (environment s)) ≡ true
      typed_term x t s st i = term_typed (types_of (procedure_at ps p)) (types_of (procedure_at ps p) x) t (environment s) i (env_typed (type_list (variables (procedure_at ps p))) s st)

      from_parts : (x : ℕ) (qs : List (Rational × Term)) → IsOwn (procedure_at ps p) x → PartsFit (types_of (procedure_at ps p)) x qs → (acts : Acts) → Fine acts → length_of acts + need ≤ n → (s : List Val) → State s → (v : Value) (ts : Forest) → (total : Post) (y : Value) → AtLeast y (total (environment s)) → AtLeast (y +ᵛ Spread n (branches (at (push acts is) s v turns) (push acts is) x qs) ts) (parts x qs (forward acts k) total (environment s))
      from_parts x [] o i acts f l s st v ts total y m = record { choices = m.choices; least = rw (weighted_sum-empty g, +ᵛ-zero y) m.least }
      from_parts x (q ∷ qs) o i acts f l s st v ts total y m =
          let w = term_value q.1 (environment s) in
          let c = at (push acts is) s v turns in
          let d = from_put x w o (typed_term x q.1 s st i.0.1) acts f l s st v (first ts) in
          let one = Total n (branch c (push acts is) x q).1 (first ts) in
          let r = from_parts x qs o i.1 acts f l s st v (rest ts) (λ e c. total e (left c) +ᵛ part x q (forward acts k) e (right c)) (y +ᵛ (finite q.0 *ᵛ one)) (record { choices = Choices.choose (Truth false) m.choices d.choices; least = +ᵛ_mono _ _ _ _ m.least (scale_mono q.0 _ _ i.0.0 d.least) }) in
          record {
            choices = r.choices;
            least = subst (λ a. parts x (q ∷ qs) (forward acts k) total (environment s) r.choices ≤ᵛ a) (+ᵛ_assoc y (finite q.0 *ᵛ one) (Spread n (branches c (push acts is) x qs) (rest ts)) ∙ ap (λ a. y +ᵛ a) (sym (worth-spread g (runs ps n) (branch c (push acts is) x q) (branches c (push acts is) x qs) ts))) r.least;
          }

      from_draw : (x : ℕ) (qs : List (Rational × Term)) → IsOwn (procedure_at ps p) x → DrawFits (types_of (procedure_at ps p)) x qs → (acts : Acts) → Fine acts → length_of acts + need ≤ n → (s : List Val) → State s → (v : Value) (ts : Forest) → AtLeast (Spread n (branches (at (push acts is) s v turns) (push acts is) x qs) ts) (drawn x qs (forward acts k) (environment s))
      from_draw x [] o i acts f l s st v ts = absurd i
      from_draw x (q ∷ qs) o i acts f l s st v ts =
          let w = term_value q.1 (environment s) in
          let c = at (push acts is) s v turns in
          let d = from_put x w o (typed_term x q.1 s st i.0.1) acts f l s st v (first ts) in
          let one = Total n (branch c (push acts is) x q).1 (first ts) in
          let r = from_parts x qs o i.1 acts f l s st v (rest ts) (part x q (forward acts k)) (finite q.0 *ᵛ one) (record { choices = d.choices; least = scale_mono q.0 _ _ i.0.0 d.least }) in
          record { choices = r.choices; least = subst (λ a. parts x qs (forward acts k) (part x q (forward acts k)) (environment s) r.choices ≤ᵛ a) (sym (worth-spread g (runs ps n) (branch c (push acts is) x q) (branches c (push acts is) x qs) ts)) r.least }

      from_pick : (side : Bool) (x y acts : Acts) → Fine x → Fine y → Fine acts → length_of (cond side x y) + (length_of acts + need) ≤ n → (s : List Val) → State s → (v : Value) (ts : Forest) → AtLeast (Spread n (sure (at (push (cond side x y) (push acts is)) s v turns)) ts) (λ c. minᵛ (forward x (forward acts k) (environment s) (left c)) (forward y (forward acts k) (environment s) (right c)))
      from_pick true x y acts h i f l s st v ts = let m = from_block x acts h f l s st v ts in record { choices = Choices.choose (Truth false) m.choices Choices.stop; least = ≤ᵛ_trans _ _ _ (min_below_left _ _) m.least }
      from_pick false x y acts h i f l s st v ts = let m = from_block y acts i f l s st v ts in record { choices = Choices.choose (Truth false) Choices.stop m.choices; least = ≤ᵛ_trans _ _ _ (min_below_right _ _) m.least }

      from_act : (a : Act) → IsCalm (procedure_at ps p) a → Each (IsCalm (procedure_at ps p)) (inside a) → (acts : Acts) → Fine acts → length_of_act a + (length_of acts + need) ≤ suc n → (s : List Val) → State s → (v : Value) (d : Decision) (ts : Forest) → AtLeast (Spread n (step_act ps a (push acts is) (at (push (Acts.next a acts) is) s v turns) d) ts) (forward (Acts.next a acts) k (environment s))
      from_act (Act.set x t span) h i acts f l s st v d ts = let m = from_set x (term_value t (environment s)) h.0 (typed_term x t s st h.1) acts f (omega (arith, l)) s st v ts in record { choices = m.choices; least = m.least }
      from_act (Act.draw x qs span) h i acts f l s st v d ts = let m = from_draw x qs h.0 h.1.0 acts f (omega (arith, l)) s st v ts in record { choices = m.choices; least = m.least }
      from_act (Act.toss x w span) h i acts f l s st v d ts = let m = from_draw x (toss_parts w (environment s)) h.0 (toss_fit (types_of (procedure_at ps p)) x w (environment s) h.1.0 h.1.1 (env_typed (type_list (variables (procedure_at ps p))) s st)) acts f (omega (arith, l)) s st v ts in record { choices = before_products m.choices; least = m.least }
      from_act (Act.any x up ty span) h i acts f l s st v d ts = let m = from_set x (fit ty (value_of d)) h.0 (subst (λ u. has u (fit ty (value_of d)) ≡ true) (sym h.1) (fit_has ty (value_of d))) acts f (omega (arith, l)) s st v ts in record { choices = Choices.choose (value_of d) m.choices Choices.stop; least = m.least }
      from_act (Act.reward w span) h i acts f l s st v d ts = absurd h
      from_act (Act.ifs arms e span) h i acts f l s st v d ts =
          let block = taken arms e (environment s) in
          let m = from_block block acts (each_taken (IsCalm (procedure_at ps p)) arms e (environment s) (each_first (IsCalm (procedure_at ps p)) (inside_arms arms) (in_order e) i) (each_second (IsCalm (procedure_at ps p)) (inside_arms arms) (in_order e) i)) f (let b = taken_length arms e (environment s) in omega (arith, l, b)) s st v ts in
          let r = taken_meaning arms e (forward acts k) (environment s) m.choices in
          record { choices = r.choices; least = subst (λ y. y ≤ᵛ Spread n (sure (at (push block (push acts is)) s v turns)) ts) (sym r.reached) m.least }
      from_act (Act.pick up x y span) h i acts f l s st v d ts = subst (λ (b : Bool). AtLeast (Spread n (step_act ps (Act.pick up x y span) (push acts is) (at (push (Acts.next (Act.pick up x y span) acts) is) s v turns) d) ts) (forward (Acts.next (Act.pick b x y span) acts) k (environment s))) (sym h) (let m = from_pick (side_of d) x y acts (each_first (IsCalm (procedure_at ps p)) (in_order x) (in_order y) i) (each_second (IsCalm (procedure_at ps p)) (in_order x) (in_order y) i) f (let b = pick_lengths x y (side_of d) in omega (arith, l, b)) s st v ts in record { choices = m.choices; least = m.least })
      from_act (Act.check kind w span) h i acts f l s st v d ts = absurd h
      from_act (Act.validate co span) h i acts f l s st v d ts = absurd h
      from_act (Act.loop q c) h i acts f l s st v d ts = absurd h
      from_act (Act.call xs q es span) h i acts f l s st v d ts = absurd h

    pub claims : (n : ℕ) → Claim n
    claims n Acts.done f l s st v t = base n (omega (arith, l)) s st v t
    claims zero (Acts.next a acts) f l s st v t = absurd (some_length a (length_of acts + need) (omega (arith, l)))
    claims (suc n) (Acts.next a acts) f l s st v t = let m = from_act n (claims n) a f.0 (each_first (IsCalm (procedure_at ps p)) (inside a) (in_order acts) f.1) acts (each_second (IsCalm (procedure_at ps p)) (inside a) (in_order acts) f.1) (omega (arith, l)) s st v (decision t) (under t) in record { choices = m.choices; least = subst (λ cs. forward (Acts.next a acts) k (environment s) m.choices ≤ᵛ weighted_sum g cs) (sym (runs-next ps n (at (push (Acts.next a acts) is) s v turns) t)) m.least }
