-- Calm acts before items with a known upper bound: the sum over the runs is at most the forward
-- meaning of the acts, taken upward, for some choices.
use Rattle.std.proofs.Common.{◌≡◌, ◌≤◌, ◌+◌, ℕ, sym, ap, subst, ◌∙◌, arith, Bool, true, false, cond, List, [], ◌∷◌}
use Rattle.std.specs.Prelude.{set}
use Prim.Native.Nat.{zero, suc}
use Rattle.heyvl_num.specs.Rational.{Rational}
use Rattle.heyvl_num.specs.Value.{Value, zeroᵛ, ◌+ᵛ◌, ◌*ᵛ◌, ◌≤ᵛ◌}
use Rattle.heyvl_num.specs.Value.Value.{finite}
use Rattle.heyvl_num.specs.ValueOperators.{maxᵛ}
use Rattle.heyvl_num.specs.WeightedSums.{weighted_sum}
use Rattle.heyvl_num.proofs.exported.Values.{+ᵛ_assoc, +ᵛ-zero, ≤ᵛ_trans, +ᵛ_mono, scale_mono}
use Rattle.heyvl_num.proofs.exported.Operators.{max_above_left, max_above_right}
use Rattle.heyvl_num.proofs.exported.WeightedSums.{weighted_sum-empty}
use Rattle.heylo_formula.specs.Choices.{Choices, left, right}
use Rattle.heylo_formula.specs.Formula.{Term}
use Rattle.heylo_formula.specs.Meaning.{term_value}
use Rattle.heylo_formula.specs.State.{Env, put, fit, has, environment}
use Rattle.heylo_formula.specs.Typing.{TermFits}
use Rattle.heylo_formula.specs.declared.values.Val.{Val}
use Rattle.heylo_formula.specs.declared.values.Val.TheVariants.{Truth}
use Rattle.heylo_formula.proofs.exported.States.{env_typed, fit_has}
use Rattle.heylo_formula.proofs.exported.TypedTerms.{term_typed}
use Rattle.heyvl_acts.specs.Acts.{Act, Acts, TypedProcedure, join, procedure_at, type_list, types_of, variables}
use Rattle.heyvl_acts.specs.Forward.{Post, part, parts, drawn, forward}
use Rattle.heyvl_acts.specs.Length.{length_of, length_of_act}
use Rattle.heyvl_acts.specs.Matching.{taken}
use Rattle.heyvl_acts.specs.Places.{in_order, inside, inside_arms}
use Rattle.heyvl_acts.specs.Rules.{Each, IsOwn}
use Rattle.heyvl_acts.specs.Tosses.{toss_parts}
use Rattle.heyvl_acts.specs.WellTypedActs.{PartsFit, DrawFits}
use Rattle.run_machine.specs.Bound.{IsState}
use Rattle.run_machine.specs.Configurations.{Item, Config, Outcomes, push}
use Rattle.run_machine.specs.Runs.{runs, spread}
use Rattle.run_machine.specs.Scheduler.{Tree, Forest, decision, under, first, rest}
use Rattle.run_machine.specs.Step.{Decision, value_of, side_of, sure, branch, branches, step_act}
use Rattle.run_machine.proofs.exported.Equations.{runs-next, push_join, worth-spread, worth-sure}
use Rattle.lower_goals.proofs.exported.Calm.{IsCalm, AreCalm}
use Rattle.lower_rules.proofs.CalmSteps.{some_length}
use Rattle.heyvl_acts.specs.Upward.{upward}
use Rattle.heyvl_acts.proofs.exported.UpwardMeaning.{joined_meaning, raised_meaning}
use Rattle.heyvl_acts.proofs.exported.Each.{each_first, each_second, each_join, each_taken}
use Rattle.heyvl_acts.proofs.exported.Lengths.{length_join, taken_length, pick_lengths}
use Rattle.heyvl_acts.proofs.exported.Tosses.{toss_fit, before_products}
use Rattle.lower_rules.proofs.OwnVariables.{own_set, own_put}

-- `x` is at most the value of `f` for some choices.
pub record AtMost (x : Value) (f : Choices → Value) : Type 0 where
  pub choices : Choices
  pub most : x ≤ᵛ f choices

module _ (ps : List TypedProcedure) (p : ℕ) (g : Config → Value) where
  -- A configuration of the procedure that was started.
  abbrev pub at : List Item → List Val → (ℕ → ℕ) → Config
  at is s turns = record { procedure = p; items = is; frames = []; state = s; reward = zeroᵛ; turns = turns }

  abbrev pub State : List Val → Type 0
  State s = IsState (procedure_at ps p) s

  abbrev pub Fine : Acts → Type 0
  Fine acts = AreCalm (procedure_at ps p) acts

  abbrev pub Total : ℕ → Config → Tree → Value
  Total n c t = weighted_sum g (runs ps n c t)

  abbrev Spread : ℕ → Outcomes → Forest → Value
  Spread n cs ts = weighted_sum g (spread (runs ps n) cs ts)

  -- The sum from these items on, with these iterations so far, is at most the value of the post.
  abbrev pub Base : List Item → (ℕ → ℕ) → Post → ℕ → Type 0
  Base is turns k need = (n : ℕ) → need ≤ n → (s : List Val) → State s → (t : Tree) → AtMost (Total n (at is s turns) t) (k (environment s))

  module _ (is : List Item) (turns : ℕ → ℕ) (k : Post) (need : ℕ) (base : Base is turns k need) where
    abbrev Claim : ℕ → Type 0
    Claim n = (acts : Acts) → Fine acts → length_of acts + need ≤ n → (s : List Val) → State s → (t : Tree) → AtMost (Total n (at (push acts is) s turns) t) (forward (upward acts) k (environment s))

    module _ (n : ℕ) (claim : Claim n) where
      from_sure : (acts : Acts) → Fine acts → length_of acts + need ≤ n → (s : List Val) → State s → (ts : Forest) → AtMost (Spread n (sure (at (push acts is) s turns)) ts) (forward (upward acts) k (environment s))
      from_sure acts f l s st ts = let m = claim acts f l s st (first ts) in record { choices = m.choices; most = subst (λ x. x ≤ᵛ forward (upward acts) k (environment s) m.choices) (sym (worth-sure g (runs ps n) (at (push acts is) s turns) ts)) m.most }

      from_block : (block acts : Acts) → Fine block → Fine acts → length_of block + (length_of acts + need) ≤ n → (s : List Val) → State s → (ts : Forest) → AtMost (Spread n (sure (at (push block (push acts is)) s turns)) ts) (forward (upward block) (forward (upward acts) k) (environment s))
      from_block block acts h f l s st ts = subst (λ (j : Post). AtMost (Spread n (sure (at (push block (push acts is)) s turns)) ts) (j (environment s))) (joined_meaning block acts k) (subst (λ js. AtMost (Spread n (sure (at js s turns)) ts) (forward (upward (join block acts)) k (environment s))) (push_join block acts is) (from_sure (join block acts) (each_join (IsCalm (procedure_at ps p)) block acts h f) (let e = length_join block acts in omega (arith, l, e)) s st ts))

      from_put : (x : ℕ) (w : Val) → IsOwn (procedure_at ps p) x → has (types_of (procedure_at ps p) x) w ≡ true → (acts : Acts) → Fine acts → length_of acts + need ≤ n → (s : List Val) → State s → (t : Tree) → AtMost (Total n (at (push acts is) (set s x w) turns) t) (forward (upward acts) k (put x w (environment s)))
      from_put x w o i acts f l s st t = subst (λ (e : Env). AtMost (Total n (at (push acts is) (set s x w) turns) t) (forward (upward acts) k e)) (own_put (procedure_at ps p) x w s o st) (claim acts f l (set s x w) (own_set (procedure_at ps p) x w s o i st) t)

      from_set : (x : ℕ) (w : Val) → IsOwn (procedure_at ps p) x → has (types_of (procedure_at ps p) x) w ≡ true → (acts : Acts) → Fine acts → length_of acts + need ≤ n → (s : List Val) → State s → (ts : Forest) → AtMost (Spread n (sure (at (push acts is) (set s x w) turns)) ts) (forward (upward acts) k (put x w (environment s)))
      from_set x w o i acts f l s st ts = let m = from_put x w o i acts f l s st (first ts) in record { choices = m.choices; most = subst (λ y. y ≤ᵛ forward (upward acts) k (put x w (environment s)) m.choices) (sym (worth-sure g (runs ps n) (at (push acts is) (set s x w) turns) ts)) m.most }

      typed_term : (x : ℕ) (t : Term) (s : List Val) → State s → TermFits (types_of (procedure_at ps p)) (types_of (procedure_at ps p) x) t → has (types_of (procedure_at ps p) x) (term_value t (environment s)) ≡ true
      typed_term x t s st i = term_typed (types_of (procedure_at ps p)) (types_of (procedure_at ps p) x) t (environment s) i (env_typed (type_list (variables (procedure_at ps p))) s st)

      from_parts : (x : ℕ) (qs : List (Rational × Term)) → IsOwn (procedure_at ps p) x → PartsFit (types_of (procedure_at ps p)) x qs → (acts : Acts) → Fine acts → length_of acts + need ≤ n → (s : List Val) → State s → (ts : Forest) → (total : Post) (y : Value) → AtMost y (total (environment s)) → AtMost (y +ᵛ Spread n (branches (at (push acts is) s turns) (push acts is) x qs) ts) (parts x qs (forward (upward acts) k) total (environment s))
      from_parts x [] o i acts f l s st ts total y m = record { choices = m.choices; most = rw (weighted_sum-empty g, +ᵛ-zero y) m.most }
      from_parts x (q ∷ qs) o i acts f l s st ts total y m =
          let w = term_value q.1 (environment s) in
          let c = at (push acts is) s turns in
          let d = from_put x w o (typed_term x q.1 s st i.0.1) acts f l s st (first ts) in
          let one = Total n (branch c (push acts is) x q).1 (first ts) in
          let r = from_parts x qs o i.1 acts f l s st (rest ts) (λ e c. total e (left c) +ᵛ part x q (forward (upward acts) k) e (right c)) (y +ᵛ (finite q.0 *ᵛ one)) (record { choices = Choices.choose (Truth false) m.choices d.choices; most = +ᵛ_mono _ _ _ _ m.most (scale_mono q.0 _ _ i.0.0 d.most) }) in
          record {
            choices = r.choices;
            most = subst (λ a. a ≤ᵛ parts x (q ∷ qs) (forward (upward acts) k) total (environment s) r.choices) (+ᵛ_assoc y (finite q.0 *ᵛ one) (Spread n (branches c (push acts is) x qs) (rest ts)) ∙ ap (λ a. y +ᵛ a) (sym (worth-spread g (runs ps n) (branch c (push acts is) x q) (branches c (push acts is) x qs) ts))) r.most;
          }

      from_draw : (x : ℕ) (qs : List (Rational × Term)) → IsOwn (procedure_at ps p) x → DrawFits (types_of (procedure_at ps p)) x qs → (acts : Acts) → Fine acts → length_of acts + need ≤ n → (s : List Val) → State s → (ts : Forest) → AtMost (Spread n (branches (at (push acts is) s turns) (push acts is) x qs) ts) (drawn x qs (forward (upward acts) k) (environment s))
      from_draw x [] o i acts f l s st ts = absurd i
      from_draw x (q ∷ qs) o i acts f l s st ts =
          let w = term_value q.1 (environment s) in
          let c = at (push acts is) s turns in
          let d = from_put x w o (typed_term x q.1 s st i.0.1) acts f l s st (first ts) in
          let one = Total n (branch c (push acts is) x q).1 (first ts) in
          let r = from_parts x qs o i.1 acts f l s st (rest ts) (part x q (forward (upward acts) k)) (finite q.0 *ᵛ one) (record { choices = d.choices; most = scale_mono q.0 _ _ i.0.0 d.most }) in
          record { choices = r.choices; most = subst (λ a. a ≤ᵛ parts x qs (forward (upward acts) k) (part x q (forward (upward acts) k)) (environment s) r.choices) (sym (worth-spread g (runs ps n) (branch c (push acts is) x q) (branches c (push acts is) x qs) ts)) r.most }

      from_pick : (side : Bool) (x y acts : Acts) → Fine x → Fine y → Fine acts → length_of (cond side x y) + (length_of acts + need) ≤ n → (s : List Val) → State s → (ts : Forest) → AtMost (Spread n (sure (at (push (cond side x y) (push acts is)) s turns)) ts) (λ c. maxᵛ (forward (upward x) (forward (upward acts) k) (environment s) (left c)) (forward (upward y) (forward (upward acts) k) (environment s) (right c)))
      from_pick true x y acts h i f l s st ts = let m = from_block x acts h f l s st ts in record { choices = Choices.choose (Truth false) m.choices Choices.stop; most = ≤ᵛ_trans _ _ _ m.most (max_above_left _ _) }
      from_pick false x y acts h i f l s st ts = let m = from_block y acts i f l s st ts in record { choices = Choices.choose (Truth false) Choices.stop m.choices; most = ≤ᵛ_trans _ _ _ m.most (max_above_right _ _) }

      from_act : (a : Act) → IsCalm (procedure_at ps p) a → Each (IsCalm (procedure_at ps p)) (inside a) → (acts : Acts) → Fine acts → length_of_act a + (length_of acts + need) ≤ suc n → (s : List Val) → State s → (d : Decision) (ts : Forest) → AtMost (Spread n (step_act ps a (push acts is) (at (push (Acts.next a acts) is) s turns) d) ts) (forward (upward (Acts.next a acts)) k (environment s))
      from_act (Act.set x t span) h i acts f l s st d ts = let m = from_set x (term_value t (environment s)) h.0 (typed_term x t s st h.1) acts f (omega (arith, l)) s st ts in record { choices = m.choices; most = m.most }
      from_act (Act.draw x qs span) h i acts f l s st d ts = let m = from_draw x qs h.0 h.1.0 acts f (omega (arith, l)) s st ts in record { choices = m.choices; most = m.most }
      from_act (Act.toss x w span) h i acts f l s st d ts = let m = from_draw x (toss_parts w (environment s)) h.0 (toss_fit (types_of (procedure_at ps p)) x w (environment s) h.1.0 h.1.1 (env_typed (type_list (variables (procedure_at ps p))) s st)) acts f (omega (arith, l)) s st ts in record { choices = before_products m.choices; most = m.most }
      from_act (Act.any x up ty span) h i acts f l s st d ts = let m = from_set x (fit ty (value_of d)) h.0 (subst (λ u. has u (fit ty (value_of d)) ≡ true) (sym h.1) (fit_has ty (value_of d))) acts f (omega (arith, l)) s st ts in record { choices = Choices.choose (value_of d) m.choices Choices.stop; most = m.most }
      from_act (Act.reward w span) h i acts f l s st d ts = absurd h
      from_act (Act.ifs arms e span) h i acts f l s st d ts =
          let block = taken arms e (environment s) in
          let m = from_block block acts (each_taken (IsCalm (procedure_at ps p)) arms e (environment s) (each_first (IsCalm (procedure_at ps p)) (inside_arms arms) (in_order e) i) (each_second (IsCalm (procedure_at ps p)) (inside_arms arms) (in_order e) i)) f (let b = taken_length arms e (environment s) in omega (arith, l, b)) s st ts in
          let r = raised_meaning arms e (forward (upward acts) k) (environment s) m.choices in
          record { choices = r.choices; most = subst (λ y. Spread n (sure (at (push block (push acts is)) s turns)) ts ≤ᵛ y) (sym r.reached) m.most }
      from_act (Act.pick up x y span) h i acts f l s st d ts = let m = from_pick (side_of d) x y acts (each_first (IsCalm (procedure_at ps p)) (in_order x) (in_order y) i) (each_second (IsCalm (procedure_at ps p)) (in_order x) (in_order y) i) f (let b = pick_lengths x y (side_of d) in omega (arith, l, b)) s st ts in record { choices = m.choices; most = m.most }
      from_act (Act.check kind w span) h i acts f l s st d ts = absurd h
      from_act (Act.validate co span) h i acts f l s st d ts = absurd h
      from_act (Act.loop q c) h i acts f l s st d ts = absurd h
      from_act (Act.call xs q es span) h i acts f l s st d ts = absurd h

    pub claims : (n : ℕ) → Claim n
    claims n Acts.done f l s st t = base n (omega (arith, l)) s st t
    claims zero (Acts.next a acts) f l s st t = absurd (some_length a (length_of acts + need) (omega (arith, l)))
    claims (suc n) (Acts.next a acts) f l s st t = let m = from_act n (claims n) a f.0 (each_first (IsCalm (procedure_at ps p)) (inside a) (in_order acts) f.1) acts (each_second (IsCalm (procedure_at ps p)) (inside a) (in_order acts) f.1) (omega (arith, l)) s st (decision t) (under t) in record { choices = m.choices; most = subst (λ cs. weighted_sum g cs ≤ᵛ forward (upward (Acts.next a acts)) k (environment s) m.choices) (sym (runs-next ps n (at (push (Acts.next a acts) is) s turns) t)) m.most }
