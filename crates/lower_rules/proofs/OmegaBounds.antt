-- Omega invariants bound runs: by induction on the number of iterations that are left, and for each
-- number on the acts of the body before the next test.
use Rattle.std.proofs.Common.{◌≡◌, ◌≤◌, ◌<◌, ◌+◌, ◌*◌, ◌==◌, ℕ, refl, sym, ap, subst, ◌∙◌, arith, Bool, true, false, cond, List, [], ◌∷◌, length, leb, ◌⊎◌, inl, inr}
use Rattle.std.proofs.lemmas.Bool.Decides.{leb_tells}
use Prim.Native.Nat.{zero, suc}
use Rattle.heyvl_num.specs.Value.{Value, zeroᵛ, ◌≤ᵛ◌}
use Rattle.heyvl_num.specs.WeightedSums.{weighted_sum}
use Rattle.heyvl_num.proofs.exported.Values.{≤ᵛ_refl, ≤ᵛ_trans, zero-≤ᵛ-zero}
use Rattle.heylo_formula.specs.Choices.{Choices}
use Rattle.heylo_formula.specs.Formula.{Form}
use Rattle.heylo_formula.specs.Meaning.{value, holds}
use Rattle.heylo_formula.specs.State.{environment}
use Rattle.heylo_formula.specs.declared.values.Val.{Val}
use Rattle.heyvl_acts.specs.Acts.{TypedProcedure, procedure_at, variables}
use Rattle.heyvl_acts.specs.Forward.{Post, forward}
use Rattle.heyvl_acts.specs.Length.{length_of}
use Rattle.heyvl_acts.specs.Rules.{Each, MeetsRules}
use Rattle.run_machine.specs.Bound.{IsState}
use Rattle.run_machine.specs.Configurations.{Item, Config, push}
use Rattle.run_machine.specs.Runs.{runs, spread}
use Rattle.run_machine.specs.Scheduler.{Tree, Forest, under, first}
use Rattle.run_machine.specs.Step.{sure, moved, turned, counted}
use Rattle.run_machine.specs.Sums.{ended}
use Rattle.run_machine.proofs.exported.Equations.{runs-zero, runs-next, worth-one, worth-sure}
use Rattle.lower_rules.specs.CollectedSums.{settled}
use Rattle.lower_rules.specs.Omega.{with_turns, IsOmega, OmegaBoundsRuns}
use Rattle.lower_goals.specs.OneLoop.{OneLoop, steps_from_test}
use Rattle.lower_goals.proofs.exported.Calm.{CalmParts, calm_parts}
use Rattle.lower_rules.proofs.CalmSteps.{ruled_parts}
use Rattle.lower_goals.proofs.exported.LoopParts.{OfParts}
use Rattle.run_laws.proofs.exported.GrowingSums.{ended_held}
use Rattle.heyvl_acts.proofs.exported.Each.{each_at}
use Rattle.run_laws.specs.RuledConfigurations.{IsRuled, ConfigFits}
use Rattle.run_laws.proofs.exported.RuledSteps.{items_push}
use Rattle.run_laws.proofs.exported.RuledRuns.{runs_fit, sum_from_zero}
use Rattle.lower_rules.proofs.Straight.{AtLeast, at, Base, claims}

pub alike : (x : ℕ) → (x == x) ≡ true
alike x = grind arith

pub within : (m k : ℕ) → k ≤ m → leb k m ≡ true
within m k h = go (leb_tells k m)
  where
    go : ((leb k m ≡ true) × (k ≤ m)) ⊎ ((leb k m ≡ false) × (m < k)) → leb k m ≡ true
    go (inl e) = e.0
    go (inr e) = absurd (omega (arith, h, e.1))

pub after_turn : (j a b n : ℕ) → suc j * (1 + a) + (1 + b) ≤ suc n → a + (j * (1 + a) + (1 + b)) ≤ n
after_turn j a b n h = omega (arith, h)

pub after_loop : (x b n : ℕ) → x + (1 + b) ≤ suc n → b + 0 ≤ n
after_loop x b n h = omega (arith, h)

module _ (ps : List TypedProcedure) (rules : Each (MeetsRules ps) ps) (p : ℕ) (there : p < length ps) (l : OneLoop (procedure_at ps p)) (f : Form) (omega_f : IsOmega (procedure_at ps p) l.head l.body l.behind f) (m : ℕ) where
  abbrev q : TypedProcedure
  q = procedure_at ps p

  abbrev g : Config → Value
  g = settled m l.head.number (procedure_at ps p).post

  abbrev K : ℕ → Post
  K j t d = value f (with_turns (length (variables (procedure_at ps p))) j t) Choices.stop

  abbrev tests : List Item
  tests = Item.turn l.head l.body ∷ push l.behind []

  calm : CalmParts (procedure_at ps p) l
  calm = calm_parts ps (procedure_at ps p) l (each_at (MeetsRules ps) ps p rules there)

  ruled : OfParts (IsRuled ps (procedure_at ps p)) (procedure_at ps p) l
  ruled = ruled_parts ps (procedure_at ps p) l (each_at (MeetsRules ps) ps p rules there)

  -- ---- The expected post is not negative

  settled_from_zero : (c : Config) → ConfigFits ps p c → zeroᵛ ≤ᵛ settled m l.head.number (procedure_at ps p).post c
  settled_from_zero c h = go (leb (c.turns l.head.number) m)
    where
      go : (b : Bool) → zeroᵛ ≤ᵛ cond b (ended true (procedure_at ps p).post c.items c.state) zeroᵛ
      go true = ended_held ps rules p c.frames c.items c.state h.items h.state
      go false = zero-≤ᵛ-zero

  test_fits : (s : List Val) → IsState (procedure_at ps p) s → (v : Value) (turns : ℕ → ℕ) → ConfigFits ps p (at ps p g tests s v turns)
  test_fits s st v turns = record { here = refl; frames = tt; items = (ruled.body, items_push ps rules p [] l.behind [] ruled.behind tt); state = st }

  from_zero : (n : ℕ) (s : List Val) → IsState (procedure_at ps p) s → (v : Value) (turns : ℕ → ℕ) (t : Tree) → zeroᵛ ≤ᵛ weighted_sum g (runs ps n (at ps p g tests s v turns) t)
  from_zero n s st v turns t = sum_from_zero g (ConfigFits ps p) settled_from_zero (runs ps n (at ps p g tests s v turns) t) (runs_fit ps rules p n (at ps p g tests s v turns) t (test_fits s st v turns))

  -- ---- After the loop

  collected_end : (turns : ℕ → ℕ) → turns l.head.number ≤ m → (s : List Val) (v : Value) → value (procedure_at ps p).post (environment s) Choices.stop ≤ᵛ settled m l.head.number (procedure_at ps p).post (at ps p g [] s v turns)
  collected_end turns le s v = rw (within m (turns l.head.number) le) (≤ᵛ_refl _)

  end_base : (turns : ℕ → ℕ) → turns l.head.number ≤ m → Base ps p g [] turns (value (procedure_at ps p).post) 0
  end_base turns le zero z s st v t = record { choices = Choices.stop; least = subst (λ x. value (procedure_at ps p).post (environment s) Choices.stop ≤ᵛ x) (sym (ap (weighted_sum g) (runs-zero ps (at ps p g [] s v turns) t) ∙ worth-one g (at ps p g [] s v turns))) (collected_end turns le s v) }
  end_base turns le (suc n) z s st v t = record { choices = Choices.stop; least = subst (λ x. value (procedure_at ps p).post (environment s) Choices.stop ≤ᵛ x) (sym (ap (weighted_sum g) (runs-next ps n (at ps p g [] s v turns) t) ∙ worth-one g (at ps p g [] s v turns))) (collected_end turns le s v) }

  behind_loop : (turns : ℕ → ℕ) → turns l.head.number ≤ m → (n : ℕ) → length_of l.behind + 0 ≤ n → (s : List Val) → IsState (procedure_at ps p) s → (v : Value) (t : Tree) → AtLeast (weighted_sum g (runs ps n (at ps p g (push l.behind []) s v turns) t)) (forward l.behind (value (procedure_at ps p).post) (environment s))
  behind_loop turns le n few s st v t = claims ps p g [] turns (value (procedure_at ps p).post) 0 (end_base turns le) n l.behind calm.behind few s st v t

  -- ---- Iterations

  counted_here : (s : List Val) (v : Value) (turns : ℕ → ℕ) → counted (at ps p g tests s v turns) l.head.number l.head.number ≡ 1 + turns l.head.number
  counted_here s v turns = rw (alike p, alike l.head.number) refl

  -- The bound that the invariant states at a test.
  abbrev Tested : ℕ → List Val → Bool → Type 0
  Tested zero s b = (c : Choices) → K 0 (environment s) Choices.stop ≤ᵛ cond b zeroᵛ (forward l.behind (value (procedure_at ps p).post) (environment s) c)
  Tested (suc j) s b = (c : Choices) → K (suc j) (environment s) Choices.stop ≤ᵛ cond b (forward l.body (K j) (environment s) c) (forward l.behind (value (procedure_at ps p).post) (environment s) c)

  abbrev From : ℕ → ℕ → List Val → Value → (ℕ → ℕ) → Forest → Bool → Type 0
  From n j s v turns ts b = K j (environment s) Choices.stop ≤ᵛ weighted_sum g (spread (runs ps n) (cond b (sure (turned (at ps p g tests s v turns) (push l.body tests) l.head.number)) (sure (moved (at ps p g tests s v turns) (push l.behind []) s))) ts)

  leaves : (n j : ℕ) (turns : ℕ → ℕ) → turns l.head.number ≤ m → length_of l.behind + 0 ≤ n → (s : List Val) → IsState (procedure_at ps p) s → (v : Value) (ts : Forest) → ((c : Choices) → K j (environment s) Choices.stop ≤ᵛ forward l.behind (value (procedure_at ps p).post) (environment s) c) → From n j s v turns ts false
  leaves n j turns le few s st v ts h = let r = behind_loop turns le n few s st v (first ts) in ≤ᵛ_trans _ _ _ (h r.choices) (subst (λ x. forward l.behind (value (procedure_at ps p).post) (environment s) r.choices ≤ᵛ x) (sym (worth-sure g (runs ps n) (moved (at ps p g tests s v turns) (push l.behind []) s) ts)) r.least)

  test_base : (j : ℕ) (turns : ℕ → ℕ) → turns l.head.number + j ≡ m → Base ps p g tests turns (K j) (steps_from_test l.body l.behind j)
  test_base j turns e zero few s st v t = absurd (omega (arith, few))
  test_base zero turns e (suc n) few s st v t = record { choices = Choices.stop; least = subst (λ cs. K 0 (environment s) Choices.stop ≤ᵛ weighted_sum g cs) (sym (runs-next ps n (at ps p g tests s v turns) t)) (go (holds l.head.guard (environment s) Choices.stop) (λ c. omega_f.base s c st) (subst (λ cs. zeroᵛ ≤ᵛ weighted_sum g cs) (runs-next ps n (at ps p g tests s v turns) t) (from_zero (suc n) s st v turns t))) }
    where
      go : (b : Bool) → Tested zero s b → zeroᵛ ≤ᵛ weighted_sum g (spread (runs ps n) (cond b (sure (turned (at ps p g tests s v turns) (push l.body tests) l.head.number)) (sure (moved (at ps p g tests s v turns) (push l.behind []) s))) (under t)) → From n zero s v turns (under t) b
      go true h z = ≤ᵛ_trans _ _ _ (h Choices.stop) z
      go false h z = leaves n zero turns (omega (arith, e)) (after_loop (0 * (1 + length_of l.body)) (length_of l.behind) n few) s st v (under t) h
  test_base (suc j) turns e (suc n) few s st v t = record { choices = Choices.stop; least = subst (λ cs. K (suc j) (environment s) Choices.stop ≤ᵛ weighted_sum g cs) (sym (runs-next ps n (at ps p g tests s v turns) t)) (go (holds l.head.guard (environment s) Choices.stop) (λ c. omega_f.turn s c j st) (test_base j)) }
    where
      go : (b : Bool) → Tested (suc j) s b → ((turns' : ℕ → ℕ) → turns' l.head.number + j ≡ m → Base ps p g tests turns' (K j) (steps_from_test l.body l.behind j)) → From n (suc j) s v turns (under t) b
      go true h base =
          let turns' = counted (at ps p g tests s v turns) l.head.number in
          let same : turns' l.head.number + j ≡ m = let i = counted_here s v turns in omega (arith, i, e) in
          let r = claims ps p g tests turns' (K j) (steps_from_test l.body l.behind j) (base turns' same) n l.body calm.body (after_turn j (length_of l.body) (length_of l.behind) n few) s st v (first (under t)) in
          ≤ᵛ_trans _ _ _ (h r.choices) (subst (λ x. forward l.body (K j) (environment s) r.choices ≤ᵛ x) (sym (worth-sure g (runs ps n) (turned (at ps p g tests s v turns) (push l.body tests) l.head.number) (under t))) r.least)
      go false h base = leaves n (suc j) turns (omega (arith, e)) (after_loop (suc j * (1 + length_of l.body)) (length_of l.behind) n few) s st v (under t) h

pub omega_bounds : OmegaBoundsRuns
omega_bounds ps p rules there l f o s st m n few t = (test_base ps rules p there l f o m m (λ k. 0) (omega arith) n (omega (arith, few)) s st zeroᵛ t).least
