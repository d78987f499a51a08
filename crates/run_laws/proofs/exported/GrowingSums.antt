-- Sums over runs do not decrease: by induction on the number of steps, since one more step lowers
-- the summand of no run.
use Rattle.std.proofs.Common.{◌≡◌, ℕ, refl, sym, ap, ◌∙◌, subst, true, List, [], ◌∷◌}
use Prim.Native.Nat.{zero, suc}
use Rattle.heyvl_num.specs.Value.{Value, zeroᵛ, ◌+ᵛ◌, ◌*ᵛ◌, ◌≤ᵛ◌}
use Rattle.heyvl_num.specs.Value.Value.{finite}
use Rattle.heyvl_num.specs.WeightedSums.{total_weight}
use Rattle.heyvl_num.proofs.exported.Values.{≤ᵛ_refl, ≤ᵛ_trans, ≤ᵛ-+ᵛ, +ᵛ-zero, zero-≤ᵛ-zero, +ᵛ_mono, scale_mono, weights-*}
use Rattle.heyvl_num.proofs.exported.WeightedSums.{total_weight-empty, total_weight-cons}
use Rattle.heylo_formula.specs.Formula.{Form}
use Rattle.heylo_formula.specs.declared.values.Val.{Val}
use Rattle.heyvl_acts.specs.Acts.{TypedProcedure, procedure_at}
use Rattle.heyvl_acts.specs.Rules.{Each, MeetsRules}
use Rattle.run_machine.specs.Bound.{IsState}
use Rattle.run_machine.specs.Configurations.{Item, Frame, Config, Outcomes, begin}
use Rattle.run_machine.specs.Runs.{Runner, runs, spread, onward}
use Rattle.run_machine.specs.Scheduler.{Tree, Forest, decision, under, first, rest}
use Rattle.run_machine.specs.Step.{sure, step_item}
use Rattle.run_machine.specs.Sums.{ended, worth, sum_of}
use Rattle.run_machine.proofs.exported.Equations.{runs-zero, runs-next, one_times, sum-none, sum-one, sum-spread}
use Rattle.run_laws.specs.EachOutcome.{EachOutcome}
use Rattle.run_laws.specs.Growth.{SumsGrow}
use Rattle.run_laws.specs.RuledConfigurations.{owner, ItemsFit, ConfigFits, Follows}
use Rattle.run_laws.proofs.TypedRuns.{posts_held}
use Rattle.run_laws.proofs.exported.Outcomes.{no_weight, weights_held}
use Rattle.run_laws.proofs.exported.RuledSteps.{begins, item_kept, item_weighs}

-- ---- Sums of the runs of outcomes

-- Each part of one sum is at least that of the other.
spread_grows : (post : Form) (P : Config → Type 0) (f g : Runner) → ((c : Config) (t : Tree) → P c → sum_of true post (f c t) ≤ᵛ sum_of true post (g c t)) → (xs : Outcomes) (ts : Forest) → EachOutcome P xs → sum_of true post (spread f xs ts) ≤ᵛ sum_of true post (spread g xs ts)
spread_grows post P f g h [] ts a = ≤ᵛ_refl _
spread_grows post P f g h (x ∷ xs) ts a = rw (sum-spread true post f x xs ts, sum-spread true post g x xs ts) (+ᵛ_mono _ _ _ _ (scale_mono x.0 _ _ a.0.0 (h x.1 (first ts) a.0.1)) (spread_grows post P f g h xs (rest ts) a.1))

-- Each part of the sum is at least a value.
spread_above : (post : Form) (P : Config → Type 0) (r : Value) (f : Runner) → ((c : Config) (t : Tree) → P c → r ≤ᵛ sum_of true post (f c t)) → (xs : Outcomes) (ts : Forest) → EachOutcome P xs → finite (total_weight xs) *ᵛ r ≤ᵛ sum_of true post (spread f xs ts)
spread_above post P r f h [] ts a = rw (sum-none true post, total_weight-empty Config) (subst (λ u. u ≤ᵛ zeroᵛ) (sym (no_weight r)) zero-≤ᵛ-zero)
spread_above post P r f h (x ∷ xs) ts a = rw (sum-spread true post f x xs ts, total_weight-cons x.0 x.1 xs, weights-* x.0 (total_weight xs) r a.0.0 (weights_held P xs a.1)) (+ᵛ_mono _ _ _ _ (scale_mono x.0 _ _ a.0.0 (h x.1 (first ts) a.0.1)) (spread_above post P r f h xs (rest ts) a.1))

-- ---- The induction

module _ (ps : List TypedProcedure) (rules : Each (MeetsRules ps) ps) (p : ℕ) where
  abbrev Sum : ℕ → Config → Tree → Value
  Sum n c t = sum_of true (procedure_at ps p).post (runs ps n c t)

  -- The summand of a configuration is at least its reward.
  pub ended_held : (fs : List Frame) (is : List Item) (s : List Val) → ItemsFit ps p fs is → IsState (owner ps p fs) s → zeroᵛ ≤ᵛ ended true (procedure_at ps p).post is s
  ended_held [] [] s g st = posts_held ps ps rules p s st
  ended_held (f ∷ fs) [] s g st = absurd g
  ended_held fs (i ∷ is) s g st = zero-≤ᵛ-zero

  worth_held : (c : Config) → ConfigFits ps p c → c.reward ≤ᵛ worth true (procedure_at ps p).post c
  worth_held c h = ≤ᵛ-+ᵛ c.reward _ (ended_held c.frames c.items c.state h.items h.state)

  first_step : (i : Item) (is : List Item) (c : Config) (h : ConfigFits ps p c) → ItemsFit ps p c.frames (i ∷ is) → (t : Tree) → c.reward ≤ᵛ sum_of true (procedure_at ps p).post (spread (runs ps 0) (step_item ps i is c (decision t)) (under t))
  first_step i is c h g t =
      let xs = step_item ps i is c (decision t) in
      subst (λ v. v ≤ᵛ sum_of true (procedure_at ps p).post (spread (runs ps 0) xs (under t))) (ap (λ w. finite w *ᵛ c.reward) (item_weighs ps rules p c i is g (decision t)) ∙ one_times c.reward)
      (spread_above (procedure_at ps p).post (Follows ps p c.reward) c.reward (runs ps 0) (λ e k f. subst (λ cs. c.reward ≤ᵛ sum_of true (procedure_at ps p).post cs) (sym (runs-zero ps e k)) (subst (λ v. c.reward ≤ᵛ v) (sym (sum-one true (procedure_at ps p).post e)) (≤ᵛ_trans _ _ _ f.1 (worth_held e f.0)))) xs (under t) (item_kept ps rules p is c h i g (decision t)))

  grows : (n : ℕ) (c : Config) (t : Tree) → ConfigFits ps p c → Sum n c t ≤ᵛ Sum (suc n) c t
  grows zero c t h = rw (runs-zero ps c t, runs-next ps 0 c t) (go c.items refl h.items)
    where
      under_way : (i : Item) (is : List Item) → c.items ≡ i ∷ is → worth true (procedure_at ps p).post c ≡ c.reward
      under_way i is e = ap (λ js. c.reward +ᵛ ended true (procedure_at ps p).post js c.state) e ∙ +ᵛ-zero c.reward

      go : (is : List Item) → c.items ≡ is → ItemsFit ps p c.frames is → sum_of true (procedure_at ps p).post (sure c) ≤ᵛ sum_of true (procedure_at ps p).post (onward ps (runs ps 0) is c t)
      go [] e g = ≤ᵛ_refl _
      go (i ∷ is) e g = subst (λ v. v ≤ᵛ sum_of true (procedure_at ps p).post (spread (runs ps 0) (step_item ps i is c (decision t)) (under t))) (sym (sum-one true (procedure_at ps p).post c ∙ under_way i is e)) (first_step i is c h g t)
  grows (suc n) c t h = rw (runs-next ps n c t, runs-next ps (suc n) c t) (go c.items h.items (λ e k f. grows n e k f))
    where
      go : (is : List Item) → ItemsFit ps p c.frames is → ((e : Config) (k : Tree) → ConfigFits ps p e → sum_of true (procedure_at ps p).post (runs ps n e k) ≤ᵛ sum_of true (procedure_at ps p).post (runs ps (suc n) e k)) → sum_of true (procedure_at ps p).post (onward ps (runs ps n) is c t) ≤ᵛ sum_of true (procedure_at ps p).post (onward ps (runs ps (suc n)) is c t)
      go [] g ih = ≤ᵛ_refl _
      go (i ∷ is) g ih = spread_grows (procedure_at ps p).post (Follows ps p c.reward) (runs ps n) (runs ps (suc n)) (λ e k f. ih e k f.0) (step_item ps i is c (decision t)) (under t) (item_kept ps rules p is c h i g (decision t))

pub sums_grow : SumsGrow
sums_grow ps p rules s st n t = grows ps rules p n (begin ps p s) t (begins ps rules p s st)
