-- What each step preserves holds of all runs.
use Rattle.std.proofs.Common.{◌≡◌, ℕ, refl, sym, subst, List, [], ◌∷◌}
use Prim.Native.Nat.{zero, suc}
use Rattle.heyvl_num.specs.Value.{Value, zeroᵛ, ◌≤ᵛ◌}
use Rattle.heyvl_num.specs.WeightedSums.{weighted_sum, scaled}
use Rattle.heyvl_num.proofs.exported.Values.{+ᵛ_nonnegative, scale_nonnegative, zero-≤ᵛ-zero}
use Rattle.heyvl_num.proofs.exported.WeightedSums.{weighted_sum-empty, weighted_sum-cons}
use Rattle.heyvl_acts.specs.Acts.{TypedProcedure}
use Rattle.heyvl_acts.specs.Rules.{Each, MeetsRules}
use Rattle.run_machine.specs.Configurations.{Item, Config, Outcomes}
use Rattle.run_machine.specs.Runs.{Runner, runs, spread, onward}
use Rattle.run_machine.specs.Scheduler.{Tree, Forest, decision, under, first, rest}
use Rattle.run_machine.specs.Step.{Decision, step_item}
use Rattle.run_machine.proofs.exported.Equations.{runs-zero, runs-next}
use Rattle.run_laws.specs.EachOutcome.{EachOutcome}
use Rattle.run_laws.specs.RuledConfigurations.{ItemsFit, ConfigFits, Follows}
use Rattle.run_laws.proofs.exported.Outcomes.{all_sure, all_append, all_scaled, all_more}
use Rattle.run_laws.proofs.exported.RuledSteps.{item_kept}

pub spread_all : (P Q : Config → Type 0) (f : Runner) → ((c : Config) (t : Tree) → Q c → EachOutcome P (f c t)) → (xs : Outcomes) (ts : Forest) → EachOutcome Q xs → EachOutcome P (spread f xs ts)
spread_all P Q f h [] ts a = tt
spread_all P Q f h (x ∷ xs) ts a = all_append P (scaled x.0 (f x.1 (first ts))) (spread f xs (rest ts)) (all_scaled P x.0 (f x.1 (first ts)) a.0.0 (h x.1 (first ts) a.0.1)) (spread_all P Q f h xs (rest ts) a.1)

pub runs_all : (ps : List TypedProcedure) (Q : Config → Type 0) → ((c : Config) (i : Item) (is : List Item) → c.items ≡ i ∷ is → Q c → (d : Decision) → EachOutcome Q (step_item ps i is c d)) → (n : ℕ) (c : Config) (t : Tree) → Q c → EachOutcome Q (runs ps n c t)
runs_all ps Q keep zero c t h = subst (EachOutcome Q) (sym (runs-zero ps c t)) (all_sure Q c h)
runs_all ps Q keep (suc n) c t h = subst (EachOutcome Q) (sym (runs-next ps n c t)) (go c.items refl (λ e k i. runs_all ps Q keep n e k i))
  where
    go : (is : List Item) → c.items ≡ is → ((e : Config) (k : Tree) → Q e → EachOutcome Q (runs ps n e k)) → EachOutcome Q (onward ps (runs ps n) is c t)
    go [] e ih = all_sure Q c h
    go (i ∷ is) e ih = spread_all Q Q (runs ps n) ih (step_item ps i is c (decision t)) (under t) (keep c i is e h (decision t))

pub sum_from_zero : (f : Config → Value) (P : Config → Type 0) → ((c : Config) → P c → zeroᵛ ≤ᵛ f c) → (xs : Outcomes) → EachOutcome P xs → zeroᵛ ≤ᵛ weighted_sum f xs
sum_from_zero f P h [] a = subst (λ v. zeroᵛ ≤ᵛ v) (sym (weighted_sum-empty f)) zero-≤ᵛ-zero
sum_from_zero f P h (x ∷ xs) a = subst (λ v. zeroᵛ ≤ᵛ v) (sym (weighted_sum-cons f x.0 x.1 xs)) (+ᵛ_nonnegative _ _ (scale_nonnegative x.0 (f x.1) a.0.0 (h x.1 a.0.1)) (sum_from_zero f P h xs a.1))

pub fit_kept : (ps : List TypedProcedure) (rules : Each (MeetsRules ps) ps) (p : ℕ) (c : Config) (i : Item) (is : List Item) → c.items ≡ i ∷ is → ConfigFits ps p c → (d : Decision) → EachOutcome (ConfigFits ps p) (step_item ps i is c d)
fit_kept ps rules p c i is e h d = all_more (Follows ps p c.reward) (ConfigFits ps p) (λ a f. f.0) (step_item ps i is c d) (item_kept ps rules p is c h i (subst (ItemsFit ps p c.frames) e h.items) d)

pub runs_fit : (ps : List TypedProcedure) (rules : Each (MeetsRules ps) ps) (p : ℕ) (n : ℕ) (c : Config) (t : Tree) → ConfigFits ps p c → EachOutcome (ConfigFits ps p) (runs ps n c t)
runs_fit ps rules p n c t h = runs_all ps (ConfigFits ps p) (fit_kept ps rules p) n c t h
