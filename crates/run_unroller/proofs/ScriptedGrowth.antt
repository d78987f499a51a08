-- A script's scheduler for more steps gives the same runs of fewer steps, so its sums do not
-- decrease.
use Rattle.std.proofs.Common.{◌≡◌, ◌<◌, ◌≤◌, ◌+◌, ℕ, refl, sym, ap₂, subst, ◌∙◌, arith, true, false, List, [], ◌∷◌, ◌++◌, leb, ◌⊎◌, inl, inr}
use Rattle.std.proofs.lemmas.Bool.Decides.{leb_tells}
use Prim.Native.Nat.{zero, suc}
use Rattle.heyvl_num.specs.Value.{Value, ◌≤ᵛ◌}
use Rattle.heyvl_num.specs.WeightedSums.{scaled}
use Rattle.heyvl_num.proofs.exported.Values.{≤ᵛ_refl, ≤ᵛ_trans}
use Rattle.heylo_formula.specs.declared.values.Val.{Val}
use Rattle.heyvl_acts.specs.Acts.{TypedProcedure, procedure_at}
use Rattle.heyvl_acts.specs.Rules.{Each, MeetsRules}
use Rattle.run_machine.specs.Bound.{IsState}
use Rattle.run_machine.specs.Configurations.{Item, Config, Outcomes, begin}
use Rattle.run_machine.specs.Runs.{runs, spread, onward}
use Rattle.run_machine.specs.Scheduler.{Tree}
use Rattle.run_machine.specs.Step.{step, step_item, step_items}
use Rattle.run_machine.specs.StepAnswers.{asked_by}
use Rattle.run_machine.specs.Sums.{sum_of}
use Rattle.run_machine.specs.declared.configurations.Decide.{Decide}
use Rattle.run_machine.proofs.exported.Equations.{runs-zero, runs-next}
use Rattle.run_laws.proofs.exported.GrowingSums.{sums_grow}
use Rattle.run_unroller.specs.ScriptTrees.{forest, scripted}
use Rattle.run_unroller.specs.ScriptedGrowth.{ScriptedSumsGrow}
use Rattle.run_unroller.specs.Scripts.{entry}

module _ (ps : List TypedProcedure) (script : List Decide) where
  spread_same : (n : ℕ) (f g : Config → Tree) → ((c : Config) → runs ps n c (f c) ≡ runs ps n c (g c)) → (xs : Outcomes) → spread (runs ps n) xs (forest f xs) ≡ spread (runs ps n) xs (forest g xs)
  spread_same n f g h [] = refl
  spread_same n f g h (x ∷ xs) = ap₂ (λ a b. scaled x.0 a ++ b) (h x.1) (spread_same n f g h xs)

  deeper : (n made : ℕ) (c : Config) → runs ps n c (scripted ps script n made c) ≡ runs ps n c (scripted ps script (suc n) made c)
  deeper zero made c = runs-zero ps c (scripted ps script 0 made c) ∙ sym (runs-zero ps c (scripted ps script 1 made c))
  deeper (suc n) made c = runs-next ps n c (scripted ps script (suc n) made c) ∙ (go (λ e. deeper n (made + asked_by c.items) e) ∙ sym (runs-next ps n c (scripted ps script (suc (suc n)) made c)))
    where
      go : ((e : Config) → runs ps n e (scripted ps script n (made + asked_by c.items) e) ≡ runs ps n e (scripted ps script (suc n) (made + asked_by c.items) e)) → onward ps (runs ps n) c.items c (Tree.node (entry script made) (forest (scripted ps script n (made + asked_by c.items)) (step ps c (entry script made)))) ≡ onward ps (runs ps n) c.items c (Tree.node (entry script made) (forest (scripted ps script (suc n) (made + asked_by c.items)) (step ps c (entry script made))))
      go ih = by_items c.items
        where
          by_items : (is : List Item) → onward ps (runs ps n) is c (Tree.node (entry script made) (forest (scripted ps script n (made + asked_by c.items)) (step_items ps is c (entry script made)))) ≡ onward ps (runs ps n) is c (Tree.node (entry script made) (forest (scripted ps script (suc n) (made + asked_by c.items)) (step_items ps is c (entry script made))))
          by_items [] = refl
          by_items (i ∷ is) = spread_same n (scripted ps script n (made + asked_by c.items)) (scripted ps script (suc n) (made + asked_by c.items)) ih (step_item ps i is c (entry script made))

  module _ (p : ℕ) (s : List Val) where
    abbrev sum_at : ℕ → Value
    sum_at n = sum_of true (procedure_at ps p).post (runs ps n (begin ps p s) (scripted ps script n 0 (begin ps p s)))

    sums_to : ((n : ℕ) → sum_at n ≤ᵛ sum_at (suc n)) → (n m : ℕ) → n ≤ m → sum_at n ≤ᵛ sum_at m
    sums_to h n zero l = subst (λ k. sum_at k ≤ᵛ sum_at zero) (let e : zero ≡ n = omega (arith, l) in e) (≤ᵛ_refl (sum_at zero))
    sums_to h n (suc m) l = go (leb_tells n m) (sums_to h n m)
      where
        go : ((leb n m ≡ true) × (n ≤ m)) ⊎ ((leb n m ≡ false) × (m < n)) → (n ≤ m → sum_at n ≤ᵛ sum_at m) → sum_at n ≤ᵛ sum_at (suc m)
        go (inl e) more = ≤ᵛ_trans _ _ _ (more e.1) (h m)
        go (inr e) more = let k = e.1 in subst (λ i. sum_at i ≤ᵛ sum_at (suc m)) (let q : suc m ≡ n = omega (arith, l, k) in q) (≤ᵛ_refl (sum_at (suc m)))

    next_sum : Each (MeetsRules ps) ps → IsState (procedure_at ps p) s → (n : ℕ) → sum_at n ≤ᵛ sum_at (suc n)
    next_sum rules st n = subst (λ cs. sum_of true (procedure_at ps p).post cs ≤ᵛ sum_at (suc n)) (sym (deeper n 0 (begin ps p s))) (sums_grow ps p rules s st n (scripted ps script (suc n) 0 (begin ps p s)))

pub scripted_sums_grow : ScriptedSumsGrow
scripted_sums_grow ps p rules s st script n m l = sums_to ps script p s (next_sum ps script p s rules st) n m l
