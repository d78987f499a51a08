-- Two lists of outcomes, side by side: with equal weights, and related one by one.
use Rattle.std.proofs.Common.{◌≡◌, ℕ, sym, ap₂, ◌∙◌, List, [], ◌∷◌}
use Rattle.heyvl_num.specs.Value.{Value, ◌+ᵛ◌, ◌*ᵛ◌}
use Rattle.heyvl_num.specs.Value.Value.{finite}
use Rattle.heyvl_num.specs.WeightedSums.{weighted_sum}
use Rattle.heyvl_num.proofs.exported.WeightedSums.{weighted_sum-empty}
use Rattle.heyvl_acts.specs.Acts.{TypedProcedure}
use Rattle.run_machine.specs.Configurations.{Config, Outcomes}
use Rattle.run_machine.specs.Runs.{runs, spread}
use Rattle.run_machine.specs.Scheduler.{Tree, Forest, first, rest}
use Rattle.run_machine.proofs.exported.Equations.{worth-spread}

abbrev pub Both : (Config → Config → Type 0) → Outcomes → Outcomes → Type 0
Both R [] [] = Unit {0}
Both R [] (y ∷ ys) = ⊥
Both R (x ∷ xs) [] = ⊥
Both R (x ∷ xs) (y ∷ ys) = ((x.0 ≡ y.0) × R x.1 y.1) × Both R xs ys

pub both_spread : (ps qs : List TypedProcedure) (f g : Config → Value) (R : Config → Config → Type 0) (n : ℕ) → ((c e : Config) (t : Tree) → R c e → weighted_sum f (runs ps n c t) ≡ weighted_sum g (runs qs n e t)) → (xs ys : Outcomes) (ts : Forest) → Both R xs ys → weighted_sum f (spread (runs ps n) xs ts) ≡ weighted_sum g (spread (runs qs n) ys ts)
both_spread ps qs f g R n h [] [] ts b = weighted_sum-empty f ∙ sym (weighted_sum-empty g)
both_spread ps qs f g R n h [] (y ∷ ys) ts b = absurd b
both_spread ps qs f g R n h (x ∷ xs) [] ts b = absurd b
both_spread ps qs f g R n h (x ∷ xs) (y ∷ ys) ts b = worth-spread f (runs ps n) x xs ts ∙ (ap₂ (λ a d. a +ᵛ d) (ap₂ (λ w v. finite w *ᵛ v) b.0.0 (h x.1 y.1 (first ts) b.0.1)) (both_spread ps qs f g R n h xs ys (rest ts) b.1) ∙ sym (worth-spread g (runs qs n) y ys ts))
