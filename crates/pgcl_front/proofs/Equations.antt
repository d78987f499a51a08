-- Equations of the runs of guarded commands and of their sums.
use Prim.Native.Nat.{suc, zero}
use Rattle.pgcl_front.specs.GuardedRuns.{GuardedRunner, guarded_runs, onward, spread}
use Rattle.pgcl_front.specs.GuardedSteps.{GuardedConfig, GuardedOutcomes, surely}
use Rattle.heyvl_num.proofs.exported.Values.{+ᵛ-zero}
use Rattle.heyvl_num.proofs.exported.WeightedSums.{weighted_sum-append, weighted_sum-cons, weighted_sum-empty, weighted_sum-scaled}
use Rattle.heyvl_num.specs.Rational.{Rational, oneʳ}
use Rattle.heyvl_num.specs.Value.Value.{finite}
use Rattle.heyvl_num.specs.Value.{Value, ◌*ᵛ◌, ◌+ᵛ◌}
use Rattle.heyvl_num.specs.WeightedSums.{scaled, weighted_sum}
use Rattle.heyvl_acts.specs.Acts.{TypedProcedure}
use Rattle.typed_expressions.specs.Scopes.{Scope}
use Rattle.run_machine.proofs.exported.Equations.{one_times, worth-spread}
use Rattle.run_machine.specs.Configurations.{Config, Outcomes}
use Rattle.run_machine.specs.Runs.{runs}
use Rattle.run_machine.specs.Runs as machine
use Rattle.run_machine.specs.Scheduler.{Forest, Tree, first, rest}
use Rattle.std.proofs.Common.{List, [], ap, ap₂, refl, sym, ◌∙◌, ◌∷◌, ◌≡◌, ℕ}

pub guarded-zero : (sc : Scope) (c : GuardedConfig) (t : Tree) → guarded_runs sc zero c t ≡ surely c
unfolding guarded_runs
guarded-zero sc c t = refl

pub guarded-next : (sc : Scope) (n : ℕ) (c : GuardedConfig) (t : Tree) → guarded_runs sc (suc n) c t ≡ onward sc (guarded_runs sc n) c.chosen c.todo c t
unfolding guarded_runs
guarded-next sc n c t = refl

pub guarded-one : (f : GuardedConfig → Value) (c : GuardedConfig) → weighted_sum f (surely c) ≡ f c
guarded-one f c = weighted_sum-cons f oneʳ c [] ∙ (ap (λ v. (finite oneʳ *ᵛ f c) +ᵛ v) (weighted_sum-empty f) ∙ (+ᵛ-zero _ ∙ one_times (f c)))

guarded-spread : (g : GuardedConfig → Value) (f : GuardedRunner) (x : Rational × GuardedConfig) (xs : GuardedOutcomes) (ts : Forest) → weighted_sum g (spread f (x ∷ xs) ts) ≡ (finite x.0 *ᵛ weighted_sum g (f x.1 (first ts))) +ᵛ weighted_sum g (spread f xs (rest ts))
guarded-spread g f x xs ts = weighted_sum-append g (scaled x.0 (f x.1 (first ts))) (spread f xs (rest ts)) ∙ ap (λ v. v +ᵛ weighted_sum g (spread f xs (rest ts))) (weighted_sum-scaled g x.0 (f x.1 (first ts)))

-- Two lists of outcomes with equal weights, whose outcomes are related by `R` one by one.
abbrev pub Beside : (GuardedConfig → Config → Type 0) → GuardedOutcomes → Outcomes → Type 0
Beside R [] [] = Unit {0}
Beside R [] (y ∷ ys) = ⊥
Beside R (x ∷ xs) [] = ⊥
Beside R (x ∷ xs) (y ∷ ys) = ((x.0 ≡ y.0) × R x.1 y.1) × Beside R xs ys

pub beside_spread : (ps : List TypedProcedure) (sc : Scope) (f : GuardedConfig → Value) (g : Config → Value) (R : GuardedConfig → Config → Type 0) (n : ℕ) → ((c : GuardedConfig) (e : Config) (t : Tree) → R c e → weighted_sum f (guarded_runs sc n c t) ≡ weighted_sum g (runs ps n e t)) → (xs : GuardedOutcomes) (ys : Outcomes) (ts : Forest) → Beside R xs ys → weighted_sum f (spread (guarded_runs sc n) xs ts) ≡ weighted_sum g (machine.spread (runs ps n) ys ts)
beside_spread ps sc f g R n h [] [] ts b = weighted_sum-empty f ∙ sym (weighted_sum-empty g)
beside_spread ps sc f g R n h [] (y ∷ ys) ts b = absurd b
beside_spread ps sc f g R n h (x ∷ xs) [] ts b = absurd b
beside_spread ps sc f g R n h (x ∷ xs) (y ∷ ys) ts b = guarded-spread f (guarded_runs sc n) x xs ts ∙ (ap₂ (λ a d. a +ᵛ d) (ap₂ (λ w u. finite w *ᵛ u) b.0.0 (h x.1 y.1 (first ts) b.0.1)) (beside_spread ps sc f g R n h xs ys (rest ts) b.1) ∙ sym (worth-spread g (runs ps n) y ys ts))
