-- Runs and their sums, by their equations.
use Rattle.std.proofs.Common.{◌≡◌, ℕ, refl, ap, ◌∙◌, Bool, List, [], ◌∷◌}
use Prim.Native.Nat.{zero, suc}
use Rattle.heyvl_num.specs.Rational.{Rational, oneʳ}
use Rattle.heyvl_num.specs.Value.{Value, zeroᵛ, oneᵛ, ◌+ᵛ◌, ◌*ᵛ◌}
use Rattle.heyvl_num.specs.Value.Value.{finite}
use Rattle.heyvl_num.specs.WeightedSums.{weighted_sum, scaled}
use Rattle.heyvl_num.proofs.exported.Values.{+ᵛ-zero, one-*ᵛ}
use Rattle.heyvl_num.proofs.exported.WeightedSums.{weighted_sum-empty, weighted_sum-cons, weighted_sum-append, weighted_sum-scaled}
use Rattle.heylo_formula.specs.Formula.{Form}
use Rattle.heyvl_acts.specs.Acts.{Acts, TypedProcedure, join}
use Rattle.run_machine.specs.Configurations.{Item, Config, Outcomes, push}
use Rattle.run_machine.specs.Step.{sure}
use Rattle.run_machine.specs.Scheduler.{Tree, Forest, first, rest}
use Rattle.run_machine.specs.Runs.{Runner, spread, onward, runs}
use Rattle.run_machine.specs.Sums.{worth, sum_of}

pub runs-zero : (ps : List TypedProcedure) (c : Config) (t : Tree) → runs ps zero c t ≡ sure c
unfolding runs
runs-zero ps c t = refl

pub runs-next : (ps : List TypedProcedure) (n : ℕ) (c : Config) (t : Tree) → runs ps (suc n) c t ≡ onward ps (runs ps n) c.items c t
unfolding runs
runs-next ps n c t = refl

pub push_join : (a b : Acts) (is : List Item) → push (join a b) is ≡ push a (push b is)
push_join Acts.done b is = refl
push_join (Acts.next a rest) b is = ap (λ js. Item.act a ∷ js) (push_join rest b is)

pub one_times : (v : Value) → finite oneʳ *ᵛ v ≡ v
unfolding oneᵛ
one_times v = one-*ᵛ v

-- Sums of one outcome and of the runs of outcomes, first for any value of a configuration.
pub worth-one : (f : Config → Value) (c : Config) → weighted_sum f (sure c) ≡ f c
worth-one f c = weighted_sum-cons f oneʳ c [] ∙ ap (λ v. (finite oneʳ *ᵛ f c) +ᵛ v) (weighted_sum-empty f) ∙ +ᵛ-zero _ ∙ one_times (f c)

pub worth-spread : (g : Config → Value) (f : Runner) (x : Rational × Config) (xs : Outcomes) (ts : Forest) → weighted_sum g (spread f (x ∷ xs) ts) ≡ (finite x.0 *ᵛ weighted_sum g (f x.1 (first ts))) +ᵛ weighted_sum g (spread f xs (rest ts))
worth-spread g f x xs ts = weighted_sum-append g (scaled x.0 (f x.1 (first ts))) (spread f xs (rest ts)) ∙ ap (λ v. v +ᵛ weighted_sum g (spread f xs (rest ts))) (weighted_sum-scaled g x.0 (f x.1 (first ts)))

pub worth-sure : (g : Config → Value) (f : Runner) (c : Config) (ts : Forest) → weighted_sum g (spread f (sure c) ts) ≡ weighted_sum g (f c (first ts))
worth-sure g f c ts = worth-spread g f (oneʳ, c) [] ts ∙ ap (λ v. (finite oneʳ *ᵛ weighted_sum g (f c (first ts))) +ᵛ v) (weighted_sum-empty g) ∙ +ᵛ-zero _ ∙ one_times _

pub sum-none : (up : Bool) (post : Form) → sum_of up post [] ≡ zeroᵛ
sum-none up post = weighted_sum-empty (worth up post)

pub sum-one : (up : Bool) (post : Form) (c : Config) → sum_of up post (sure c) ≡ worth up post c
sum-one up post c = worth-one (worth up post) c

pub sum-spread : (up : Bool) (post : Form) (f : Runner) (x : Rational × Config) (xs : Outcomes) (ts : Forest) → sum_of up post (spread f (x ∷ xs) ts) ≡ (finite x.0 *ᵛ sum_of up post (f x.1 (first ts))) +ᵛ sum_of up post (spread f xs (rest ts))
sum-spread up post f x xs ts = worth-spread (worth up post) f x xs ts

pub sum-sure : (up : Bool) (post : Form) (f : Runner) (c : Config) (ts : Forest) → sum_of up post (spread f (sure c) ts) ≡ sum_of up post (f c (first ts))
sum-sure up post f c ts = worth-sure (worth up post) f c ts
