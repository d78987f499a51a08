-- The laws of steps and runs.
use Rattle.std.proofs.Common.{◌≡◌, ℕ, ◌+◌, refl, sym, ap, ap₂, ◌∙◌, zero-add, List, [], ◌∷◌, ◌++◌, append_assoc, arith}
use Prim.Native.Nat.{zero, suc}
use Rattle.heyvl_num.specs.Rational.{Rational, oneʳ, ◌*ʳ◌}
use Rattle.heyvl_num.specs.WeightedSums.{scaled, joined}
use Rattle.heyvl_num.proofs.exported.Rationals.{one-*ʳ, *ʳ_assoc}
use Rattle.heylo_formula.specs.declared.types.Ty.{Ty}
use Rattle.heyvl_acts.specs.Acts.{TypedProcedure}
use Rattle.run_machine.specs.Configurations.{Item, Config, Outcomes}
use Rattle.run_machine.specs.Step.{step, step_item}
use Rattle.run_machine.specs.Scheduler.{Tree, Forest, decision, under, first, rest}
use Rattle.run_machine.specs.Runs.{Runner, spread, onward, runs}
use Rattle.run_machine.specs.RunLaws.{StepsAreDetermined, PicksGoLeft, IllTypedIsDefault, MissingIsDefault, AnysAreOuts, EndedStays, Reached, spread_reached, onward_reached, reached, RunsContinue}
use Rattle.run_machine.proofs.exported.Equations.{runs-zero, runs-next}

pub steps_are_determined : StepsAreDetermined
steps_are_determined ps c e d f p q = ap₂ (λ x y. step ps x y) p q

pub picks_go_left : PicksGoLeft
picks_go_left ps up a b span is c v = (refl, refl)

pub ill_typed_is_default : IllTypedIsDefault
ill_typed_is_default ps x ty is c v h = rw h refl

pub missing_is_default : MissingIsDefault
missing_is_default ps x Ty.Bool is c = refl
missing_is_default ps x Ty.Int is c = refl
missing_is_default ps x Ty.UInt is c = refl
missing_is_default ps x Ty.UReal is c = refl

pub anys_are_outs : AnysAreOuts
anys_are_outs ps x up ty span is c d = refl

pub ended_stays : EndedStays
ended_stays ps zero c t h = runs-zero ps c t
ended_stays ps (suc n) c t h = runs-next ps n c t ∙ ap (λ is. onward ps (runs ps n) is c t) h

-- ---- Runs after runs

append_nothing : {A : Type 0} (xs : List A) → xs ++ [] ≡ xs
append_nothing [] = refl
append_nothing (x ∷ xs) = ap (λ l. x ∷ l) (append_nothing xs)

scaled-one : {A : Type 0} (xs : List (Rational × A)) → scaled oneʳ xs ≡ xs
unfolding scaled
scaled-one [] = refl
scaled-one (x ∷ xs) = ap₂ (λ w l. (w, x.1) ∷ l) (one-*ʳ x.0) (scaled-one xs)

scaled-append : {A : Type 0} (w : Rational) (xs ys : List (Rational × A)) → scaled w (xs ++ ys) ≡ scaled w xs ++ scaled w ys
unfolding scaled
scaled-append w [] ys = refl
scaled-append w (x ∷ xs) ys = ap (λ l. (w *ʳ x.0, x.1) ∷ l) (scaled-append w xs ys)

scaled-scaled : {A : Type 0} (v w : Rational) (xs : List (Rational × A)) → scaled (v *ʳ w) xs ≡ scaled v (scaled w xs)
unfolding scaled
scaled-scaled v w [] = refl
scaled-scaled v w (x ∷ xs) = ap₂ (λ u l. (u, x.1) ∷ l) (*ʳ_assoc v w x.0) (scaled-scaled v w xs)

joined-append : {A B : Type 0} (k : A → List (Rational × B)) (xs ys : List (Rational × A)) → joined k (xs ++ ys) ≡ joined k xs ++ joined k ys
unfolding joined
joined-append k [] ys = refl
joined-append k (x ∷ xs) ys = ap (λ l. scaled x.0 (k x.1) ++ l) (joined-append k xs ys) ∙ sym (append_assoc (scaled x.0 (k x.1)) (joined k xs) (joined k ys))

joined-scaled : {A B : Type 0} (k : A → List (Rational × B)) (w : Rational) (xs : List (Rational × A)) → joined k (scaled w xs) ≡ scaled w (joined k xs)
unfolding joined scaled
joined-scaled k w [] = refl
joined-scaled k w (x ∷ xs) = ap₂ (λ l m. l ++ m) (scaled-scaled w x.0 (k x.1)) (joined-scaled k w xs) ∙ sym (scaled-append w (scaled x.0 (k x.1)) (joined k xs))

joined-one : {A B : Type 0} (k : A → List (Rational × B)) (a : A) → joined k ((oneʳ, a) ∷ []) ≡ k a
unfolding joined
joined-one k a = append_nothing (scaled oneʳ (k a)) ∙ scaled-one (k a)

spread_joined : (f : Runner) (g : Config → Tree → Reached) (k : Config × Tree → Outcomes) → ((c : Config) (t : Tree) → f c t ≡ joined k (g c t)) → (xs : Outcomes) (ts : Forest) → spread f xs ts ≡ joined k (spread_reached g xs ts)
unfolding joined
spread_joined f g k h [] ts = refl
spread_joined f g k h (x ∷ xs) ts = ap₂ (λ l m. scaled x.0 l ++ m) (h x.1 (first ts)) (spread_joined f g k h xs (rest ts)) ∙ ap (λ l. l ++ joined k (spread_reached g xs (rest ts))) (sym (joined-scaled k x.0 (g x.1 (first ts)))) ∙ sym (joined-append k (scaled x.0 (g x.1 (first ts))) (spread_reached g xs (rest ts)))

onward_joined : (ps : List TypedProcedure) (n m : ℕ) → ((c : Config) (t : Tree) → runs ps (n + m) c t ≡ joined (λ r. runs ps m r.0 r.1) (reached ps n c t)) → (is : List Item) (c : Config) (t : Tree) → c.items ≡ is → onward ps (runs ps (n + m)) is c t ≡ joined (λ r. runs ps m r.0 r.1) (onward_reached ps (reached ps n) is c t)
onward_joined ps n m h [] c t e = sym (joined-one (λ r. runs ps m r.0 r.1) (c, t) ∙ ended_stays ps m c t e)
onward_joined ps n m h (i ∷ is) c t e = spread_joined (runs ps (n + m)) (reached ps n) (λ r. runs ps m r.0 r.1) h (step_item ps i is c (decision t)) (under t)

pub runs_continue : RunsContinue
runs_continue ps zero m c t = ap (λ k. runs ps k c t) (zero-add m) ∙ sym (joined-one (λ r. runs ps m r.0 r.1) (c, t))
runs_continue ps (suc n) m c t = ap (λ k. runs ps k c t) (let e : suc n + m ≡ suc (n + m) = omega arith in e) ∙ runs-next ps (n + m) c t ∙ onward_joined ps n m (λ e k. runs_continue ps n m e k) c.items c t refl
