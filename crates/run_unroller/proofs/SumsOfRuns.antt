-- The numbers that the program adds up are the sums over runs.
use Rattle.std.proofs.Common.{◌≡◌, ℕ, ◌+◌, refl, ap, ap₂, sym, subst, arith, ◌∙◌, true, false, List, [], ◌∷◌, ◌++◌, length, length-append}
use Prim.Native.Nat.{zero, suc}
use Rattle.std.specs.Prelude.{Option, Some, None, IfSome}
use Rattle.heyvl_num.specs.Rational.{Rational, zeroʳ, ◌+ʳ◌, ◌*ʳ◌}
use Rattle.heyvl_num.specs.Value.{Value, zeroᵛ, oneᵛ, ◌+ᵛ◌, ◌*ᵛ◌}
use Rattle.heyvl_num.specs.Value.Value.{finite}
use Rattle.heyvl_num.specs.Exact.{exact_sum, exact_product}
use Rattle.heyvl_num.specs.ExactValues.{exact_sumᵛ, exact_productᵛ}
use Rattle.heyvl_num.specs.WeightedSums.{weighted_sum}
use Rattle.heyvl_num.proofs.exported.Exactness.{exact_sum_some, exact_product_some, exact_sumᵛ_some, exact_productᵛ_some}
use Rattle.heyvl_num.proofs.exported.Values.{+ᵛ-zero, zero-+ᵛ, +ᵛ_assoc, +ᵛ_left_comm, scale-+ᵛ, finite-*, finite_sum, *ᵛ-one, *ᵛ-zero}
use Rattle.heylo_formula.specs.Choices.{Choices}
use Rattle.heylo_formula.specs.Formula.{Form}
use Rattle.heylo_formula.specs.Meaning.{value}
use Rattle.heylo_formula.specs.State.{environment}
use Rattle.heyvl_acts.specs.Acts.{TypedProcedure}
use Rattle.quant_algebra.specs.ExactOperators.{and_then}
use Rattle.quant_algebra.specs.Laws.{ExactValuesAreMeant}
use Rattle.run_machine.specs.Configurations.{Config, Outcomes}
use Rattle.run_machine.specs.Names.{Numbered, Stored, items_of}
use Rattle.run_machine.specs.Replies.{named_outcome}
use Rattle.run_machine.specs.Sums.{ended as ended_value, sum_of, turns_in, turns_sum, worth}
use Rattle.run_unroller.specs.RunLists.{RunList, outcomes}
use Rattle.run_unroller.specs.Totals.{Totals, added, added_fractions, added_weights, all_turns, and_one, ended, if_ended, if_running, post_of, post_total, reward_of, reward_total, running, running_total, totals, turns_of, turns_total}
use Rattle.run_unroller.specs.UnrollLaws.{AreSums, AreTurns, unfinished}
use Rattle.run_unroller.proofs.AddedSums.{added-none, fractions-none, weights-none}

no_value : {A : Type 0} (v : A) → None ≡ Some v → ⊥
no_value v e = absurd (cc)

sum-empty : {A : Type 0} (g : A → Value) → weighted_sum g [] ≡ zeroᵛ
unfolding weighted_sum
sum-empty g = refl

sum-cons : {A : Type 0} (g : A → Value) (x : Rational × A) (xs : List (Rational × A)) → weighted_sum g (x ∷ xs) ≡ (finite x.0 *ᵛ g x.1) +ᵛ weighted_sum g xs
unfolding weighted_sum
sum-cons g x xs = refl

-- ---- Values

-- A partial function of runs that agrees with a total one where it is defined.
abbrev Gives : (Stored → Option Value) → (Stored → Value) → Type 0
Gives f g = (r : Stored) → IfSome (f r) (λ v. v ≡ g r)

added_is : (f : Stored → Option Value) (g : Stored → Value) → Gives f g → (s : Value) (xs : RunList) (v : Value) → added f (Some s) xs ≡ Some v → v ≡ s +ᵛ weighted_sum g xs
added_is f g m s [] v e =
    let same : v ≡ s = cc in
    same ∙ sym (ap (λ z. s +ᵛ z) (sum-empty g) ∙ +ᵛ-zero s)
added_is f g m s (x ∷ xs) v e = at_value (λ u h. added_is f g m u xs v h) (f x.1) (m x.1) e
  where
    at_sum : ((u : Value) → added f (Some u) xs ≡ Some v → v ≡ u +ᵛ weighted_sum g xs) → (y z : Value) (o : Option Value) → y ≡ g x.1 → z ≡ finite x.0 *ᵛ y → o ≡ exact_sumᵛ s z → added f o xs ≡ Some v → v ≡ s +ᵛ weighted_sum g (x ∷ xs)
    at_sum more y z None p q k h = elim (no_value v (sym (added-none f xs) ∙ h)) [ ]
    at_sum more y z (Some u) p q k h =
        more u h
        ∙ ap (λ a. a +ᵛ weighted_sum g xs) (exact_sumᵛ_some s z u k ∙ ap (λ a. s +ᵛ a) (q ∙ ap (λ a. finite x.0 *ᵛ a) p))
        ∙ +ᵛ_assoc s (finite x.0 *ᵛ g x.1) (weighted_sum g xs)
        ∙ ap (λ a. s +ᵛ a) (sym (sum-cons g x xs))

    at_product : ((u : Value) → added f (Some u) xs ≡ Some v → v ≡ u +ᵛ weighted_sum g xs) → (y : Value) (o : Option Value) → y ≡ g x.1 → o ≡ exact_productᵛ (finite x.0) y → added f (and_then o (λ z. exact_sumᵛ s z)) xs ≡ Some v → v ≡ s +ᵛ weighted_sum g (x ∷ xs)
    at_product more y None p k h = elim (no_value v (sym (added-none f xs) ∙ h)) [ ]
    at_product more y (Some z) p k h = at_sum more y z (exact_sumᵛ s z) p (exact_productᵛ_some (finite x.0) y z k) refl h

    at_value : ((u : Value) → added f (Some u) xs ≡ Some v → v ≡ u +ᵛ weighted_sum g xs) → (o : Option Value) → IfSome o (λ v. v ≡ g x.1) → added f (and_one (Some s) x.0 o) xs ≡ Some v → v ≡ s +ᵛ weighted_sum g (x ∷ xs)
    at_value more None p h = elim (no_value v (sym (added-none f xs) ∙ h)) [ ]
    at_value more (Some y) p h = at_product more y (exact_productᵛ (finite x.0) y) p refl h

total_is : (f : Stored → Option Value) (g : Stored → Value) → Gives f g → (xs : RunList) (v : Value) → added f (Some zeroᵛ) xs ≡ Some v → v ≡ weighted_sum g xs
total_is f g m xs v e = added_is f g m zeroᵛ xs v e ∙ zero-+ᵛ (weighted_sum g xs)

-- ---- Fractions

fractions_are : (f : Stored → Rational) (s : Rational) (xs : RunList) (t : Rational) → added_fractions f (Some s) xs ≡ Some t → finite t ≡ finite s +ᵛ weighted_sum (λ r. finite (f r)) xs
fractions_are f s [] t e =
    let same : t ≡ s = cc in
    ap finite same ∙ sym (ap (λ z. finite s +ᵛ z) (sum-empty (λ r. finite (f r))) ∙ +ᵛ-zero (finite s))
fractions_are f s (x ∷ xs) t e = at_product (λ u h. fractions_are f u xs t h) (exact_product x.0 (f x.1)) refl e
  where
    at_sum : ((u : Rational) → added_fractions f (Some u) xs ≡ Some t → finite t ≡ finite u +ᵛ weighted_sum (λ r. finite (f r)) xs) → (z : Rational) (o : Option Rational) → z ≡ x.0 *ʳ f x.1 → o ≡ exact_sum s z → added_fractions f o xs ≡ Some t → finite t ≡ finite s +ᵛ weighted_sum (λ r. finite (f r)) (x ∷ xs)
    at_sum more z None q k h = elim (no_value t (sym (fractions-none f xs) ∙ h)) [ ]
    at_sum more z (Some u) q k h =
        more u h
        ∙ ap (λ a. finite a +ᵛ weighted_sum (λ r. finite (f r)) xs) (exact_sum_some s z u k ∙ ap (λ a. s +ʳ a) q)
        ∙ ap (λ a. a +ᵛ weighted_sum (λ r. finite (f r)) xs) (finite_sum s (x.0 *ʳ f x.1) ∙ ap (λ a. finite s +ᵛ a) (sym (finite-* x.0 (f x.1))))
        ∙ +ᵛ_assoc (finite s) (finite x.0 *ᵛ finite (f x.1)) (weighted_sum (λ r. finite (f r)) xs)
        ∙ ap (λ a. finite s +ᵛ a) (sym (sum-cons (λ r. finite (f r)) x xs))

    at_product : ((u : Rational) → added_fractions f (Some u) xs ≡ Some t → finite t ≡ finite u +ᵛ weighted_sum (λ r. finite (f r)) xs) → (o : Option Rational) → o ≡ exact_product x.0 (f x.1) → added_fractions f (and_then o (λ z. exact_sum s z)) xs ≡ Some t → finite t ≡ finite s +ᵛ weighted_sum (λ r. finite (f r)) (x ∷ xs)
    at_product more None k h = elim (no_value t (sym (fractions-none f xs) ∙ h)) [ ]
    at_product more (Some z) k h = at_sum more z (exact_sum s z) (exact_product_some x.0 (f x.1) z k) refl h

abbrev one : Stored → Value
one r = oneᵛ

weights_are : (s : Rational) (xs : RunList) (t : Rational) → added_weights (Some s) xs ≡ Some t → finite t ≡ finite s +ᵛ weighted_sum one xs
weights_are s [] t e =
    let same : t ≡ s = cc in
    ap finite same ∙ sym (ap (λ z. finite s +ᵛ z) (sum-empty one) ∙ +ᵛ-zero (finite s))
weights_are s (x ∷ xs) t e = at_sum (λ u h. weights_are u xs t h) (exact_sum s x.0) refl e
  where
    at_sum : ((u : Rational) → added_weights (Some u) xs ≡ Some t → finite t ≡ finite u +ᵛ weighted_sum one xs) → (o : Option Rational) → o ≡ exact_sum s x.0 → added_weights o xs ≡ Some t → finite t ≡ finite s +ᵛ weighted_sum one (x ∷ xs)
    at_sum more None k h = elim (no_value t (sym (weights-none xs) ∙ h)) [ ]
    at_sum more (Some u) k h =
        more u h
        ∙ ap (λ a. finite a +ᵛ weighted_sum one xs) (exact_sum_some s x.0 u k)
        ∙ ap (λ a. a +ᵛ weighted_sum one xs) (finite_sum s x.0 ∙ ap (λ a. finite s +ᵛ a) (sym (*ᵛ-one (finite x.0))))
        ∙ +ᵛ_assoc (finite s) (finite x.0 *ᵛ oneᵛ) (weighted_sum one xs)
        ∙ ap (λ a. finite s +ᵛ a) (sym (sum-cons one x xs))

-- ---- Sums over runs

abbrev reward_in : Stored → Value
reward_in r = r.reward

abbrev post_in : Form → Stored → Value
post_in post r = value post (environment r.state) Choices.stop

upper_one : (ps : List TypedProcedure) (post : Form) (x : Rational × Stored) (xs : RunList) (is : List Numbered) (rest rewards posts : Value) → rest ≡ rewards +ᵛ weighted_sum (post_in post) xs → (finite x.0 *ᵛ (x.1.reward +ᵛ ended_value true post (items_of ps is) x.1.state)) +ᵛ rest ≡ ((finite x.0 *ᵛ x.1.reward) +ᵛ rewards) +ᵛ weighted_sum (post_in post) (if_ended is x xs)
upper_one ps post x xs [] rest rewards posts e =
    ap (λ a. (finite x.0 *ᵛ (x.1.reward +ᵛ post_in post x.1)) +ᵛ a) e
    ∙ pull (finite x.0 *ᵛ x.1.reward) (finite x.0 *ᵛ post_in post x.1) rewards (weighted_sum (post_in post) xs) (finite x.0 *ᵛ (x.1.reward +ᵛ post_in post x.1)) (scale-+ᵛ x.0 x.1.reward (post_in post x.1))
    ∙ ap (λ a. ((finite x.0 *ᵛ x.1.reward) +ᵛ rewards) +ᵛ a) (sym (sum-cons (post_in post) x xs))
  where
    pull : (a b c d w : Value) → w ≡ a +ᵛ b → w +ᵛ (c +ᵛ d) ≡ (a +ᵛ c) +ᵛ (b +ᵛ d)
    pull a b c d w h = ap (λ u. u +ᵛ (c +ᵛ d)) h ∙ +ᵛ_assoc a b (c +ᵛ d) ∙ ap (λ u. a +ᵛ u) (+ᵛ_left_comm b c d) ∙ sym (+ᵛ_assoc a c (b +ᵛ d))
upper_one ps post x xs (i ∷ is) rest rewards posts e =
    ap₂ (λ a b. (finite x.0 *ᵛ a) +ᵛ b) (+ᵛ-zero x.1.reward) e
    ∙ sym (+ᵛ_assoc (finite x.0 *ᵛ x.1.reward) rewards (weighted_sum (post_in post) xs))

upper_sum : (ps : List TypedProcedure) (post : Form) (xs : RunList) → sum_of true post (outcomes ps xs) ≡ weighted_sum reward_in xs +ᵛ weighted_sum (post_in post) (ended xs)
upper_sum ps post [] = sum-empty (worth true post) ∙ sym (ap₂ (λ a b. a +ᵛ b) (sum-empty reward_in) (sum-empty (post_in post)) ∙ +ᵛ-zero zeroᵛ)
upper_sum ps post (x ∷ xs) =
    sum-cons (worth true post) (named_outcome ps x) (outcomes ps xs)
    ∙ upper_one ps post x (ended xs) x.1.items (sum_of true post (outcomes ps xs)) (weighted_sum reward_in xs) zeroᵛ (upper_sum ps post xs)
    ∙ ap (λ a. a +ᵛ weighted_sum (post_in post) (if_ended x.1.items x (ended xs))) (sym (sum-cons reward_in x xs))

weak_one : (ps : List TypedProcedure) (post : Form) (x : Rational × Stored) (xs ys : RunList) (is : List Numbered) (rest : Value) → rest ≡ weighted_sum (post_in post) xs +ᵛ weighted_sum one ys → (finite x.0 *ᵛ ended_value false post (items_of ps is) x.1.state) +ᵛ rest ≡ weighted_sum (post_in post) (if_ended is x xs) +ᵛ weighted_sum one (if_running is x ys)
weak_one ps post x xs ys [] rest e =
    ap (λ a. (finite x.0 *ᵛ post_in post x.1) +ᵛ a) e
    ∙ sym (+ᵛ_assoc (finite x.0 *ᵛ post_in post x.1) (weighted_sum (post_in post) xs) (weighted_sum one ys))
    ∙ ap (λ a. a +ᵛ weighted_sum one ys) (sym (sum-cons (post_in post) x xs))
weak_one ps post x xs ys (i ∷ is) rest e =
    ap (λ a. (finite x.0 *ᵛ oneᵛ) +ᵛ a) e
    ∙ +ᵛ_left_comm (finite x.0 *ᵛ oneᵛ) (weighted_sum (post_in post) xs) (weighted_sum one ys)
    ∙ ap (λ a. weighted_sum (post_in post) xs +ᵛ a) (sym (sum-cons one x ys))

weak_sum : (ps : List TypedProcedure) (post : Form) (xs : RunList) → sum_of false post (outcomes ps xs) ≡ weighted_sum (post_in post) (ended xs) +ᵛ weighted_sum one (running xs)
weak_sum ps post [] = sum-empty (worth false post) ∙ sym (ap₂ (λ a b. a +ᵛ b) (sum-empty (post_in post)) (sum-empty one) ∙ +ᵛ-zero zeroᵛ)
weak_sum ps post (x ∷ xs) = sum-cons (worth false post) (named_outcome ps x) (outcomes ps xs) ∙ weak_one ps post x (ended xs) (running xs) x.1.items (sum_of false post (outcomes ps xs)) (weak_sum ps post xs)

nothing_added : (w : Rational) (v : Value) → (finite w *ᵛ zeroᵛ) +ᵛ v ≡ v
nothing_added w v = ap (λ a. a +ᵛ v) (*ᵛ-zero (finite w)) ∙ zero-+ᵛ v

post_of_one : (ps : List TypedProcedure) (post : Form) (x : Rational × Stored) (xs : RunList) (is : List Numbered) (rest : Value) → rest ≡ weighted_sum (post_in post) xs → (finite x.0 *ᵛ ended_value true post (items_of ps is) x.1.state) +ᵛ rest ≡ weighted_sum (post_in post) (if_ended is x xs)
post_of_one ps post x xs [] rest e = ap (λ a. (finite x.0 *ᵛ post_in post x.1) +ᵛ a) e ∙ sym (sum-cons (post_in post) x xs)
post_of_one ps post x xs (i ∷ is) rest e = nothing_added x.0 rest ∙ e

post_sum : (ps : List TypedProcedure) (post : Form) (xs : RunList) → weighted_sum (λ (c : Config). ended_value true post c.items c.state) (outcomes ps xs) ≡ weighted_sum (post_in post) (ended xs)
post_sum ps post [] = sum-empty (λ (c : Config). ended_value true post c.items c.state) ∙ sym (sum-empty (post_in post))
post_sum ps post (x ∷ xs) = sum-cons (λ (c : Config). ended_value true post c.items c.state) (named_outcome ps x) (outcomes ps xs) ∙ post_of_one ps post x (ended xs) x.1.items (weighted_sum (λ (c : Config). ended_value true post c.items c.state) (outcomes ps xs)) (post_sum ps post xs)

reward_sum : (ps : List TypedProcedure) (xs : RunList) → weighted_sum (λ (c : Config). c.reward) (outcomes ps xs) ≡ weighted_sum reward_in xs
reward_sum ps [] = sum-empty (λ (c : Config). c.reward) ∙ sym (sum-empty reward_in)
reward_sum ps (x ∷ xs) = sum-cons (λ (c : Config). c.reward) (named_outcome ps x) (outcomes ps xs) ∙ ap (λ a. (finite x.0 *ᵛ x.1.reward) +ᵛ a) (reward_sum ps xs) ∙ sym (sum-cons reward_in x xs)

weight_of_one : (ps : List TypedProcedure) (x : Rational × Stored) (xs : RunList) (is : List Numbered) (rest : Value) → rest ≡ weighted_sum one xs → (finite x.0 *ᵛ unfinished (items_of ps is)) +ᵛ rest ≡ weighted_sum one (if_running is x xs)
weight_of_one ps x xs [] rest e = nothing_added x.0 rest ∙ e
weight_of_one ps x xs (i ∷ is) rest e = ap (λ a. (finite x.0 *ᵛ oneᵛ) +ᵛ a) e ∙ sym (sum-cons one x xs)

running_sum : (ps : List TypedProcedure) (xs : RunList) → weighted_sum (λ (c : Config). unfinished c.items) (outcomes ps xs) ≡ weighted_sum one (running xs)
running_sum ps [] = sum-empty (λ (c : Config). unfinished c.items) ∙ sym (sum-empty one)
running_sum ps (x ∷ xs) = sum-cons (λ (c : Config). unfinished c.items) (named_outcome ps x) (outcomes ps xs) ∙ weight_of_one ps x (running xs) x.1.items (weighted_sum (λ (c : Config). unfinished c.items) (outcomes ps xs)) (running_sum ps xs)

same_turns : (ps : List TypedProcedure) (number : ℕ) (xs : RunList) → turns_sum number (outcomes ps xs) ≡ weighted_sum (λ r. finite (turns_of number r)) xs
same_turns ps number [] = sum-empty (turns_in number) ∙ sym (sum-empty (λ r. finite (turns_of number r)))
same_turns ps number (x ∷ xs) = sum-cons (turns_in number) (named_outcome ps x) (outcomes ps xs) ∙ ap (λ a. (finite x.0 *ᵛ turns_in number (named_outcome ps x).1) +ᵛ a) (same_turns ps number xs) ∙ sym (sum-cons (λ r. finite (turns_of number r)) x xs)

zero_first : (v : Value) → finite zeroʳ +ᵛ v ≡ v
unfolding zeroᵛ
zero_first v = zero-+ᵛ v

turns_are : (ps : List TypedProcedure) (number : ℕ) (rs : RunList) (t : Rational) → turns_total number rs ≡ Some t → turns_sum number (outcomes ps rs) ≡ finite t
turns_are ps number rs t e = same_turns ps number rs ∙ sym (fractions_are (turns_of number) zeroʳ rs t e ∙ zero_first (weighted_sum (λ r. finite (turns_of number r)) rs))

turns_more : (number : ℕ) (cs : Outcomes) (ts : List Rational) (t : Rational) → AreTurns number ts cs → turns_sum (number + length ts) cs ≡ finite t → AreTurns number (ts ++ (t ∷ [])) cs
turns_more number cs [] t h e = (ap (λ n. turns_sum n cs) (let z : number ≡ number + 0 = omega arith in z) ∙ e, tt)
turns_more number cs (u ∷ us) t h e = (h.0, turns_more (suc number) cs us t h.1 (ap (λ n. turns_sum n cs) (let z : suc number + length us ≡ number + suc (length us) = omega arith in z) ∙ e))

record Counted (ps : List TypedProcedure) (n : ℕ) (rs : RunList) (ts : List Rational) : Type 0 where
  turns : AreTurns 1 ts (outcomes ps rs)
  loops : length ts ≡ n

counted : (ps : List TypedProcedure) (n : ℕ) (rs : RunList) (ts : List Rational) → all_turns n rs ≡ Some ts → Counted ps n rs ts
counted ps zero rs ts e =
    let none : [] ≡ ts = cc in
    subst (Counted ps zero rs) none (record { turns = tt; loops = refl })
counted ps (suc n) rs ts e = at_others (λ us h. counted ps n rs us h) (all_turns n rs) refl e
  where
    at_one : (us : List Rational) (o : Option Rational) → Counted ps n rs us → turns_total (suc n) rs ≡ o → and_then o (λ t. Some (us ++ (t ∷ []))) ≡ Some ts → Counted ps (suc n) rs ts
    at_one us None h k g = elim (no_value ts g) [ ]
    at_one us (Some t) h k g =
        let same : us ++ (t ∷ []) ≡ ts = cc in
        let at : turns_sum (1 + length us) (outcomes ps rs) ≡ finite t = ap (λ m. turns_sum m (outcomes ps rs)) (let l = h.loops in let z : 1 + length us ≡ suc n = omega (arith, l) in z) ∙ turns_are ps (suc n) rs t k in
        subst (Counted ps (suc n) rs) same (record { turns = turns_more 1 (outcomes ps rs) us t h.turns at; loops = let l = h.loops in length-append us (t ∷ []) ∙ (let z : length us + 1 ≡ suc n = omega (arith, l) in z) })

    at_others : ((us : List Rational) → all_turns n rs ≡ Some us → Counted ps n rs us) → (o : Option (List Rational)) → all_turns n rs ≡ o → and_then o (λ us. and_then (turns_total (suc n) rs) (λ t. Some (us ++ (t ∷ [])))) ≡ Some ts → Counted ps (suc n) rs ts
    at_others more None h g = elim (no_value ts g) [ ]
    at_others more (Some us) h g = at_one us (turns_total (suc n) rs) (more us h) refl g

-- ---- The totals

record Parts (p : TypedProcedure) (rs : RunList) (t : Totals) : Type 0 where
  post : post_total p.post rs ≡ Some t.post
  reward : reward_total rs ≡ Some t.reward
  running : running_total rs ≡ Some t.running
  turns : all_turns p.loops rs ≡ Some t.turns

parts : (p : TypedProcedure) (rs : RunList) (t : Totals) → totals p rs ≡ Some t → Parts p rs t
parts p rs t e = at_post (post_total p.post rs) refl e
  where
    at_turns : (a b : Value) (w : Rational) (o : Option (List Rational)) → post_total p.post rs ≡ Some a → reward_total rs ≡ Some b → running_total rs ≡ Some w → all_turns p.loops rs ≡ o → and_then o (λ turns. Some (record { post = a; reward = b; running = w; turns = turns })) ≡ Some t → Parts p rs t
    at_turns a b w None h k l j g = elim (no_value t g) [ ]
    at_turns a b w (Some ts) h k l j g =
        let same : record { post = a; reward = b; running = w; turns = ts } ≡ t = cc in
        record { post = h ∙ ap (λ (u : Totals). Some u.post) same; reward = k ∙ ap (λ (u : Totals). Some u.reward) same; running = l ∙ ap (λ (u : Totals). Some u.running) same; turns = j ∙ ap (λ (u : Totals). Some u.turns) same }

    at_running : (a b : Value) (o : Option Rational) → post_total p.post rs ≡ Some a → reward_total rs ≡ Some b → running_total rs ≡ o → and_then o (λ running. and_then (all_turns p.loops rs) (λ turns. Some (record { post = a; reward = b; running = running; turns = turns }))) ≡ Some t → Parts p rs t
    at_running a b None h k l g = elim (no_value t g) [ ]
    at_running a b (Some w) h k l g = at_turns a b w (all_turns p.loops rs) h k l refl g

    at_reward : (a : Value) (o : Option Value) → post_total p.post rs ≡ Some a → reward_total rs ≡ o → and_then o (λ reward. and_then (running_total rs) (λ running. and_then (all_turns p.loops rs) (λ turns. Some (record { post = a; reward = reward; running = running; turns = turns })))) ≡ Some t → Parts p rs t
    at_reward a None h k g = elim (no_value t g) [ ]
    at_reward a (Some b) h k g = at_running a b (running_total rs) h k refl g

    at_post : (o : Option Value) → post_total p.post rs ≡ o → and_then o (λ post. and_then (reward_total rs) (λ reward. and_then (running_total rs) (λ running. and_then (all_turns p.loops rs) (λ turns. Some (record { post = post; reward = reward; running = running; turns = turns }))))) ≡ Some t → Parts p rs t
    at_post None h g = elim (no_value t g) [ ]
    at_post (Some a) h g = at_reward a (reward_total rs) h refl g

pub totals_are : ExactValuesAreMeant → (ps : List TypedProcedure) (p : TypedProcedure) (rs : RunList) (t : Totals) → totals p rs ≡ Some t → AreSums p (outcomes ps rs) t
totals_are m ps p rs t e =
    let q = parts p rs t e in
    let post : t.post ≡ weighted_sum (post_in p.post) (ended rs) = total_is (post_of p.post) (post_in p.post) (λ r. m p.post r.state) (ended rs) t.post q.post in
    let reward : t.reward ≡ weighted_sum reward_in rs = total_is reward_of reward_in (λ r. refl) rs t.reward q.reward in
    let weight : finite t.running ≡ weighted_sum one (running rs) = weights_are zeroʳ (running rs) t.running q.running ∙ zero_first (weighted_sum one (running rs)) in
    let turns = counted ps p.loops rs t.turns q.turns in
    record {
      post = post_sum ps p.post rs ∙ sym post;
      reward = reward_sum ps rs ∙ sym reward;
      running = running_sum ps rs ∙ sym weight;
      upper = upper_sum ps p.post rs ∙ sym (ap₂ (λ a b. a +ᵛ b) reward post);
      weak = weak_sum ps p.post rs ∙ sym (ap₂ (λ a b. a +ᵛ b) post weight);
      turns = turns.turns;
      loops = turns.loops;
    }
