-- A step's list is too long exactly if `Full` stops the step.
use Rattle.std.proofs.Common.{◌≡◌, ◌<◌, ◌≤◌, ◌∙◌, refl, sym, ap, subst, arith, Bool, true, false, List, [], ◌∷◌, ◌++◌, length, map}
use Rattle.std.specs.Option.{option_or}
use Rattle.std.specs.Prelude.{Option, Some, None, is_some, nat_lt, if◌then◌else◌}
use Prim.Native.Nat.{suc}
use Rattle.heyvl_num.specs.Exact.{exact_product, exact_sum}
use Rattle.heyvl_num.specs.Rational.{Rational, oneʳ, ◌*ʳ◌, ◌+ʳ◌}
use Rattle.heyvl_num.specs.WeightedSums.{joined, scaled}
use Rattle.heyvl_acts.specs.Acts.{TypedProcedure}
use Rattle.run_machine.specs.declared.configurations.Decide.{Decide}
use Rattle.run_machine.specs.Names.{Numbered, Stored}
use Rattle.run_machine.specs.Replies.{StoredOutcomes, any_large, replied}
use Rattle.run_machine.specs.SameConfigurations.{same_stored}
use Rattle.run_machine.specs.StoredStep.{stored_step}
use Rattle.run_unroller.specs.declared.causes.Cause.{Cause}
use Rattle.run_unroller.specs.declared.causes.Cause.TheVariants.{Bits, Deep, Full}
use Rattle.run_unroller.specs.Causes.{Brought, all_brought, brought, brought_by, first_cause, join_cause, product_cause, put_cause}
use Rattle.run_unroller.specs.FullLists.{FullListsAreLong, OtherListsAreShort}
use Rattle.run_unroller.specs.MergedLists.{held, merged_onto, put}
use Rattle.run_unroller.specs.RunLists.{RunList, follow, followed}
use Rattle.run_unroller.specs.Scripts.{entry}

-- ---- Lengths of lists to which a run is added

put_length_at : {A : Type 0} (b : Bool) (x e : Rational × A) (es more : List (Rational × A)) (h : Option Rational) → (h ≡ None → length more ≡ suc (length es)) → ((if b then Some e.0 else h) ≡ None) → length (if b then (e.0 +ʳ x.0, e.1) ∷ es else e ∷ more) ≡ suc (suc (length es))
put_length_at true x e es more h k n = absurd (cc)
put_length_at false x e es more h k n = ap (λ m. suc m) (k n)

put_new : {A : Type 0} (same : A → A → Bool) (x : Rational × A) (es : List (Rational × A)) → held same x.1 es ≡ None → length (put same x es) ≡ suc (length es)
put_new same x [] n = refl
put_new same x (e ∷ es) n = put_length_at (same x.1 e.1) x e es (put same x es) (held same x.1 es) (put_new same x es) n

put_same_at : {A : Type 0} (b : Bool) (x e : Rational × A) (es more : List (Rational × A)) (h : Option Rational) (v : Rational) → (h ≡ Some v → length more ≡ length es) → ((if b then Some e.0 else h) ≡ Some v) → length (if b then (e.0 +ʳ x.0, e.1) ∷ es else e ∷ more) ≡ suc (length es)
put_same_at true x e es more h v k n = refl
put_same_at false x e es more h v k n = ap (λ m. suc m) (k n)

put_there : {A : Type 0} (same : A → A → Bool) (x : Rational × A) (es : List (Rational × A)) (v : Rational) → held same x.1 es ≡ Some v → length (put same x es) ≡ length es
put_there same x [] v n = absurd (cc)
put_there same x (e ∷ es) v n = put_same_at (same x.1 e.1) x e es (put same x es) (held same x.1 es) v (put_there same x es v) n

put_longer : {A : Type 0} (same : A → A → Bool) (x : Rational × A) (es : List (Rational × A)) → length es ≤ length (put same x es)
put_longer same x es = go (held same x.1 es) refl
  where
    go : (h : Option Rational) → held same x.1 es ≡ h → length es ≤ length (put same x es)
    go None e = let l = put_new same x es e in omega (arith, l)
    go (Some v) e = let l = put_there same x es v e in omega (arith, l)

onto_longer : {A : Type 0} (same : A → A → Bool) (es xs : List (Rational × A)) → length es ≤ length (merged_onto same es xs)
unfolding merged_onto
onto_longer same es [] = omega arith
onto_longer same es (x ∷ xs) = let a = put_longer same x es in let b = onto_longer same (put same x es) xs in omega (arith, a, b)

onto_next : {A : Type 0} (same : A → A → Bool) (es : List (Rational × A)) (x : Rational × A) (xs : List (Rational × A)) → merged_onto same es (x ∷ xs) ≡ merged_onto same (put same x es) xs
unfolding merged_onto
onto_next same es x xs = refl

onto_nothing : {A : Type 0} (same : A → A → Bool) (es : List (Rational × A)) → merged_onto same es [] ≡ es
unfolding merged_onto
onto_nothing same es = refl

-- ---- Contributions

-- The contributions are these outcomes, up to the first cause, which is not `Full`.
data Joins : List Brought → RunList → Type 0 where
  done : Joins [] []
  stopped : (c : Cause) (more : List Brought) (xs : RunList) → (c ≡ Full → ⊥) → Joins (Brought.stops c ∷ more) xs
  next : (w : Rational) (x : Rational × Stored) (bs : List Brought) (xs : RunList) → Joins bs xs → Joins (Brought.joins w x ∷ bs) ((w *ʳ x.0, x.1) ∷ xs)

joins_more : (cs bs : List Brought) (xs ys : RunList) → Joins cs xs → Joins bs ys → Joins (cs ++ bs) (xs ++ ys)
joins_more _ bs _ ys Joins.done k = k
joins_more _ bs _ ys (Joins.stopped c more xs n) k = Joins.stopped c (more ++ bs) (xs ++ ys) n
joins_more _ bs _ ys (Joins.next w x cs xs h) k = Joins.next w x (cs ++ bs) (xs ++ ys) (joins_more cs bs xs ys h k)

each_joins : (w : Rational) (xs : StoredOutcomes) → Joins (map (Brought.joins w) xs) (scaled w xs)
unfolding scaled
each_joins w [] = Joins.done
each_joins w (x ∷ xs) = Joins.next w x (map (Brought.joins w) xs) (scaled w xs) (each_joins w xs)

deep_or_bits : (fits large : Bool) (w : Rational) (xs : StoredOutcomes) → any_large xs ≡ large → Joins (brought_by w (replied fits xs)) (scaled w xs)
deep_or_bits false large w xs e = Joins.stopped Bits [] (scaled w xs) (λ n. cc)
deep_or_bits true true w xs e = rw e (Joins.stopped Deep [] (scaled w xs) (λ n. cc))
deep_or_bits true false w xs e = rw e (each_joins w xs)

run_joins : (ps : List TypedProcedure) (script : List Decide) (is : List Numbered) (w : Rational) (c : Stored) → Joins (brought ps script is w c) (scaled w (followed ps script is c))
unfolding scaled
run_joins ps script [] w c = Joins.next w (oneʳ, c) [] [] Joins.done
run_joins ps script (i ∷ is) w c = deep_or_bits _ _ w (stored_step ps c (entry script c.made)) refl

all_join : (ps : List TypedProcedure) (script : List Decide) (rs : RunList) → Joins (all_brought ps script rs) (joined (follow ps script) rs)
unfolding joined
all_join ps script [] = Joins.done
all_join ps script (x ∷ xs) = joins_more (brought ps script x.1.items x.0 x.1) (all_brought ps script xs) (scaled x.0 (follow ps script x.1)) (joined (follow ps script) xs) (run_joins ps script x.1.items x.0 x.1) (all_join ps script xs)

-- ---- One outcome

-- A run that makes the list too long is a new one, after 65,536 others.
record IsOneMore (es : RunList) (c : Stored) : Type 0 where
  none : held same_stored c es ≡ None
  many : 65536 ≤ length es

full_put : (es : RunList) (c : Stored) (w : Rational) (h : Option Rational) → held same_stored c es ≡ h → put_cause (length es) w h ≡ Some Full → IsOneMore es c
full_put es c w (Some v) e f = absurd (bits_or_none (is_some (exact_sum v w)) f)
  where
    bits_or_none : (b : Bool) → (if b then None else Some Bits) ≡ Some Full → ⊥
    bits_or_none true f = cc
    bits_or_none false f = cc
full_put es c w None e f = go (nat_lt (length es) 65536) refl f
  where
    go : (b : Bool) → nat_lt (length es) 65536 ≡ b → (if b then None else Some Full) ≡ Some Full → IsOneMore es c
    go true l f = absurd (cc)
    go false l f = record { none = e; many = grind (arith, l) }

full_product : (es : RunList) (c : Stored) (o : Option Rational) → product_cause es c o ≡ Some Full → IsOneMore es c
full_product es c None f = absurd (cc)
full_product es c (Some w) f = full_put es c w (held same_stored c es) refl f

short_put : (es : RunList) (c : Stored) (v w : Rational) (h : Option Rational) → held same_stored c es ≡ h → put_cause (length es) w h ≡ None → length es ≤ 65536 → length (put same_stored (v, c) es) ≤ 65536
short_put es c v w (Some u) e f l = let k = put_there same_stored (v, c) es u e in omega (arith, k, l)
short_put es c v w None e f l = go (nat_lt (length es) 65536) refl f
  where
    go : (b : Bool) → nat_lt (length es) 65536 ≡ b → (if b then None else Some Full) ≡ None → length (put same_stored (v, c) es) ≤ 65536
    go true m f = let k = put_new same_stored (v, c) es e in let s : length es < 65536 = grind (arith, m) in omega (arith, k, s)
    go false m f = absurd (cc)

short_product : (es : RunList) (c : Stored) (v : Rational) (o : Option Rational) → product_cause es c o ≡ None → length es ≤ 65536 → length (put same_stored (v, c) es) ≤ 65536
short_product es c v None f l = absurd (cc)
short_product es c v (Some w) f l = short_put es c v w (held same_stored c es) refl f l

-- ---- All of them

long_from : (bs : List Brought) (xs es : RunList) → Joins bs xs → first_cause es bs ≡ Some Full → 65536 < length (merged_onto same_stored es xs)
long_from _ _ es Joins.done f = absurd (cc)
long_from _ _ es (Joins.stopped c more xs n) f = absurd (n (same_some c Full f))
  where
    same_some : (a b : Cause) → Some a ≡ Some b → a ≡ b
    same_some a b e = cc
long_from _ _ es (Joins.next w x bs xs h) f = go (join_cause es w x) refl f (λ g. long_from bs xs (put same_stored (w *ʳ x.0, x.1) es) h g)
  where
    later : RunList
    later = put same_stored (w *ʳ x.0, x.1) es

    go : (o : Option Cause) → join_cause es w x ≡ o → option_or o (first_cause later bs) ≡ Some Full → (first_cause later bs ≡ Some Full → 65536 < length (merged_onto same_stored later xs)) → 65536 < length (merged_onto same_stored es ((w *ʳ x.0, x.1) ∷ xs))
    go None e f more = subst (λ l. 65536 < length l) (sym (onto_next same_stored es (w *ʳ x.0, x.1) xs)) (more f)
    go (Some c) e f more =
        let m = full_product es x.1 (exact_product w x.0) (e ∙ f) in
        let k = put_new same_stored (w *ʳ x.0, x.1) es m.none in
        let l = onto_longer same_stored later xs in
        let s = m.many in
        subst (λ l. 65536 < length l) (sym (onto_next same_stored es (w *ʳ x.0, x.1) xs)) (omega (arith, k, l, s))

short_from : (bs : List Brought) (xs es : RunList) → Joins bs xs → first_cause es bs ≡ None → length es ≤ 65536 → length (merged_onto same_stored es xs) ≤ 65536
short_from _ _ es Joins.done f l = subst (λ k. length k ≤ 65536) (sym (onto_nothing same_stored es)) l
short_from _ _ es (Joins.stopped c more xs n) f l = absurd (cc)
short_from _ _ es (Joins.next w x bs xs h) f l = go (join_cause es w x) refl f (λ g k. short_from bs xs (put same_stored (w *ʳ x.0, x.1) es) h g k)
  where
    later : RunList
    later = put same_stored (w *ʳ x.0, x.1) es

    go : (o : Option Cause) → join_cause es w x ≡ o → option_or o (first_cause later bs) ≡ None → (first_cause later bs ≡ None → length later ≤ 65536 → length (merged_onto same_stored later xs) ≤ 65536) → length (merged_onto same_stored es ((w *ʳ x.0, x.1) ∷ xs)) ≤ 65536
    go None e f more = subst (λ k. length k ≤ 65536) (sym (onto_next same_stored es (w *ʳ x.0, x.1) xs)) (more f (short_product es x.1 (w *ʳ x.0) (exact_product w x.0) e l))
    go (Some c) e f more = absurd (cc)

pub full_lists_long : FullListsAreLong
full_lists_long ps script rs f = long_from (all_brought ps script rs) (joined (follow ps script) rs) [] (all_join ps script rs) f

pub other_lists_short : OtherListsAreShort
other_lists_short ps script rs f = short_from (all_brought ps script rs) (joined (follow ps script) rs) [] (all_join ps script rs) f (omega arith)
