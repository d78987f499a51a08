-- The outcomes of one run's step, and adding them to a list.
use Rattle.std.proofs.Common.{◌≡◌, ℕ, ◌==◌, refl, ap, sym, subst, ◌∙◌, arith, Bool, true, false, List, [], ◌∷◌, ◌++◌, length, map}
use Rattle.std.specs.Option.{option_or}
use Rattle.std.specs.Prelude.{Option, Some, None, Result, Ok, Err, IfOk, if◌then◌else◌}
use Rattle.heyvl_num.specs.Rational.{Rational, oneʳ, ◌*ʳ◌}
use Rattle.heyvl_num.specs.Exact.{exact_product}
use Rattle.heyvl_num.specs.WeightedSums.{scaled, joined}
use Rattle.heyvl_num.proofs.exported.Exactness.{exact_product_some}
use Rattle.heyvl_acts.specs.Acts.{TypedProcedure}
use Rattle.run_machine.specs.declared.configurations.Decide.{Decide}
use Rattle.run_machine.specs.Names.{Numbered, Stored}
use Rattle.run_machine.specs.Replies.{Reply, StoredOutcomes, any_large, replied}
use Rattle.run_machine.specs.SameConfigurations.{same_stored}
use Rattle.run_machine.specs.Step.{Decision}
use Rattle.run_machine.specs.StoredStep.{stored_reply, stored_step}
use Rattle.run_unroller.specs.declared.causes.Cause.{Cause}
use Rattle.run_unroller.specs.declared.causes.Cause.TheVariants.{Bits}
use Rattle.run_unroller.specs.Causes.{Brought, brought, brought_by, first_cause, product_cause, put_cause}
use Rattle.run_unroller.specs.MergedLists.{held, merged_onto, put}
use Rattle.run_unroller.specs.RunLists.{RunList, follow, followed}
use Rattle.run_unroller.specs.Scripts.{entry}
use Rattle.run_unroller.specs.internal.Extensions.{Extends}

pub if_ok : {A E : Type 0} {P Q : A → Type 0} (r : Result A E) → ((a : A) → P a → Q a) → IfOk r P → IfOk r Q
if_ok (Ok a) f h = f a h
if_ok (Err e) f h = h

pub if_ok_both : {A E : Type 0} {P Q R : A → Type 0} (r : Result A E) → ((a : A) → P a → Q a → R a) → IfOk r P → IfOk r Q → IfOk r R
if_ok_both (Ok a) f h k = f a h k
if_ok_both (Err e) f h k = h

-- ---- Lists that are added one after the other

pub onto_none : {A : Type 0} (same : A → A → Bool) (es : List (Rational × A)) → merged_onto same es [] ≡ es
unfolding merged_onto
onto_none same es = refl

pub onto_more : {A : Type 0} (same : A → A → Bool) (es xs ys : List (Rational × A)) → merged_onto same es (xs ++ ys) ≡ merged_onto same (merged_onto same es xs) ys
unfolding merged_onto
onto_more same es [] ys = refl
onto_more same es (x ∷ xs) ys = onto_more same (put same x es) xs ys

onto_one : {A : Type 0} (same : A → A → Bool) (es : List (Rational × A)) (x : Rational × A) → merged_onto same es (x ∷ []) ≡ put same x es
unfolding merged_onto
onto_one same es x = refl

pub scaled_none : {A : Type 0} (w : Rational) → scaled {A = A} w [] ≡ []
unfolding scaled
scaled_none w = refl

pub scaled_next : {A : Type 0} (w : Rational) (x : Rational × A) (xs : List (Rational × A)) → scaled w (x ∷ xs) ≡ ((w *ʳ x.0, x.1) ∷ []) ++ scaled w xs
unfolding scaled
scaled_next w x xs = refl

pub joined_none : {A B : Type 0} (k : A → List (Rational × B)) → joined k [] ≡ []
unfolding joined
joined_none k = refl

pub joined_next : {A B : Type 0} (k : A → List (Rational × B)) (x : Rational × A) (xs : List (Rational × A)) → joined k (x ∷ xs) ≡ scaled x.0 (k x.1) ++ joined k xs
unfolding joined
joined_next k x xs = refl

-- ---- One outcome

pub product_stops : (old new : RunList) (w : Rational) (x : Rational × Stored) (more : RunList) → None ≡ exact_product w x.0 → Extends old new (Brought.joins w x ∷ []) more (Some Bits)
product_stops old new w x more e = λ rest. ap (λ o. option_or (product_cause old x.1 o) (first_cause (put same_stored (w *ʳ x.0, x.1) old) rest)) (sym e)

pub product_joins : (old new : RunList) (w v : Rational) (x : Rational × Stored) (cause : Option Cause) → Some v ≡ exact_product w x.0 → cause ≡ put_cause (length old) v (held same_stored x.1 old) → (cause ≡ None → new ≡ put same_stored (v, x.1) old) → Extends old new (Brought.joins w x ∷ []) ((w *ʳ x.0, x.1) ∷ []) cause
product_joins old new w v x cause e h k = go cause h k
  where
    first : (rest : List Brought) (o : Option Cause) → o ≡ put_cause (length old) v (held same_stored x.1 old) → first_cause old (Brought.joins w x ∷ rest) ≡ option_or o (first_cause (put same_stored (w *ʳ x.0, x.1) old) rest)
    first rest o q = ap (λ p. option_or (product_cause old x.1 p) (first_cause (put same_stored (w *ʳ x.0, x.1) old) rest)) (sym e) ∙ ap (λ p. option_or p (first_cause (put same_stored (w *ʳ x.0, x.1) old) rest)) (sym q)

    go : (o : Option Cause) → o ≡ put_cause (length old) v (held same_stored x.1 old) → (o ≡ None → new ≡ put same_stored (v, x.1) old) → Extends old new (Brought.joins w x ∷ []) ((w *ʳ x.0, x.1) ∷ []) o
    go (Some c) q l = λ rest. first rest (Some c) q
    go None q l =
        let list : put same_stored (w *ʳ x.0, x.1) old ≡ new = ap (λ u. put same_stored (u, x.1) old) (sym (exact_product_some w x.0 v e)) ∙ sym (l refl) in
        (λ rest. first rest None q ∙ ap (λ l. first_cause l rest) list, onto_one same_stored old (w *ʳ x.0, x.1) ∙ list)

-- ---- The outcomes of one run

next_kept : (b : Bool) (ys zs : StoredOutcomes) → Reply.next ys ≡ (if b then Reply.deep else Reply.next zs) → ys ≡ zs
next_kept true ys zs e = absurd (cc)
next_kept false ys zs e = cc

next_replied : (b : Bool) (ys zs : StoredOutcomes) → Reply.next ys ≡ replied b zs → ys ≡ zs
next_replied true ys zs e = next_kept (any_large zs) ys zs e
next_replied false ys zs e = absurd (cc)

pub next_is_step : (ps : List TypedProcedure) (c : Stored) (d : Decision) (ys : StoredOutcomes) → Reply.next ys ≡ stored_reply ps c d → ys ≡ stored_step ps c d
next_is_step ps c d ys e = next_replied _ ys (stored_step ps c d) e

pub ended_joins : (ps : List TypedProcedure) (script : List Decide) (old new : RunList) (w u : Rational) (c : Stored) (cause : Option Cause) → c.items ≡ [] → u ≡ oneʳ → Extends old new (Brought.joins w (u, c) ∷ []) ((w *ʳ u, c) ∷ []) cause → Extends old new (brought ps script c.items w c) (scaled w (follow ps script c)) cause
unfolding scaled
ended_joins ps script old new w u c cause e one h =
    let k : Extends old new (Brought.joins w (oneʳ, c) ∷ []) ((w *ʳ oneʳ, c) ∷ []) cause = subst (λ v. Extends old new (Brought.joins w (v, c) ∷ []) ((w *ʳ v, c) ∷ []) cause) one h in
    subst (λ is. Extends old new (brought ps script is w c) (scaled w (followed ps script is c)) cause) (sym e) k

running : (ps : List TypedProcedure) (script : List Decide) (old new : RunList) (w : Rational) (c : Stored) (cause : Option Cause) (is : List Numbered) → (length is == 0) ≡ false → Extends old new (brought_by w (stored_reply ps c (entry script c.made))) (scaled w (stored_step ps c (entry script c.made))) cause → Extends old new (brought ps script is w c) (scaled w (followed ps script is c)) cause
running ps script old new w c cause [] n h = absurd (cc)
running ps script old new w c cause (i ∷ is) n h = h

pub running_joins : (ps : List TypedProcedure) (script : List Decide) (old new : RunList) (w : Rational) (c : Stored) (d : Decision) (xs : StoredOutcomes) (cause : Option Cause) → (length c.items == 0) ≡ false → d ≡ entry script c.made → Reply.next xs ≡ stored_reply ps c d → Extends old new (map (Brought.joins w) xs) (scaled w xs) cause → Extends old new (brought ps script c.items w c) (scaled w (follow ps script c)) cause
running_joins ps script old new w c d xs cause n f e h =
    let reply : Reply.next xs ≡ stored_reply ps c (entry script c.made) = e ∙ ap (stored_reply ps c) f in
    running ps script old new w c cause c.items n
    (subst (λ l. Extends old new (brought_by w (stored_reply ps c (entry script c.made))) (scaled w l) cause) (next_is_step ps c (entry script c.made) xs reply) (subst (λ r. Extends old new (brought_by w r) (scaled w xs) cause) reply h))

-- ---- Counts that the program tests

pub nothing_left : {A : Type 0} (n : ℕ) (xs : List A) → n ≡ length xs → n ≡ 0 → xs ≡ []
nothing_left n [] e z = refl
nothing_left n (x ∷ xs) e z = absurd (cc)

pub is_nothing : {A : Type 0} (n : ℕ) (xs : List A) (b : Bool) → n ≡ length xs → b ≡ (n == 0) → b ≡ true → xs ≡ []
is_nothing n xs b e h t = nothing_left n xs e (let z : (n == 0) ≡ true = sym h ∙ t in grind (arith, z))

pub is_something : {A : Type 0} (n : ℕ) (xs : List A) (b : Bool) → n ≡ length xs → b ≡ (n == 0) → b ≡ false → (length xs == 0) ≡ false
is_something n xs b e h t = ap (λ m. m == 0) (sym e) ∙ sym h ∙ t
