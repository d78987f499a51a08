-- The static rules on an act that a place names.
use Rattle.std.proofs.Common.{◌≡◌, ℕ, ◌+◌, ◌-◌, ◌≤◌, ◌<◌, ◌==◌, ◌≢◌, ◌||◌, ◌⊎◌, inl, inr, refl, ap, sym, subst, ◌∙◌, arith, Bool, true, false, List, [], ◌∷◌, ◌++◌, length, map, take, drop}
use Rattle.std.proofs.lemmas.List.{length-append, length-take-le, length-drop, length-map}
use Rattle.std.proofs.lemmas.Option.{none-some}
use Rattle.std.proofs.lemmas.Bool.Decides.{eqb_tells}
use Rattle.std.specs.Prelude.{eqb, if◌then◌else◌, Option, Some, None}
use Prim.Native.Nat.{zero, suc}
use Rattle.heyvl_places.specs.declared.spans.Span.{Span}
use Rattle.heylo_formula.specs.Operators.{agree}
use Rattle.heyvl_acts.specs.declared.typed_trees.TProc.{TProc}
use Rattle.heyvl_acts.specs.Acts.{Head, Act, Acts, TypedProcedure, acts_in, procedure_at, variables}
use Rattle.heyvl_acts.specs.PlainActs.{procedure_of, variable_of}
use Rattle.heyvl_acts.specs.Places.{nth, in_order, acts_of_procedure}
use Rattle.heyvl_acts.specs.Program.{Reason, reason_of_break, first_break, IsProgram, calls, Reaches}
use Rattle.heyvl_acts.specs.Rules.{Each, HasOwnTargets, IsTypedAct, MeetsRules, IsCounted, loop_numbers, counted}
use Rattle.run_machine.specs.ConfigConditions.{CanRun, ReachesPrograms}
use Rattle.run_machine.specs.Names.{Names}
use Rattle.run_machine.specs.internal.Counts.{IsSmall}
use Rattle.run_machine.proofs.Procedures.{found}

pub each_nth : {A : Type 0} (P : A → Type 0) (xs : List A) (n : ℕ) (x : A) → Each P xs → nth xs n ≡ Some x → P x
each_nth {A = A} P [] n x h e = elim (none-some x e) [ ]
each_nth {A = A} P (y ∷ xs) zero x h e = subst P (let k : y ≡ x = cc in k) h.0
each_nth {A = A} P (y ∷ xs) (suc n) x h e = each_nth P xs n x h.1 e

-- ---- Types and targets

pub record Ruled (ps : List TypedProcedure) (n : ℕ) (a : Act) : Type 0 where
  pub typed : IsTypedAct ps (procedure_at ps n) a
  pub targets : HasOwnTargets (procedure_at ps n) a

pub ruled : (ps : List TypedProcedure) (n place : ℕ) (a : Act) → Each (MeetsRules ps) ps → Names ps n place a → Ruled ps n a
ruled ps n place a all named = go (nth ps n) refl
  where
    go : (o : Option TypedProcedure) → nth ps n ≡ o → Ruled ps n a
    go (Some q) e =
        let there : nth (in_order (acts_in q.body)) place ≡ Some a = sym (ap (λ o. nth (acts_of_procedure o) place) e) ∙ named in
        let rules = each_nth (MeetsRules ps) ps n q all e in
        let is = sym (found ps n q e) in
        record { typed = subst (λ p. IsTypedAct ps p a) is (each_nth (IsTypedAct ps q) _ place a rules.typed there); targets = subst (λ p. HasOwnTargets p a) is (each_nth (HasOwnTargets q) _ place a rules.targets there) }
    go None e = elim (none-some a (sym (ap (λ o. nth (acts_of_procedure o) place) e) ∙ named)) [ ]

-- ---- Numbers of loops

same_head : (h k : Head) (b d : Acts) → Some (Act.loop h b) ≡ Some (Act.loop k d) → h ≡ k
same_head h k b d e = cc

numbered_loop : (P : ℕ → Type 0) (xs : List Act) (n : ℕ) (h : Head) (b : Acts) → Each P (loop_numbers xs) → nth xs n ≡ Some (Act.loop h b) → P h.number
numbered_loop P [] n h b k e = elim (none-some (Act.loop h b) e) [ ]
numbered_loop P (Act.loop g d ∷ xs) zero h b k e = subst (λ r. P r.number) (same_head g h d b e) k.0
numbered_loop P (Act.loop g d ∷ xs) (suc n) h b k e = numbered_loop P xs n h b k.1 e
numbered_loop P (Act.set x t span ∷ xs) zero h b k e = absurd (cc)
numbered_loop P (Act.set x t span ∷ xs) (suc n) h b k e = numbered_loop P xs n h b k e
numbered_loop P (Act.draw x qs span ∷ xs) zero h b k e = absurd (cc)
numbered_loop P (Act.toss x f span ∷ xs) zero h b k e = absurd (cc)
numbered_loop P (Act.draw x qs span ∷ xs) (suc n) h b k e = numbered_loop P xs n h b k e
numbered_loop P (Act.toss x f span ∷ xs) (suc n) h b k e = numbered_loop P xs n h b k e
numbered_loop P (Act.any x up ty span ∷ xs) zero h b k e = absurd (cc)
numbered_loop P (Act.any x up ty span ∷ xs) (suc n) h b k e = numbered_loop P xs n h b k e
numbered_loop P (Act.reward f span ∷ xs) zero h b k e = absurd (cc)
numbered_loop P (Act.reward f span ∷ xs) (suc n) h b k e = numbered_loop P xs n h b k e
numbered_loop P (Act.ifs arms o span ∷ xs) zero h b k e = absurd (cc)
numbered_loop P (Act.ifs arms o span ∷ xs) (suc n) h b k e = numbered_loop P xs n h b k e
numbered_loop P (Act.pick up a d span ∷ xs) zero h b k e = absurd (cc)
numbered_loop P (Act.pick up a d span ∷ xs) (suc n) h b k e = numbered_loop P xs n h b k e
numbered_loop P (Act.check kind f span ∷ xs) zero h b k e = absurd (cc)
numbered_loop P (Act.check kind f span ∷ xs) (suc n) h b k e = numbered_loop P xs n h b k e
numbered_loop P (Act.validate co span ∷ xs) zero h b k e = absurd (cc)
numbered_loop P (Act.validate co span ∷ xs) (suc n) h b k e = numbered_loop P xs n h b k e
numbered_loop P (Act.call ys q es span ∷ xs) zero h b k e = absurd (cc)
numbered_loop P (Act.call ys q es span ∷ xs) (suc n) h b k e = numbered_loop P xs n h b k e

counted_between : (lo hi from n : ℕ) → lo ≤ from → from + n ≤ hi → Each (λ x. (lo ≤ x) × (x < hi)) (counted from n)
counted_between lo hi from zero h k = tt
counted_between lo hi from (suc n) h k = ((h, omega (arith, k)), counted_between lo hi (suc from) n (omega (arith, h)) (omega (arith, k)))

pub loop_range : (ps : List TypedProcedure) (n place : ℕ) (h : Head) (b : Acts) → Each (MeetsRules ps) ps → Names ps n place (Act.loop h b) → (1 ≤ h.number) × (h.number ≤ (procedure_at ps n).loops)
loop_range ps n place h b all named = go (nth ps n) refl
  where
    go : (o : Option TypedProcedure) → nth ps n ≡ o → (1 ≤ h.number) × (h.number ≤ (procedure_at ps n).loops)
    go (Some q) e =
        let there : nth (in_order (acts_in q.body)) place ≡ Some (Act.loop h b) = sym (ap (λ o. nth (acts_of_procedure o) place) e) ∙ named in
        let rules = each_nth (MeetsRules ps) ps n q all e in
        let range = numbered_loop (λ x. (1 ≤ x) × (x < 1 + q.loops)) _ place h b (subst (Each (λ x. (1 ≤ x) × (x < 1 + q.loops))) (sym rules.numbered) (counted_between 1 (1 + q.loops) 1 q.loops (omega arith) (omega arith))) there in
        let a = range.0 in
        let d = range.1 in
        (a, subst (λ p. h.number ≤ p.loops) (sym (found ps n q e)) (omega (arith, d)))
    go None e = elim (none-some (Act.loop h b) (sym (ap (λ o. nth (acts_of_procedure o) place) e) ∙ named)) [ ]

-- ---- Programs

no_reason : (a b : Bool) (o : Option Span) → (if a then Some Reason.no_wlp else (if b then Some Reason.quantifier else reason_of_break o)) ≡ None → o ≡ None
no_reason true b o h = absurd (cc)
no_reason false true o h = absurd (cc)
no_reason false false (Some s) h = absurd (cc)
no_reason false false None h = refl

unbroken : (p : TypedProcedure) → IsProgram p → first_break p.co (in_order (acts_in p.body)) ≡ None
unbroken p h = go p.body h
  where
    go : (b : Option Acts) → IsProgram (record p { body = b }) → first_break p.co (in_order (acts_in b)) ≡ None
    go None k = absurd (cc)
    go (Some acts) k = no_reason _ _ (first_break p.co (in_order acts)) k

same_is : (n : ℕ) → (n == n) ≡ true
same_is n = go (eqb_tells n n)
  where
    go : ((eqb n n ≡ true) × (n ≡ n)) ⊎ ((eqb n n ≡ false) × (n ≢ n)) → (n == n) ≡ true
    go (inl k) = k.0
    go (inr k) = absurd (k.1 refl)

or_right : (a b : Bool) → b ≡ true → (a || b) ≡ true
or_right true b h = refl
or_right false b h = h

or_left : (a b : Bool) → a ≡ true → (a || b) ≡ true
or_left true b h = refl
or_left false b h = absurd (cc)

runs_all : (ps : List TypedProcedure) (co : Bool) (acts : List Act) → first_break co acts ≡ None → ((r : ℕ) → calls r acts ≡ true → ReachesPrograms ps r) → Each (CanRun ps) acts
runs_all ps co [] h k = tt
runs_all ps co (Act.set x t span ∷ rest) h k = (tt, runs_all ps co rest h k)
runs_all ps co (Act.draw x qs span ∷ rest) h k = (tt, runs_all ps co rest h k)
runs_all ps co (Act.toss x f span ∷ rest) h k = (tt, runs_all ps co rest h k)
runs_all ps co (Act.any x up ty span ∷ rest) h k = (tt, runs_all ps co rest h k)
runs_all ps co (Act.reward f span ∷ rest) h k = (tt, runs_all ps co rest h k)
runs_all ps co (Act.ifs arms e span ∷ rest) h k = (tt, runs_all ps co rest h k)
runs_all ps co (Act.pick up a b span ∷ rest) h k = go (agree co up) refl (λ l. runs_all ps co rest l k)
  where
    go : (t : Bool) → agree co up ≡ t → (first_break co rest ≡ None → Each (CanRun ps) rest) → Each (CanRun ps) (Act.pick up a b span ∷ rest)
    go true e more = (tt, more (rw e at h))
    go false e more = let l = rw e at h in absurd (cc)
runs_all ps co (Act.check kind f span ∷ rest) h k = absurd (cc)
runs_all ps co (Act.validate up span ∷ rest) h k = absurd (cc)
runs_all ps co (Act.call ys q es span ∷ rest) h k = (k q (or_left (q == q) (calls q rest) (same_is q)), runs_all ps co rest h (λ r e. k r (or_right (q == r) (calls r rest) e)))
runs_all ps co (Act.loop g d ∷ rest) h k = (tt, runs_all ps co rest h k)

pub program_runs : (ps : List TypedProcedure) (q : ℕ) → ReachesPrograms ps q → Each (CanRun ps) (in_order (acts_in (procedure_at ps q).body))
program_runs ps q h = runs_all ps (procedure_at ps q).co (in_order (acts_in (procedure_at ps q).body)) (unbroken (procedure_at ps q) h.itself) (λ r e. record { itself = h.reached r (Reaches.directly q r e); reached = λ t k. h.reached t (Reaches.onward q r t e k) })

-- ---- Counts

variables_length : (p : TProc) → p.inputs + p.outputs ≤ length p.vars.items → length (variables (procedure_of p)) ≡ length p.vars.items
variables_length p few =
    let h : length (map variable_of p.vars.items) ≡ length p.vars.items = length-map p.vars.items variable_of in
    let f : length (drop p.inputs (map variable_of p.vars.items)) ≡ length (map variable_of p.vars.items) - p.inputs = length-drop p.inputs (map variable_of p.vars.items) in
    let a = length-append (take p.inputs (map variable_of p.vars.items)) (take p.outputs (drop p.inputs (map variable_of p.vars.items)) ++ drop (p.inputs + p.outputs) (map variable_of p.vars.items)) in
    let b = length-append (take p.outputs (drop p.inputs (map variable_of p.vars.items))) (drop (p.inputs + p.outputs) (map variable_of p.vars.items)) in
    let d = length-take-le p.inputs (map variable_of p.vars.items) (omega (arith, h)) in
    let e = length-take-le p.outputs (drop p.inputs (map variable_of p.vars.items)) (omega (arith, h, f)) in
    let g = length-drop (p.inputs + p.outputs) (map variable_of p.vars.items) in
    omega (arith, a, b, d, e, g, f, h)

pub all_small : (ps : List TypedProcedure) (xs : List TProc) → Each IsCounted xs → Each (MeetsRules ps) (map procedure_of xs) → Each IsSmall xs
all_small ps [] h k = tt
all_small ps (x ∷ xs) h k = (record { counted = h.0; few = let a = k.0.few_variables in let b = variables_length x h.0 in omega (arith, a, b) }, all_small ps xs h.1 k.1)
