-- The interval of a step: with the values chosen so far, the largest of the ends that its lower
-- rows give and the smallest of those that its upper rows give bound exactly the values that extend
-- to solutions.
use Rattle.std.proofs.Common.{◌≡◌, ℕ, List, [], ◌∷◌, ◌++◌, map, refl, sym, ap, ap₂, ◌∙◌, ◌↔◌, subst, arith, Bool, true, false, cond, eqb, not, ◌||◌}
use Rattle.std.specs.Prelude.{ℤ, Option, Some, None, is_some}
use Rattle.std.specs.List.{All}
use Rattle.std.proofs.lemmas.Bool.{eqb-true}
use Rattle.std.proofs.lemmas.List.Elements.{All-nil, All-cons, All-head, All-tail, All-weaker, All-append, All-filter, filter_passes}
use Rattle.heyvl_num.specs.Rational.{Rational, ◌+ʳ◌, ◌*ʳ◌}
use Rattle.heyvl_num.specs.Rounding.{whole}
use Rattle.linear_rows.specs.Numbers.{fits}
use Rattle.linear_rows.specs.Terms.{is_in, coefficient}
use Rattle.linear_rows.specs.Row.{Row}
use Rattle.linear_rows.specs.Solutions.{sum_of, IsBelowZero, MeetsAt}
use Rattle.linear_rows.specs.GreedyPoint.{End, Interval, IsIntervalOf, IsCompleted, chosen_value}
use Rattle.linear_rows.proofs.exported.Between.{All-both}
use Rattle.linear_elim.specs.Joins.{Derived, is_below_zero, is_above_zero}
use Rattle.linear_elim.specs.Steps.{bare, lowers, uppers, kept, pairs}
use Rattle.linear_elim.specs.Elimination.{Step, Rule, tidied_by}
use Rattle.linear_elim.specs.ChoiceNumbers.{end_of}
use Rattle.interval_choice.specs.Sides.{IsWithin, IsPast}
use Rattle.linear_elim.specs.internal.ChoiceSteps.{bounded, narrow_end, IsTightest}
use Rattle.interval_choice.specs.declared.sides.Side.TheVariants.{Low, High}
use Rattle.linear_elim.proofs.Solutions.{by_sign, all_append-left}
use Rattle.linear_elim.proofs.Shapes.{Good, step-good}
use Rattle.linear_elim.proofs.RuledRows.{ruled-all}
use Rattle.linear_elim.proofs.Projections.{Met, in_more, met_tidied, met_bare, bare_met}
use Rattle.linear_elim.proofs.Completions.{apart, Reached}
use Rattle.linear_elim.proofs.EndPlaces.{placed, lower_end, upper_end}
use Rattle.linear_elim.proofs.EndRuns.{IsPastRow}
use Rattle.interval_choice.proofs.exported.Inside.{inside_past}

-- ---- Values that agree

pub sum_same : (f g : ℕ → Rational) (ts : List (ℕ × ℤ)) → All (λ t. f t.0 ≡ g t.0) ts → sum_of f ts ≡ sum_of g ts
unfolding sum_of
sum_same f g [] h = refl
sum_same f g (t ∷ ts) h = ap₂ (λ a b. (whole t.1 *ʳ a) +ʳ b) (All-head (λ t. f t.0 ≡ g t.0) t ts h) (sum_same f g ts (All-tail (λ t. f t.0 ≡ g t.0) t ts h))

pub meets_same : (f g : ℕ → Rational) (r : Row) → All (λ t. f t.0 ≡ g t.0) r.terms → MeetsAt f r → MeetsAt g r
meets_same f g r h m = record { met = subst (λ s. IsBelowZero r.strict (s +ʳ whole r.rest)) (sum_same f g r.terms h) m.met }

abbrev pub vars_in : List (ℕ × Rational) → List ℕ
vars_in cs = map (λ c. c.0) cs

same_var : (n : ℕ) → eqb n n ≡ true
same_var n = grind arith

turned : (m n : ℕ) → eqb m n ≡ false → eqb n m ≡ false
turned m n h = grind arith

pub value_agrees : (f : ℕ → Rational) (u : ℕ) (cs : List (ℕ × Rational)) → All (λ (c : ℕ × Rational). f c.0 ≡ c.1) cs → is_in u (vars_in cs) ≡ true → f u ≡ chosen_value u cs
value_agrees f u [] a e = absurd (cc)
value_agrees f u (c ∷ cs) a e = go (eqb c.0 u) refl (value_agrees f u cs (All-tail (λ (c : ℕ × Rational). f c.0 ≡ c.1) c cs a))
  where
    rest : (b d : Bool) → b ≡ false → (b || d) ≡ true → d ≡ true
    rest true d h k = absurd (cc)
    rest false d h k = k

    go : (b : Bool) → eqb c.0 u ≡ b → (is_in u (vars_in cs) ≡ true → f u ≡ chosen_value u cs) → f u ≡ cond b c.1 (chosen_value u cs)
    go true h ih = ap f (sym (eqb-true c.0 u h)) ∙ All-head (λ (c : ℕ × Rational). f c.0 ≡ c.1) c cs a
    go false h ih = ih (rest (eqb u c.0) (is_in u (vars_in cs)) (turned c.0 u h) e)

-- Each of these variables has a chosen value, and no other one.
pub record AreFor (vs : List ℕ) (cs : List (ℕ × Rational)) : Type 0 where
  pub within : All (λ (c : ℕ × Rational). is_in c.0 vs ≡ true) cs
  pub each : (v : ℕ) → is_in v vs ≡ true → is_in v (vars_in cs) ≡ true

pub agrees_on : (f : ℕ → Rational) (vs : List ℕ) (cs : List (ℕ × Rational)) → AreFor vs cs → All (λ (c : ℕ × Rational). f c.0 ≡ c.1) cs → (v : ℕ) → is_in v vs ≡ true → f v ≡ chosen_value v cs
agrees_on f vs cs a h v e = value_agrees f v cs h (a.each v e)

-- ---- The values of x that satisfy the rows of its step

pub placed_other : (x : ℕ) (v : Rational) (cs : List (ℕ × Rational)) (u : ℕ) (vs : List ℕ) → is_in x vs ≡ false → is_in u vs ≡ true → placed x v cs u ≡ chosen_value u cs
placed_other x v cs u vs n e = ap (λ b. cond b v (chosen_value u cs)) (apart u x vs e n)

pub placed_own : (x : ℕ) (v : Rational) (cs : List (ℕ × Rational)) → placed x v cs x ≡ v
placed_own x v cs = ap (λ b. cond b v (chosen_value x cs)) (same_var x)

abbrev pub with_value : ℕ → Rational → List (ℕ × Rational) → List (ℕ × Rational)
with_value x v cs = cs ++ ((x, v) ∷ [])

pub split_agrees : (f : ℕ → Rational) (x : ℕ) (v : Rational) (cs : List (ℕ × Rational)) → All (λ (c : ℕ × Rational). f c.0 ≡ c.1) (with_value x v cs) → All (λ (c : ℕ × Rational). f c.0 ≡ c.1) cs × (f x ≡ v)
split_agrees f x v [] h = (All-nil _, All-head (λ (c : ℕ × Rational). f c.0 ≡ c.1) (x, v) [] h)
split_agrees f x v (c ∷ cs) h = let k = split_agrees f x v cs (All-tail (λ (c : ℕ × Rational). f c.0 ≡ c.1) c (with_value x v cs) h) in (All-cons (λ (c : ℕ × Rational). f c.0 ≡ c.1) c cs (All-head (λ (c : ℕ × Rational). f c.0 ≡ c.1) c (with_value x v cs) h) k.0, k.1)

module _ (rule : Rule) (xs : List ℕ) (rows : List Derived) (s : Step) (after : List Step) (r : Reached rule xs rows s after) (cs : List (ℕ × Rational)) (a : AreFor r.later cs) where
  in_step : All (λ (c : ℕ × Rational). is_in c.0 (r.x ∷ r.later) ≡ true) cs
  in_step = All-weaker (λ (c : ℕ × Rational). is_in c.0 r.later ≡ true) (λ (c : ℕ × Rational). is_in c.0 (r.x ∷ r.later) ≡ true) (λ c e. in_more c.0 r.x r.later e) cs a.within

  own_in : is_in r.x (r.x ∷ r.later) ≡ true
  own_in = ap (λ b. b || is_in r.x r.later) (same_var r.x)

  more_in : (v : Rational) → All (λ (c : ℕ × Rational). is_in c.0 (r.x ∷ r.later) ≡ true) (with_value r.x v cs)
  more_in v = All-append (λ (c : ℕ × Rational). is_in c.0 (r.x ∷ r.later) ≡ true) cs ((r.x, v) ∷ []) in_step (All-cons (λ (c : ℕ × Rational). is_in c.0 (r.x ∷ r.later) ≡ true) (r.x, v) [] own_in (All-nil _))

  pub some_value : (h : IsCompleted (bare rows) cs) → (v : Rational) × IsCompleted (bare rows) (with_value r.x v cs)
  some_value h = let k = r.down cs h in (k.at_values r.x, r.up (with_value r.x (k.at_values r.x) cs) (more_in (k.at_values r.x)) (record { at_values = k.at_values; agrees = All-append (λ (c : ℕ × Rational). k.at_values c.0 ≡ c.1) cs ((r.x, k.at_values r.x) ∷ []) k.agrees (All-cons (λ (c : ℕ × Rational). k.at_values c.0 ≡ c.1) (r.x, k.at_values r.x) [] refl (All-nil _)); meets = k.meets }))

  kept_met : (v : Rational) → IsCompleted (bare r.now) cs → Met (placed r.x v cs) (kept r.x (tidied_by rule r.now))
  kept_met v k =
      let m = ruled-all rule (λ d. MeetsAt k.at_values d.row) r.now (bare_met k.at_values r.now k.meets) in
      let g = all_append-left (Good r.later) (kept r.x (tidied_by rule r.now)) (pairs r.x (lowers r.x (tidied_by rule r.now)) (uppers r.x (tidied_by rule r.now))) (step-good r.x r.later (tidied_by rule r.now) (ruled-all rule (Good (r.x ∷ r.later)) r.now r.good)) in
      All-both (Good r.later) (λ d. MeetsAt k.at_values d.row) (λ d. MeetsAt (placed r.x v cs) d.row) (λ d w n. meets_same k.at_values (placed r.x v cs) d.row (All-weaker (λ t. is_in t.0 r.later ≡ true) (λ t. k.at_values t.0 ≡ placed r.x v cs t.0) (λ t e. agrees_on k.at_values r.later cs a k.agrees t.0 e ∙ sym (placed_other r.x v cs t.0 r.later r.fresh e)) d.row.terms w.within) n) (kept r.x (tidied_by rule r.now)) g (All-filter _ (λ d. MeetsAt k.at_values d.row) (tidied_by rule r.now) m)

  placed_agrees : (v : Rational) → IsCompleted (bare r.now) cs → All (λ (c : ℕ × Rational). placed r.x v cs c.0 ≡ c.1) (with_value r.x v cs)
  placed_agrees v k = All-append (λ (c : ℕ × Rational). placed r.x v cs c.0 ≡ c.1) cs ((r.x, v) ∷ [])
      (All-both (λ (c : ℕ × Rational). is_in c.0 r.later ≡ true) (λ (c : ℕ × Rational). k.at_values c.0 ≡ c.1) (λ (c : ℕ × Rational). placed r.x v cs c.0 ≡ c.1) (λ c e h. placed_other r.x v cs c.0 r.later r.fresh e ∙ sym (agrees_on k.at_values r.later cs a k.agrees c.0 e) ∙ h) cs a.within k.agrees)
      (All-cons (λ (c : ℕ × Rational). placed r.x v cs c.0 ≡ c.1) (r.x, v) [] (placed_own r.x v cs) (All-nil _))

  pub bounds_complete : IsCompleted (bare rows) cs → (v : Rational) → Met (placed r.x v cs) (lowers r.x (tidied_by rule r.now)) → Met (placed r.x v cs) (uppers r.x (tidied_by rule r.now)) → IsCompleted (bare rows) (with_value r.x v cs)
  bounds_complete h v l u =
      let k = r.down cs h in
      r.up (with_value r.x v cs) (more_in v) (record {
        at_values = placed r.x v cs;
        agrees = placed_agrees v k;
        meets = met_bare (placed r.x v cs) r.now (met_tidied rule r.x (r.x ∷ r.later) (placed r.x v cs) r.now r.clear r.good (by_sign (λ d. MeetsAt (placed r.x v cs) d.row) r.x (tidied_by rule r.now) (kept_met v k) l u));
      })

  pub complete_bounds : (v : Rational) → IsCompleted (bare rows) (with_value r.x v cs) → Met (placed r.x v cs) (tidied_by rule r.now)
  complete_bounds v h =
      let k = r.down (with_value r.x v cs) h in
      let p = split_agrees k.at_values r.x v cs k.agrees in
      let m = ruled-all rule (λ d. MeetsAt k.at_values d.row) r.now (bare_met k.at_values r.now k.meets) in
      All-both (Good (r.x ∷ r.later)) (λ d. MeetsAt k.at_values d.row) (λ d. MeetsAt (placed r.x v cs) d.row) (λ d w n. meets_same k.at_values (placed r.x v cs) d.row (All-weaker (λ t. is_in t.0 (r.x ∷ r.later) ≡ true) (λ t. k.at_values t.0 ≡ placed r.x v cs t.0) (λ t e. here k.at_values p.0 p.1 t.0 (eqb t.0 r.x) refl e) d.row.terms w.within) n) (tidied_by rule r.now) (ruled-all rule (Good (r.x ∷ r.later)) r.now r.good) m
    where
      here : (f : ℕ → Rational) → All (λ (c : ℕ × Rational). f c.0 ≡ c.1) cs → f r.x ≡ v → (u : ℕ) (b : Bool) → eqb u r.x ≡ b → (b || is_in u r.later) ≡ true → f u ≡ cond b v (chosen_value u cs)
      here f q e u true k i = ap f (eqb-true u r.x k) ∙ e
      here f q e u false k i = agrees_on f r.later cs a q u i

-- ---- By ends

pub record Found (strict : Bool) (o : Option Rational) : Type 0 where
  pub place : Rational
  pub is : o ≡ Some place
  pub made : bounded strict o ≡ Some (record { place = place; inside = not strict })

pub found_end : (strict : Bool) (o : Option Rational) → is_some (bounded strict o) ≡ true → Found strict o
found_end strict None e = absurd (cc)
found_end strict (Some p) e = go (fits p) refl e
  where
    go : (b : Bool) → fits p ≡ b → is_some {T = End} (cond b (Some (record { place = p; inside = not strict })) None) ≡ true → Found strict (Some p)
    go true k h = record { place = p; is = refl; made = ap (λ b. cond b (Some (record { place = p; inside = not strict })) None) k }
    go false k h = absurd (cc)

low_alike : (x : ℕ) (v : Rational) (cs : List (ℕ × Rational)) (d : Derived) → is_below_zero (coefficient x d.row.terms) ≡ true → is_some (narrow_end x cs d.row) ≡ true → MeetsAt (placed x v cs) d.row ↔ IsPastRow Low x cs v d
low_alike x v cs d n e = go (found_end d.row.strict (end_of x cs d.row) e)
  where
    go : Found d.row.strict (end_of x cs d.row) → MeetsAt (placed x v cs) d.row ↔ IsPastRow Low x cs v d
    go f = let w = lower_end x v cs d.row f.place n f.is in (λ m e h. let s : record { place = f.place; inside = not d.row.strict } ≡ e = (let k = f.made in cc) in subst (λ z. IsWithin Low z v) s (w.0 m), λ p. w.1 (p _ f.made))

high_alike : (x : ℕ) (v : Rational) (cs : List (ℕ × Rational)) (d : Derived) → is_above_zero (coefficient x d.row.terms) ≡ true → is_some (narrow_end x cs d.row) ≡ true → MeetsAt (placed x v cs) d.row ↔ IsPastRow High x cs v d
high_alike x v cs d n e = go (found_end d.row.strict (end_of x cs d.row) e)
  where
    go : Found d.row.strict (end_of x cs d.row) → MeetsAt (placed x v cs) d.row ↔ IsPastRow High x cs v d
    go f = let w = upper_end x v cs d.row f.place n f.is in (λ m e h. let s : record { place = f.place; inside = not d.row.strict } ≡ e = (let k = f.made in cc) in subst (λ z. IsWithin High z v) s (w.0 m), λ p. w.1 (p _ f.made))

all_both_ways : {A : Type 0} (P Q R S : A → Type 0) → ((x : A) → P x → Q x → R x ↔ S x) → (xs : List A) → All P xs → All Q xs → All R xs ↔ All S xs
all_both_ways P Q R S f [] p q = (λ h. All-nil _, λ h. All-nil _)
all_both_ways P Q R S f (x ∷ xs) p q =
    let h = f x (All-head P x xs p) (All-head Q x xs q) in
    let t = all_both_ways P Q R S f xs (All-tail P x xs p) (All-tail Q x xs q) in
    (λ k. All-cons S x xs (h.0 (All-head R x xs k)) (t.0 (All-tail R x xs k)), λ k. All-cons R x xs (h.1 (All-head S x xs k)) (t.1 (All-tail S x xs k)))

pub lows_alike : (x : ℕ) (v : Rational) (cs : List (ℕ × Rational)) (rows : List Derived) (o : Option End) → IsTightest Low x cs (lowers x rows) o → Met (placed x v cs) (lowers x rows) ↔ IsPast Low o v
lows_alike x v cs rows o t = let h = all_both_ways (λ d. is_below_zero (coefficient x d.row.terms) ≡ true) (λ d. is_some (narrow_end x cs d.row) ≡ true) (λ d. MeetsAt (placed x v cs) d.row) (IsPastRow Low x cs v) (λ d n e. low_alike x v cs d n e) (lowers x rows) (filter_passes _ rows) t.each in (λ m. (t.values v).1 (h.0 m), λ p. h.1 ((t.values v).0 p))

pub ups_alike : (x : ℕ) (v : Rational) (cs : List (ℕ × Rational)) (rows : List Derived) (o : Option End) → IsTightest High x cs (uppers x rows) o → Met (placed x v cs) (uppers x rows) ↔ IsPast High o v
ups_alike x v cs rows o t = let h = all_both_ways (λ d. is_above_zero (coefficient x d.row.terms) ≡ true) (λ d. is_some (narrow_end x cs d.row) ≡ true) (λ d. MeetsAt (placed x v cs) d.row) (IsPastRow High x cs v) (λ d n e. high_alike x v cs d n e) (uppers x rows) (filter_passes _ rows) t.each in (λ m. (t.values v).1 (h.0 m), λ p. h.1 ((t.values v).0 p))

pub interval_is : (rule : Rule) (xs : List ℕ) (rows : List Derived) (s : Step) (after : List Step) (r : Reached rule xs rows s after) (cs : List (ℕ × Rational)) → AreFor r.later cs → IsCompleted (bare rows) cs → (i : Interval) → IsTightest Low s.var cs s.lows i.low → IsTightest High s.var cs s.ups i.high → IsIntervalOf (bare rows) cs r.x i
interval_is rule xs rows s after r cs a h i l u = record {
  values = λ v. (
    λ k. let p = (inside_past i v).0 k in bounds_complete rule xs rows s after r cs a h v ((lows_alike r.x v cs (tidied_by rule r.now) i.low low).1 p.0) ((ups_alike r.x v cs (tidied_by rule r.now) i.high high).1 p.1),
    λ k. let m = complete_bounds rule xs rows s after r cs a v k in (inside_past i v).1 ((lows_alike r.x v cs (tidied_by rule r.now) i.low low).0 (All-filter _ (λ d. MeetsAt (placed r.x v cs) d.row) (tidied_by rule r.now) m), (ups_alike r.x v cs (tidied_by rule r.now) i.high high).0 (All-filter _ (λ d. MeetsAt (placed r.x v cs) d.row) (tidied_by rule r.now) m)),
  );
}
  where
    low : IsTightest Low r.x cs (lowers r.x (tidied_by rule r.now)) i.low
    low = subst (λ s. IsTightest Low s.var cs s.lows i.low) r.is_step l

    high : IsTightest High r.x cs (uppers r.x (tidied_by rule r.now)) i.high
    high = subst (λ s. IsTightest High s.var cs s.ups i.high) r.is_step u
