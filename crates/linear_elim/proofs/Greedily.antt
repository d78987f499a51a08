-- The greedy choice along the steps of an elimination without a contradiction, from the last step
-- on.
use Rattle.std.proofs.Common.{◌≡◌, ℕ, ◌+◌, ◌<◌, List, [], ◌∷◌, ◌++◌, length, get_or, reverse, refl, sym, ap, ap₂, ◌∙◌, subst, arith, Bool, true, false, cond, eqb, ltb, ◌||◌}
use Rattle.std.specs.Prelude.{ℤ, Option, Some, IfSome}
use Rattle.std.specs.List.{All, list_any, fold}
use Prim.Native.Nat.{zero, suc}
use Rattle.std.proofs.lemmas.Bool.{eqb-true}
use Rattle.std.proofs.lemmas.Bool.Decides.{nat_tests}
use Rattle.std.proofs.lemmas.List.{reverse-append, append_assoc}
use Rattle.std.proofs.lemmas.List.Elements.{All-nil, All-cons, All-head, All-tail, All-weaker, All-append}
use Rattle.heylo_formula.specs.State.{environment, number_of}
use Rattle.heylo_formula.specs.declared.types.Ty.{Ty}
use Rattle.heylo_formula.specs.declared.values.Val.{Val}
use Rattle.heyvl_num.specs.Rational.{Rational, ◌≤ʳ◌}
use Rattle.heyvl_num.proofs.exported.Rationals.{≤ʳ_trans}
use Rattle.linear_rows.specs.Terms.{is_in, IsNormal, IsOver}
use Rattle.heylo_formula.specs.declared.values.Val.TheVariants.{Truth}
use Rattle.linear_rows.specs.Numbers.{fits}
use Rattle.linear_rows.specs.Row.{Row, IsRow}
use Rattle.linear_rows.specs.VariableTypes.{is_numeric, IsNumericRow}
use Rattle.linear_rows.specs.Solutions.{MeetsAt, IsSolvable}
use Rattle.linear_rows.specs.VariableOrder.{occurs_in_row, occurrences, put_variable, order_of}
use Rattle.linear_rows.specs.GreedyPoint.{End, Interval, IsInside, IsIntervalOf, IsCompleted, IsChoice, IsBroken, Chooses, ChoosesFrom, chosen_value, value_for, IsStateOf, IsGreedyPoint}
use Rattle.heylo_formula.specs.Typing.{types_in}
use Rattle.linear_rows.specs.GreedyPoint.Greedy.{chose, broke}
use Rattle.linear_rows.specs.GreedyPoint.Chooses.{ends, takes, breaks}
use Rattle.linear_rows.proofs.exported.Fractions.{solvable_is}
use Rattle.linear_rows.proofs.exported.Between.{All-both}
use Rattle.linear_elim.specs.Elimination.{Step, start}
use Rattle.linear_elim.specs.Steps.{bare}
use Rattle.linear_elim.specs.ChoiceNumbers.{IsChoiceTooGreat}
use Rattle.linear_elim.specs.ChoiceNumbers.IsNextTooGreat.{in_an_end, in_a_value}
use Rattle.linear_elim.specs.internal.ChoiceSteps.{IsTightest}
use Rattle.interval_choice.specs.Picks.{between, IsPicked}
use Rattle.linear_elim.specs.internal.Picks.{IsNextPick}
use Rattle.linear_elim.specs.internal.Picks.IsNextPick.{great_end, between_ends}
use Rattle.linear_elim.specs.Answers.{MeetsAll, AreNarrow}
use Rattle.linear_elim.specs.internal.Eliminations.{IsEliminated}
use Rattle.interval_choice.specs.declared.sides.Side.TheVariants.{Low, High}
use Rattle.interval_choice.specs.declared.picks.Pick.{Pick}
use Rattle.interval_choice.specs.declared.picks.Pick.TheVariants.{Value, Breaks, Great}
use Rattle.linear_elim.proofs.Solvability.{complete, start-all}
use Rattle.interval_choice.proofs.exported.BoundedFractions.{up_from_weak, up_to_weak}
use Rattle.interval_choice.proofs.exported.Pasts.{zero_fits}
use Rattle.linear_elim.proofs.Shapes.{Good}
use Rattle.linear_elim.proofs.Completions.{Stands, run_stands, vars_of, stands_vars, NoneTwice, Reached, reached, bare_start}
use Rattle.linear_elim.proofs.Intervals.{meets_same, agrees_on, AreFor, vars_in, with_value, some_value, interval_is}

-- ---- The order of variables

same_var : (n : ℕ) → eqb n n ≡ true
same_var n = grind arith

in_put : (rows : List Row) (x v : ℕ) (ys : List ℕ) → is_in v (put_variable rows x ys) ≡ (eqb v x || is_in v ys)
unfolding put_variable
in_put rows x v [] = refl
in_put rows x v (y ∷ ys) = go (ltb (occurrences x rows) (occurrences y rows)) (in_put rows x v ys)
  where
    swap : (a b c : Bool) → (a || (b || c)) ≡ (b || (a || c))
    swap true true c = refl
    swap true false c = refl
    swap false true c = refl
    swap false false c = refl

    go : (b : Bool) → is_in v (put_variable rows x ys) ≡ (eqb v x || is_in v ys) → is_in v (cond b (x ∷ y ∷ ys) (y ∷ put_variable rows x ys)) ≡ (eqb v x || is_in v (y ∷ ys))
    go true h = refl
    go false h = ap (λ b. eqb v y || b) h ∙ swap (eqb v y) (eqb v x) (is_in v ys)

pub order_below : (rows : List Row) (n v : ℕ) → is_in v (order_of rows n) ≡ true → v < n
unfolding order_of
order_below rows zero v e = absurd (cc)
order_below rows (suc n) v e = go (λ h. order_below rows n v h) (ltb 0 (occurrences n rows)) e
  where
    less : (m n : ℕ) → m < n → m < suc n
    less m n h = omega arith

    own : (n : ℕ) → n < suc n
    own n = omega arith

    here : (is_in v (order_of rows n) ≡ true → v < n) → (b : Bool) → eqb v n ≡ b → (b || is_in v (order_of rows n)) ≡ true → v < suc n
    here ih true k h = subst (λ m. m < suc n) (sym (eqb-true v n k)) (own n)
    here ih false k h = less v n (ih h)

    go : (is_in v (order_of rows n) ≡ true → v < n) → (b : Bool) → is_in v (cond b (put_variable rows n (order_of rows n)) (order_of rows n)) ≡ true → v < suc n
    go ih true h = here ih (eqb v n) refl (sym (in_put rows n v (order_of rows n)) ∙ h)
    go ih false h = less v n (ih h)

order_occurs : (rows : List Row) (n v : ℕ) → is_in v (order_of rows n) ≡ true → 0 < occurrences v rows
unfolding order_of
order_occurs rows zero v e = absurd (cc)
order_occurs rows (suc n) v e = go (λ h. order_occurs rows n v h) (ltb 0 (occurrences n rows)) refl e
  where
    above : (k : ℕ) → ltb 0 k ≡ true → 0 < k
    above k h = grind (arith, nat_tests)

    here : (is_in v (order_of rows n) ≡ true → 0 < occurrences v rows) → (b : Bool) → eqb v n ≡ b → ltb 0 (occurrences n rows) ≡ true → (b || is_in v (order_of rows n)) ≡ true → 0 < occurrences v rows
    here ih true k l h = subst (λ m. 0 < occurrences m rows) (sym (eqb-true v n k)) (above (occurrences n rows) l)
    here ih false k l h = ih h

    go : (is_in v (order_of rows n) ≡ true → 0 < occurrences v rows) → (b : Bool) → ltb 0 (occurrences n rows) ≡ b → is_in v (cond b (put_variable rows n (order_of rows n)) (order_of rows n)) ≡ true → 0 < occurrences v rows
    go ih true l h = here ih (eqb v n) refl l (sym (in_put rows n v (order_of rows n)) ∙ h)
    go ih false l h = ih h

none_twice_put : (rows : List Row) (x : ℕ) (ys : List ℕ) → is_in x ys ≡ false → NoneTwice ys → NoneTwice (put_variable rows x ys)
unfolding put_variable
none_twice_put rows x [] h k = (refl, tt)
none_twice_put rows x (y ∷ ys) h k = go (ltb (occurrences x rows) (occurrences y rows)) (none_twice_put rows x ys (right (eqb x y) (is_in x ys) h) k.1)
  where
    right : (a b : Bool) → (a || b) ≡ false → b ≡ false
    right true b e = absurd (cc)
    right false b e = e

    left : (a b : Bool) → (a || b) ≡ false → a ≡ false
    left true b e = absurd (cc)
    left false b e = refl

    turned : (m n : ℕ) → eqb m n ≡ false → eqb n m ≡ false
    turned m n h = grind arith

    neither : (a b : Bool) → a ≡ false → b ≡ false → (a || b) ≡ false
    neither a b p q = rw (p, q)

    go : (b : Bool) → NoneTwice (put_variable rows x ys) → NoneTwice (cond b (x ∷ y ∷ ys) (y ∷ put_variable rows x ys))
    go true n = (h, k)
    go false n = (in_put rows x y ys ∙ neither (eqb y x) (is_in y ys) (turned x y (left (eqb x y) (is_in x ys) h)) k.0, n)

pub order_none_twice : (rows : List Row) (n : ℕ) → NoneTwice (order_of rows n)
unfolding order_of
order_none_twice rows zero = tt
order_none_twice rows (suc n) = go (order_none_twice rows n) (ltb 0 (occurrences n rows))
  where
    fresh : (b : Bool) → is_in n (order_of rows n) ≡ b → b ≡ false
    fresh true e = absurd (let l = order_below rows n n e in omega (arith, l))
    fresh false e = refl

    new : is_in n (order_of rows n) ≡ false
    new = fresh (is_in n (order_of rows n)) refl

    go : NoneTwice (order_of rows n) → (b : Bool) → NoneTwice (cond b (put_variable rows n (order_of rows n)) (order_of rows n))
    go ih true = none_twice_put rows n (order_of rows n) new ih
    go ih false = ih

occurs_numeric : (vars : List Ty) (v : ℕ) (ts : List (ℕ × ℤ)) → All (λ t. is_numeric (types_in vars t.0) ≡ true) ts → list_any (λ t. eqb t.0 v) ts ≡ true → is_numeric (types_in vars v) ≡ true
occurs_numeric vars v [] h e = absurd (cc)
occurs_numeric vars v (t ∷ ts) h e = go (eqb t.0 v) refl e (occurs_numeric vars v ts (All-tail (λ t. is_numeric (types_in vars t.0) ≡ true) t ts h))
  where
    go : (b : Bool) → eqb t.0 v ≡ b → (b || list_any (λ t. eqb t.0 v) ts) ≡ true → (list_any (λ t. eqb t.0 v) ts ≡ true → is_numeric (types_in vars v) ≡ true) → is_numeric (types_in vars v) ≡ true
    go true k e ih = subst (λ u. is_numeric (types_in vars u) ≡ true) (eqb-true t.0 v k) (All-head (λ t. is_numeric (types_in vars t.0) ≡ true) t ts h)
    go false k e ih = ih e

abbrev counts : ℕ → ℕ → Row → ℕ
counts v a r = a + cond (occurs_in_row v r) 1 0

counted_from : (vars : List Ty) (v k : ℕ) (rows : List Row) → All (IsNumericRow vars) rows → k ≡ 0 → 0 < fold (counts v) k rows → is_numeric (types_in vars v) ≡ true
counted_from vars v k [] h e p = absurd (omega (arith, e, p))
counted_from vars v k (r ∷ rs) h e p = go (occurs_in_row v r) refl p (λ m q l. counted_from vars v m rs (All-tail (IsNumericRow vars) r rs h) q l)
  where
    go : (b : Bool) → occurs_in_row v r ≡ b → 0 < fold (counts v) (k + cond b 1 0) rs → ((m : ℕ) → m ≡ 0 → 0 < fold (counts v) m rs → is_numeric (types_in vars v) ≡ true) → is_numeric (types_in vars v) ≡ true
    go true q p ih = occurs_numeric vars v r.terms (All-head (IsNumericRow vars) r rs h).numeric q
    go false q p ih = ih (k + 0) (omega (arith, e)) p

pub counted_numeric : (vars : List Ty) (v : ℕ) (rows : List Row) → All (IsNumericRow vars) rows → 0 < occurrences v rows → is_numeric (types_in vars v) ≡ true
counted_numeric vars v rows h p = counted_from vars v 0 rows h refl p

pub order_numeric : (vars : List Ty) (rows : List Row) (n v : ℕ) → All (IsNumericRow vars) rows → is_in v (order_of rows n) ≡ true → is_numeric (types_in vars v) ≡ true
order_numeric vars rows n v h e = counted_numeric vars v rows h (order_occurs rows n v e)

-- ---- Choices, one after the other

pub then_takes : (rows : List Row) (vars : List Ty) (xs : List ℕ) (cs ds : List (ℕ × Rational)) (x : ℕ) (i : Interval) (v : Rational) → Chooses rows vars xs cs (chose ds) → IsIntervalOf rows ds x i → IsChoice i (types_in vars x) v → Chooses rows vars (xs ++ (x ∷ [])) cs (chose (ds ++ ((x, v) ∷ [])))
then_takes rows vars xs cs ds x i v (ends _) h k = takes x [] ds i v (chose (ds ++ ((x, v) ∷ []))) h k (ends (ds ++ ((x, v) ∷ [])))
then_takes rows vars xs cs ds x i v (takes y ys _ j u g a b c) h k = takes y (ys ++ (x ∷ [])) cs j u (chose (ds ++ ((x, v) ∷ []))) a b (then_takes rows vars ys (cs ++ ((y, u) ∷ [])) ds x i v c h k)

pub then_breaks : (rows : List Row) (vars : List Ty) (xs zs : List ℕ) (cs ds : List (ℕ × Rational)) (x : ℕ) (i : Interval) → Chooses rows vars xs cs (chose ds) → IsIntervalOf rows ds x i → IsBroken i (types_in vars x) → Chooses rows vars (xs ++ (x ∷ zs)) cs (broke x ds i)
then_breaks rows vars xs zs cs ds x i (ends _) h k = breaks x zs ds i h k
then_breaks rows vars xs zs cs ds x i (takes y ys _ j u g a b c) h k = takes y (ys ++ (x ∷ zs)) cs j u (broke x ds i) a b (then_breaks rows vars ys zs (cs ++ ((y, u) ∷ [])) ds x i c h k)

-- ---- Along the steps

-- The values chosen after the last steps; the others are still to be chosen.
pub record IsSofar (rows : List Row) (vars : List Ty) (steps rest : List Step) (cs : List (ℕ × Rational)) : Type 0 where
  pub after : List Step
  pub splits : steps ≡ rest ++ after
  pub choice : Chooses rows vars (reverse (vars_of after)) [] (chose cs)
  pub met : IsCompleted rows cs
  pub are_for : AreFor (vars_of after) cs
  pub narrow : All (λ (c : ℕ × Rational). fits c.1 ≡ true) cs

module _ (rows : List Row) (vars : List Ty) (steps : List Step) (h : IsEliminated rows vars steps) where
  the_order : List ℕ
  the_order = order_of rows (length vars)

  good_rows : All (λ r. IsNormal r.terms × IsOver (order_of rows (length vars)) r.terms) rows
  good_rows = All-both IsRow (λ r. IsOver (order_of rows (length vars)) r.terms) (λ r. IsNormal r.terms × IsOver (order_of rows (length vars)) r.terms) (λ r a b. (a.normal, b)) rows h.are_rows h.over

  pub solved : IsSolvable rows
  solved = (solvable_is rows).1 (complete h.rule (order_of rows (length vars)) rows steps good_rows h.standing)

  pub stands : Stands h.rule (order_of rows (length vars)) (start 0 rows) steps
  stands = run_stands h.rule 0 (order_of rows (length vars)) (start 0 rows) steps h.standing

  pub steps_in_order : order_of rows (length vars) ≡ vars_of steps
  steps_in_order = stands_vars h.rule (order_of rows (length vars)) (start 0 rows) steps stands

  pub good_start : All (Good (order_of rows (length vars))) (start 0 rows)
  good_start = start-all (λ r. IsNormal r.terms × IsOver (order_of rows (length vars)) r.terms) (Good (order_of rows (length vars))) (λ d p. record { normal = p.0; within = p.1 }) 0 rows good_rows

  pub sofar_start : IsSofar rows vars steps steps []
  sofar_start = record {
    after = [];
    splits = sym (append_none steps);
    choice = ends [];
    met = record { at_values = solved.at_values; agrees = All-nil _; meets = solved.meets };
    are_for = record { within = All-nil _; each = λ v e. e };
    narrow = All-nil _;
  }
    where
      append_none : (ss : List Step) → ss ++ [] ≡ ss
      append_none [] = refl
      append_none (s ∷ ss) = ap (λ ts. s ∷ ts) (append_none ss)

-- ---- At a step

module _ (rows : List Row) (vars : List Ty) (steps : List Step) (h : IsEliminated rows vars steps) (before : List Step) (s : Step) (cs : List (ℕ × Rational)) (f : IsSofar rows vars steps (before ++ (s ∷ [])) cs) where
  splits_here : steps ≡ before ++ (s ∷ f.after)
  splits_here = f.splits ∙ append_assoc before (s ∷ []) f.after

  reached_here : Reached h.rule (order_of rows (length vars)) (start 0 rows) s f.after
  reached_here = reached h.rule (order_of rows (length vars)) (start 0 rows) before s f.after (subst (Stands h.rule (order_of rows (length vars)) (start 0 rows)) splits_here (stands rows vars steps h)) (order_none_twice rows (length vars)) (good_start rows vars steps h)

  var_here : s.var ≡ reached_here.x
  var_here = ap (λ s. s.var) reached_here.is_step

  for_here : AreFor reached_here.later cs
  for_here = subst (λ vs. AreFor vs cs) (sym reached_here.vars) f.are_for

  met_here : IsCompleted (bare (start 0 rows)) cs
  met_here = subst (λ rs. IsCompleted rs cs) (sym (bare_start 0 rows)) f.met

  interval_here : (low high : Option End) → IsTightest Low s.var cs s.lows low → IsTightest High s.var cs s.ups high → IsIntervalOf rows cs s.var (between Low low high)
  interval_here low high l u = subst (λ x. IsIntervalOf rows cs x (between Low low high)) (sym var_here) (subst (λ rs. IsIntervalOf rs cs reached_here.x (between Low low high)) (bare_start 0 rows) (interval_is h.rule (order_of rows (length vars)) (start 0 rows) s f.after reached_here cs for_here met_here (between Low low high) l u))

  some_here : (i : Interval) → IsIntervalOf rows cs s.var i → (w : Rational) × IsInside i w
  some_here i v = let k = some_value h.rule (order_of rows (length vars)) (start 0 rows) s f.after reached_here cs for_here met_here in (k.0, (v.values k.0).1 (subst (λ x. IsCompleted rows (with_value x k.0 cs)) (sym var_here) (subst (λ rs. IsCompleted rs (with_value reached_here.x k.0 cs)) (bare_start 0 rows) k.1)))

  numeric_here : is_numeric (types_in vars s.var) ≡ true
  numeric_here = order_numeric vars rows (length vars) s.var h.numeric (subst (λ x. is_in x (order_of rows (length vars)) ≡ true) (sym var_here) (reached_here.within reached_here.x (ap (λ b. b || is_in reached_here.x reached_here.later) (same_var reached_here.x))))

  picked_here : (low high : Option End) (p : Pick) → IsTightest Low s.var cs s.lows low → IsTightest High s.var cs s.ups high → (is_numeric (types_in vars s.var) ≡ true → (w : Rational) → IsInside (between Low low high) w → IsPicked (between Low low high) (types_in vars s.var) p) → IsPicked (between Low low high) (types_in vars s.var) p
  picked_here low high p l u k = let w = some_here (between Low low high) (interval_here low high l u) in k numeric_here w.0 w.1

  pub goes_on : (v : Rational) → IsNextPick s cs (types_in vars s.var) (Value v) → IsSofar rows vars steps before (cs ++ ((s.var, v) ∷ []))
  goes_on v (between_ends low high _ l u k) = let i = interval_here low high l u in let p = picked_here low high (Value v) l u k in record {
    after = s ∷ f.after;
    splits = splits_here;
    choice = subst (λ xs. Chooses rows vars xs [] (chose (cs ++ ((s.var, v) ∷ [])))) (sym (reverse-append (s.var ∷ []) (vars_of f.after))) (then_takes rows vars (reverse (vars_of f.after)) [] cs s.var (between Low low high) v f.choice i p.0);
    met = (i.values v).0 p.1;
    are_for = more_for (vars_of f.after) s.var v cs f.are_for;
    narrow = All-append (λ (c : ℕ × Rational). fits c.1 ≡ true) cs ((s.var, v) ∷ []) f.narrow (All-cons (λ (c : ℕ × Rational). fits c.1 ≡ true) (s.var, v) [] p.2 (All-nil _));
  }
    where
      or_true : (a b : Bool) → b ≡ true → (a || b) ≡ true
      or_true true b e = refl
      or_true false b e = e

      in_with : (u x : ℕ) (v : Rational) (cs : List (ℕ × Rational)) → is_in u (vars_in (cs ++ ((x, v) ∷ []))) ≡ (eqb u x || is_in u (vars_in cs))
      in_with u x v [] = refl
      in_with u x v (c ∷ cs) = ap (λ b. eqb u c.0 || b) (in_with u x v cs) ∙ swap (eqb u c.0) (eqb u x) (is_in u (vars_in cs))
        where
          swap : (a b c : Bool) → (a || (b || c)) ≡ (b || (a || c))
          swap true true c = refl
          swap true false c = refl
          swap false true c = refl
          swap false false c = refl

      more_for : (vs : List ℕ) (x : ℕ) (v : Rational) (cs : List (ℕ × Rational)) → AreFor vs cs → AreFor (x ∷ vs) (cs ++ ((x, v) ∷ []))
      more_for vs x v cs a = record {
        within = All-append (λ (c : ℕ × Rational). is_in c.0 (x ∷ vs) ≡ true) cs ((x, v) ∷ []) (All-weaker (λ (c : ℕ × Rational). is_in c.0 vs ≡ true) (λ (c : ℕ × Rational). is_in c.0 (x ∷ vs) ≡ true) (λ c e. or_true (eqb c.0 x) (is_in c.0 vs) e) cs a.within) (All-cons (λ (c : ℕ × Rational). is_in c.0 (x ∷ vs) ≡ true) (x, v) [] (ap (λ b. b || is_in x vs) (same_var x)) (All-nil _));
        each = λ u e. in_with u x v cs ∙ go u (eqb u x) e;
      }
        where
          go : (u : ℕ) (b : Bool) → (b || is_in u vs) ≡ true → (b || is_in u (vars_in cs)) ≡ true
          go u true e = refl
          go u false e = a.each u e

  reversed_here : reverse (order_of rows (length vars)) ≡ reverse (vars_of f.after) ++ (s.var ∷ reverse (vars_of before))
  reversed_here = ap reverse (steps_in_order rows vars steps h ∙ ap vars_of splits_here ∙ vars_append before (s ∷ f.after)) ∙ reverse-append (vars_of before) (s.var ∷ vars_of f.after) ∙ ap (λ ys. ys ++ reverse (vars_of before)) (reverse-append (s.var ∷ []) (vars_of f.after)) ∙ append_assoc (reverse (vars_of f.after)) (s.var ∷ []) (reverse (vars_of before))
    where
      vars_append : (a b : List Step) → vars_of (a ++ b) ≡ vars_of a ++ vars_of b
      vars_append [] b = refl
      vars_append (t ∷ a) b = ap (λ ys. t.var ∷ ys) (vars_append a b)

  pub breaks_here : (low high : End) → IsNextPick s cs (types_in vars s.var) (Breaks low high) → ChoosesFrom rows vars (broke s.var cs (record { low = Some low; high = Some high }))
  breaks_here low high (between_ends lo hi _ l u k) =
      let p = picked_here lo hi (Breaks low high) l u k in
      subst (λ xs. Chooses rows vars xs [] (broke s.var cs (record { low = Some low; high = Some high }))) (sym reversed_here)
      (subst (λ i. Chooses rows vars (reverse (vars_of f.after) ++ (s.var ∷ reverse (vars_of before))) [] (broke s.var cs i)) (both_ends p.1 p.2) (then_breaks rows vars (reverse (vars_of f.after)) (reverse (vars_of before)) [] cs s.var (between Low lo hi) f.choice (interval_here lo hi l u) p.0))
    where
      both_ends : lo ≡ Some low → hi ≡ Some high → between Low lo hi ≡ record { low = Some low; high = Some high }
      both_ends e g = ap₂ (between Low) e g

  pub narrow_here : (low high : End) → IsNextPick s cs (types_in vars s.var) (Breaks low high) → (fits low.place ≡ true) × (fits high.place ≡ true)
  narrow_here low high (between_ends lo hi _ l u k) = let p = picked_here lo hi (Breaks low high) l u k in (of_some lo low p.1 l.narrow, of_some hi high p.2 u.narrow)
    where
      of_some : (o : Option End) (e : End) → o ≡ Some e → IfSome o (λ d. fits d.place ≡ true) → fits e.place ≡ true
      of_some o e q h = subst (λ x. IfSome x (λ d. fits d.place ≡ true)) q h

  pub ordered_here : (low high : End) → IsNextPick s cs (types_in vars s.var) (Breaks low high) → low.place ≤ʳ high.place
  ordered_here low high (between_ends lo hi _ l u k) =
      let p = picked_here lo hi (Breaks low high) l u k in
      let w = some_here (between Low lo hi) (interval_here lo hi l u) in
      ≤ʳ_trans low.place w.0 high.place (up_from_weak low w.0 (w.1.from_low low p.1)) (up_to_weak high w.0 (w.1.to_high high p.2))

  pub great_here : IsNextPick s cs (types_in vars s.var) Great → IsChoiceTooGreat rows vars steps
  great_here (great_end e) = (record { before = before; next = s; after = f.after; chosen = cs; splits = splits_here; choice = f.choice; too_great = in_an_end e })
  great_here (between_ends low high _ l u k) = let p = picked_here low high Great l u k in (record { before = before; next = s; after = f.after; chosen = cs; splits = splits_here; choice = f.choice; too_great = in_a_value (between Low low high) p.0 (interval_here low high l u) p.1 p.2 })

-- ---- At the end

module _ (rows : List Row) (vars : List Ty) (steps : List Step) (h : IsEliminated rows vars steps) (cs : List (ℕ × Rational)) (f : IsSofar rows vars steps [] cs) where
  pub all_chosen : ChoosesFrom rows vars (chose cs)
  all_chosen = subst (λ xs. Chooses rows vars (reverse xs) [] (chose cs)) (sym (steps_in_order rows vars steps h ∙ ap vars_of f.splits)) f.choice

  value_numeric : (ty : Ty) (v : Rational) → is_numeric ty ≡ true → number_of (value_for ty v) ≡ v
  value_numeric Ty.Bool v e = absurd (cc)
  value_numeric Ty.Int v e = refl
  value_numeric Ty.UInt v e = refl
  value_numeric Ty.UReal v e = refl

  state_agrees : (point : List Val) → IsStateOf vars cs point → (v : ℕ) → is_in v (order_of rows (length vars)) ≡ true → f.met.at_values v ≡ number_of (environment point v)
  state_agrees point p v e = agrees_on f.met.at_values (order_of rows (length vars)) cs (subst (λ vs. AreFor vs cs) (sym (steps_in_order rows vars steps h ∙ ap vars_of f.splits)) f.are_for) f.met.agrees v e ∙ sym (ap number_of (p.values v (order_below rows (length vars) v e)) ∙ value_numeric (types_in vars v) (chosen_value v cs) (order_numeric vars rows (length vars) v h.numeric e))

  pub point_meets : (point : List Val) → IsStateOf vars cs point → MeetsAll point rows
  point_meets point p = All-both (λ r. IsOver (order_of rows (length vars)) r.terms) (MeetsAt f.met.at_values) (MeetsAt (λ x. number_of (environment point x))) (λ r o m. meets_same f.met.at_values (λ x. number_of (environment point x)) r (All-weaker (λ t. is_in t.0 (order_of rows (length vars)) ≡ true) (λ t. f.met.at_values t.0 ≡ number_of (environment point t.0)) (λ t e. state_agrees point p t.0 e) r.terms o) m) rows h.over f.met.meets

  value_narrow : (ds : List (ℕ × Rational)) (x : ℕ) → All (λ (c : ℕ × Rational). fits c.1 ≡ true) ds → fits (chosen_value x ds) ≡ true
  value_narrow [] x a = zero_fits
  value_narrow (d ∷ ds) x a = go (eqb d.0 x) (value_narrow ds x (All-tail (λ (c : ℕ × Rational). fits c.1 ≡ true) d ds a))
    where
      go : (b : Bool) → fits (chosen_value x ds) ≡ true → fits (cond b d.1 (chosen_value x ds)) ≡ true
      go true ih = All-head (λ (c : ℕ × Rational). fits c.1 ≡ true) d ds a
      go false ih = ih

  number_narrow : (ty : Ty) (v : Rational) → fits v ≡ true → fits (number_of (value_for ty v)) ≡ true
  number_narrow Ty.Bool v e = zero_fits
  number_narrow Ty.Int v e = e
  number_narrow Ty.UInt v e = e
  number_narrow Ty.UReal v e = e

  all_narrow : (point : List Val) → IsStateOf vars cs point → AreNarrow point
  all_narrow point p = from_each point (λ x l. subst (λ v. fits (number_of v) ≡ true) (sym (p.values x (subst (λ n. x < n) p.each l))) (number_narrow (types_in vars x) (chosen_value x cs) (value_narrow cs x f.narrow)))
    where
      from_each : (vs : List Val) → ((x : ℕ) → x < length vs → fits (number_of (get_or vs x (Truth false))) ≡ true) → AreNarrow vs
      from_each [] h = All-nil _
      from_each (v ∷ vs) h = All-cons (λ v. fits (number_of v) ≡ true) v vs (h zero (omega arith)) (from_each vs (λ x l. h (suc x) (omega (arith, l))))

  pub point_answer : (point : List Val) → IsStateOf vars cs point → IsGreedyPoint rows vars point × MeetsAll point rows × AreNarrow point
  point_answer point p = (record { solvable = solved rows vars steps h; chosen = cs; choice = all_chosen; state = p }, point_meets point p, all_narrow point p)
