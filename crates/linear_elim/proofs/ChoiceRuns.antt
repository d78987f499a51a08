-- The loop over the steps, and the state of all variables.
use Rattle.std.proofs.Common.{◌≡◌, ℕ, ◌+◌, ◌<◌, ◌≤◌, List, [], ◌∷◌, ◌++◌, length, map, take, get_or, below_more, refl, sym, ap, ap₂, ◌∙◌, subst, arith, Bool, true, false, ◌||◌, not}
use Rattle.std.specs.Prelude.{Option, Some}
use Rattle.std.specs.List.{All, list_any}
use Prim.Native.Nat.{zero, suc}
use Rattle.std.proofs.lemmas.List.Elements.{All-head}
use Rattle.std.proofs.lemmas.List.Folds.{list_any-append}
use Rattle.heylo_formula.specs.declared.types.Ty.{Ty}
use Rattle.heylo_formula.specs.declared.values.Val.{Val}
use Rattle.heylo_formula.specs.declared.values.Val.TheVariants.{Truth, Num}
use Rattle.heyvl_num.specs.Rational.{Rational, ◌≤ʳ◌}
use Rattle.linear_rows.specs.Row.{Row}
use Rattle.linear_rows.specs.Numbers.{fits}
use Rattle.linear_rows.specs.VariableTypes.{is_numeric}
use Rattle.linear_rows.specs.GreedyPoint.{End, Interval, IsInside, ChoosesFrom, chosen_value, value_for, IsStateOf}
use Rattle.heylo_formula.specs.Typing.{types_in}
use Rattle.linear_rows.specs.GreedyPoint.Greedy.{broke}
use Rattle.linear_elim.specs.Joins.{Derived}
use Rattle.linear_elim.specs.Elimination.{Step}
use Rattle.linear_elim.specs.ChoiceNumbers.{end_of, end_fits, IsChoiceTooGreat}
use Rattle.linear_elim.specs.internal.ChoiceSteps.{IsTightest}
use Rattle.interval_choice.specs.Picks.{between, IsPicked}
use Rattle.linear_elim.specs.internal.Picks.{IsNextPick, IsDerivedStep}
use Rattle.linear_elim.specs.internal.Picks.IsNextPick.{great_end, between_ends}
use Rattle.linear_elim.specs.Answers.{IsBreak, HasNarrowEnds}
use Rattle.linear_elim.specs.internal.Eliminations.{IsEliminated}
use Rattle.goal_answers.specs.declared.causes.Broken.{Broken}
use Rattle.interval_choice.specs.declared.sides.Side.TheVariants.{Low, High}
use Rattle.interval_choice.specs.declared.picks.Pick.{Pick}
use Rattle.interval_choice.specs.declared.picks.Pick.TheVariants.{Value, Breaks, Great}
use Rattle.linear_elim.proofs.Solutions.{all_append-left, all_append-right}
use Rattle.linear_elim.proofs.EndRuns.{take_item}
use Rattle.linear_elim.proofs.Greedily.{IsSofar, solved, goes_on, breaks_here, narrow_here, ordered_here, great_here}

-- ---- The next step

or_left : (a b : Bool) → a ≡ true → (a || b) ≡ true
or_left true b e = refl
or_left false b e = absurd (cc)

or_right : (a b : Bool) → b ≡ true → (a || b) ≡ true
or_right true b e = refl
or_right false b e = e

abbrev pub IsGreatAt : ℕ → List (ℕ × Rational) → Derived → Bool
IsGreatAt x cs r = not (end_fits (end_of x cs r.row))

pub great_low : (s : Step) (x : ℕ) (lows : List Derived) (cs : List (ℕ × Rational)) (ty : Ty) → x ≡ s.var → lows ≡ s.lows → list_any (IsGreatAt x cs) lows ≡ true → IsNextPick s cs ty Great
great_low s x lows cs ty e f h = great_end (list_any-append (IsGreatAt s.var cs) s.lows s.ups ∙ or_left _ _ (subst (λ rs. list_any (IsGreatAt s.var cs) rs ≡ true) f (subst (λ y. list_any (IsGreatAt y cs) lows ≡ true) e h)))

pub great_up : (s : Step) (x : ℕ) (ups : List Derived) (cs : List (ℕ × Rational)) (ty : Ty) → x ≡ s.var → ups ≡ s.ups → list_any (IsGreatAt x cs) ups ≡ true → IsNextPick s cs ty Great
great_up s x ups cs ty e f h = great_end (list_any-append (IsGreatAt s.var cs) s.lows s.ups ∙ or_right _ _ (subst (λ rs. list_any (IsGreatAt s.var cs) rs ≡ true) f (subst (λ y. list_any (IsGreatAt y cs) ups ≡ true) e h)))

pub next_between : (s : Step) (x : ℕ) (lows ups : List Derived) (cs : List (ℕ × Rational)) (ty : Ty) (low high : Option End) (p : Pick) → x ≡ s.var → lows ≡ s.lows → ups ≡ s.ups → IsTightest Low x cs lows low → IsTightest High x cs ups high → (is_numeric ty ≡ true → (w : Rational) → IsInside (between Low low high) w → IsPicked (between Low low high) ty p) → IsNextPick s cs ty p
next_between s x lows ups cs ty low high p e f g l u k = between_ends low high p (subst (λ rs. IsTightest Low s.var cs rs low) f (subst (λ y. IsTightest Low y cs lows low) e l)) (subst (λ rs. IsTightest High s.var cs rs high) g (subst (λ y. IsTightest High y cs ups high) e u)) k

-- ---- The loop over the steps

pub all_before : (rest before : List Step) (s : Step) → rest ≡ before ++ (s ∷ []) → All IsDerivedStep rest → All IsDerivedStep before
all_before rest before s e h = all_append-left IsDerivedStep before (s ∷ []) (subst (All IsDerivedStep) e h)

pub last_derived : (rest before : List Step) (s : Step) → rest ≡ before ++ (s ∷ []) → All IsDerivedStep rest → IsDerivedStep s
last_derived rest before s e h = All-head IsDerivedStep s [] (all_append-right IsDerivedStep before (s ∷ []) (subst (All IsDerivedStep) e h))

next_is : (vars : List Ty) (s : Step) (cs ds : List (ℕ × Rational)) (ty : Ty) (p q : Pick) → IsNextPick s ds ty p → ds ≡ cs → ty ≡ types_in vars s.var → p ≡ q → IsNextPick s cs (types_in vars s.var) q
next_is vars s cs ds ty p q h e f g = subst (IsNextPick s cs (types_in vars s.var)) g (subst (λ t. IsNextPick s cs t p) f (subst (λ es. IsNextPick s es ty p) e h))

pub sofar_next : (rows : List Row) (vars : List Ty) (steps rest before : List Step) (s : Step) (cs ds now : List (ℕ × Rational)) (ty : Ty) (x : ℕ) (v : Rational) (p : Pick) → IsEliminated rows vars steps → rest ≡ before ++ (s ∷ []) → IsSofar rows vars steps rest cs → IsNextPick s ds ty p → ds ≡ cs → ty ≡ types_in vars s.var → p ≡ Value v → now ≡ cs ++ ((x, v) ∷ []) → x ≡ s.var → IsSofar rows vars steps before now
sofar_next rows vars steps rest before s cs ds now ty x v p h e f n a b g m k = subst (IsSofar rows vars steps before) (sym (m ∙ ap (λ y. cs ++ ((y, v) ∷ [])) k)) (goes_on rows vars steps h before s cs (subst (λ r. IsSofar rows vars steps r cs) e f) v (next_is vars s cs ds ty p (Value v) n a b g))

an_end : (low : End) (p : Rational) (i : Bool) → p ≡ low.place → i ≡ low.inside → record { place = p; inside = i } ≡ low
an_end low p i e f = ap₂ (λ (p : Rational) (i : Bool). the_end p i) e f
  where
    the_end : Rational → Bool → End
    the_end p i = record { place = p; inside = i }

pub break_found : (rows : List Row) (vars : List Ty) (steps rest before : List Step) (s : Step) (cs ds es : List (ℕ × Rational)) (ty : Ty) (low high : End) (p : Pick) (b : Broken) → IsEliminated rows vars steps → rest ≡ before ++ (s ∷ []) → IsSofar rows vars steps rest cs → IsNextPick s ds ty p → ds ≡ cs → ty ≡ types_in vars s.var → p ≡ Breaks low high → b.var ≡ s.var → b.earlier.items ≡ map (λ c. (c.0, Num c.1)) es → es ≡ cs → b.low ≡ low.place → b.low_in ≡ low.inside → b.high ≡ high.place → b.high_in ≡ high.inside → IsBreak rows vars b × HasNarrowEnds b
break_found rows vars steps rest before s cs ds es ty low high p b h e f n a t g m k q l li u ui = (
  record {
    solvable = solved rows vars steps h;
    chosen = cs;
    choice = subst (λ i. ChoosesFrom rows vars (broke b.var cs i)) (sym (two_ends (an_end low b.low b.low_in l li) (an_end high b.high b.high_in u ui))) (subst (λ y. ChoosesFrom rows vars (broke y cs (record { low = Some low; high = Some high }))) (sym m) (breaks_here rows vars steps h before s cs (subst (λ r. IsSofar rows vars steps r cs) e f) low high (next_is vars s cs ds ty p (Breaks low high) n a t g)));
    earlier = k ∙ ap (λ ys. map (λ c. (c.0, Num c.1)) ys) q;
    ordered = subst (λ y. y ≤ʳ b.high) (sym l) (subst (λ y. low.place ≤ʳ y) (sym u) (ordered_here rows vars steps h before s cs (subst (λ r. IsSofar rows vars steps r cs) e f) low high (next_is vars s cs ds ty p (Breaks low high) n a t g)));
  },
  let w = narrow_here rows vars steps h before s cs (subst (λ r. IsSofar rows vars steps r cs) e f) low high (next_is vars s cs ds ty p (Breaks low high) n a t g) in record { low = subst (λ y. fits y ≡ true) (sym l) w.0; high = subst (λ y. fits y ≡ true) (sym u) w.1 },
)
  where
    ends_at : End → End → Interval
    ends_at x y = record { low = Some x; high = Some y }

    two_ends : {x y : End} → x ≡ low → y ≡ high → ends_at x y ≡ ends_at low high
    two_ends d j = ap₂ ends_at d j

pub great_found : (rows : List Row) (vars : List Ty) (steps rest before : List Step) (s : Step) (cs ds : List (ℕ × Rational)) (ty : Ty) (p : Pick) → IsEliminated rows vars steps → rest ≡ before ++ (s ∷ []) → IsSofar rows vars steps rest cs → IsNextPick s ds ty p → ds ≡ cs → ty ≡ types_in vars s.var → p ≡ Great → IsChoiceTooGreat rows vars steps
great_found rows vars steps rest before s cs ds ty p h e f n a t g = great_here rows vars steps h before s cs (subst (λ r. IsSofar rows vars steps r cs) e f) (next_is vars s cs ds ty p Great n a t g)

pub no_steps : (ss : List Step) → length ss ≡ 0 → ss ≡ []
no_steps [] e = refl
no_steps (s ∷ ss) e = absurd (omega (arith, e))

-- ---- Lists that are written

abbrev pub as_values : List (ℕ × Rational) → List (ℕ × Val)
as_values cs = map (λ c. (c.0, Num c.1)) cs

pub map_more : (cs : List (ℕ × Rational)) (i : ℕ) (c : ℕ × Rational) (out now : List (ℕ × Val)) → i < length cs → c ≡ get_or cs i c → out ≡ map (λ c. (c.0, Num c.1)) (take i cs) → now ≡ out ++ ((c.0, Num c.1) ∷ []) → now ≡ map (λ c. (c.0, Num c.1)) (take (i + 1) cs)
map_more cs i c out now l e h k = k ∙ ap (λ ys. ys ++ ((c.0, Num c.1) ∷ [])) h ∙ sym (map_one (take i cs)) ∙ ap as_values (sym (take_item cs i c l e))
  where
    map_one : (ds : List (ℕ × Rational)) → as_values (ds ++ (c ∷ [])) ≡ as_values ds ++ ((c.0, Num c.1) ∷ [])
    map_one [] = refl
    map_one (d ∷ ds) = ap (λ ys. (d.0, Num d.1) ∷ ys) (map_one ds)

pub map_all : (cs : List (ℕ × Rational)) (i : ℕ) (out : List (ℕ × Val)) → length cs ≤ i → out ≡ map (λ c. (c.0, Num c.1)) (take i cs) → out ≡ map (λ c. (c.0, Num c.1)) cs
map_all cs i out l h = h ∙ ap as_values (all_taken cs i l)
  where
    all_taken : (xs : List (ℕ × Rational)) (i : ℕ) → length xs ≤ i → take i xs ≡ xs
    all_taken [] zero l = refl
    all_taken [] (suc i) l = refl
    all_taken (x ∷ xs) zero l = absurd (omega (arith, l))
    all_taken (x ∷ xs) (suc i) l = ap (λ ys. x ∷ ys) (all_taken xs i (omega (arith, l)))

-- The first values of the state.
pub record IsStateUpTo (vars : List Ty) (cs : List (ℕ × Rational)) (out : List Val) (i : ℕ) : Type 0 where
  pub each : length out ≡ i
  pub values : (x : ℕ) → x < i → get_or out x (Truth false) ≡ value_for (types_in vars x) (chosen_value x cs)

pub state_none : (vars : List Ty) (cs : List (ℕ × Rational)) (out : List Val) → out ≡ [] → IsStateUpTo vars cs out 0
state_none vars cs out e = record { each = ap length e; values = λ x l. absurd (omega (arith, l)) }

pub state_more : (vars : List Ty) (cs : List (ℕ × Rational)) (out now : List Val) (i : ℕ) (v : Val) → IsStateUpTo vars cs out i → v ≡ value_for (types_in vars i) (chosen_value i cs) → now ≡ out ++ (v ∷ []) → IsStateUpTo vars cs now (i + 1)
state_more vars cs out now i v h e k = record { each = ap length k ∙ count out ∙ ap (λ n. n + 1) h.each; values = λ x l. ap (λ ys. get_or ys x (Truth false)) k ∙ at x l }
  where
    count : (ys : List Val) → length (ys ++ (v ∷ [])) ≡ length ys + 1
    count [] = refl
    count (y ∷ ys) = let c = count ys in omega (arith, c)

    front : (ys : List Val) (x : ℕ) → x < length ys → get_or (ys ++ (v ∷ [])) x (Truth false) ≡ get_or ys x (Truth false)
    front [] x l = absurd (omega (arith, l))
    front (y ∷ ys) zero l = refl
    front (y ∷ ys) (suc x) l = front ys x (omega (arith, l))

    last : (ys : List Val) (x : ℕ) → x ≡ length ys → get_or (ys ++ (v ∷ [])) x (Truth false) ≡ v
    last [] zero l = refl
    last [] (suc x) l = absurd (omega (arith, l))
    last (y ∷ ys) zero l = absurd (omega (arith, l))
    last (y ∷ ys) (suc x) l = last ys x (omega (arith, l))

    at : (x : ℕ) → x < i + 1 → get_or (out ++ (v ∷ [])) x (Truth false) ≡ value_for (types_in vars x) (chosen_value x cs)
    at = below_more (λ x. get_or (out ++ (v ∷ [])) x (Truth false) ≡ value_for (types_in vars x) (chosen_value x cs)) i (λ x l. front out x (subst (λ n. x < n) (sym h.each) l) ∙ h.values x l) (last out i (sym h.each) ∙ e)

pub state_all : (vars : List Ty) (cs : List (ℕ × Rational)) (out : List Val) (i : ℕ) → IsStateUpTo vars cs out i → i ≡ length vars → IsStateOf vars cs out
state_all vars cs out i h e = record { each = h.each ∙ e; values = λ x l. h.values x (subst (λ n. x < n) (sym e) l) }
