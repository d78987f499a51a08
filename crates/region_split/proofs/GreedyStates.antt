-- The greedy point of solvable rows over numbers satisfies them; its values for types of integers
-- are integers, and a variable that occurs in no row is 0.
use Rattle.std.proofs.Common.{◌≡◌, ℕ, ◌+◌, ◌<◌, List, [], ◌∷◌, length, refl, sym, ap, ap₂, ◌∙◌, subst, arith, Bool, true, false, cond, ◌||◌, eqb}
use Rattle.std.specs.Prelude.{ℤ, reverse}
use Prim.Native.Nat.{zero, suc}
use Rattle.std.specs.List.{All, list_any}
use Rattle.std.proofs.lemmas.List.Elements.{All-nil, All-cons, All-head, All-tail}
use Rattle.std.proofs.lemmas.List.Sums.{sum_by-cons}
use Rattle.heyvl_num.specs.Rational.{Rational, zeroʳ, ◌+ʳ◌, ◌*ʳ◌}
use Rattle.heyvl_num.specs.Rounding.{whole}
use Rattle.heylo_formula.specs.declared.types.Ty.{Ty}
use Rattle.linear_rows.specs.Row.{Row}
use Rattle.linear_rows.specs.VariableTypes.{is_numeric, IsNumericRow, is_integral}
use Rattle.heylo_formula.specs.Typing.{types_in}
use Rattle.linear_rows.specs.Solutions.{sum_of, MeetsAt, IsBelowZero, IsSolvable}
use Rattle.linear_rows.specs.VariableOrder.{occurs_in_row, occurrences, order_of}
use Rattle.linear_rows.specs.GreedyPoint.{Greedy, ChoosesFrom, chosen_value}
use Rattle.linear_rows.proofs.exported.GreedyChoices.{AreWhole, completed, chosen_whole, zero_whole}
use Rattle.region_split.proofs.GreedyOrder.{turned_order, turned_occurs, chosen_any, chosen_all}

-- ---- The value of a variable among those chosen

same_number : (x y : ℕ) → eqb x y ≡ true → x ≡ y
same_number x y e = grind arith

same : (x : ℕ) → eqb x x ≡ true
same x = grind arith

value_agrees : (f : ℕ → Rational) (x : ℕ) (cs : List (ℕ × Rational)) → All (λ c. f c.0 ≡ c.1) cs → list_any (λ c. eqb c.0 x) cs ≡ true → chosen_value x cs ≡ f x
value_agrees f x [] h e = absurd (cc)
value_agrees f x (c ∷ cs) h e = go (eqb c.0 x) refl e (value_agrees f x cs (All-tail (λ c. f c.0 ≡ c.1) c cs h))
  where
    go : (b : Bool) → eqb c.0 x ≡ b → (b || list_any (λ c. eqb c.0 x) cs) ≡ true → (list_any (λ c. eqb c.0 x) cs ≡ true → chosen_value x cs ≡ f x) → cond b c.1 (chosen_value x cs) ≡ f x
    go true k e ih = sym (All-head (λ c. f c.0 ≡ c.1) c cs h) ∙ ap f (same_number c.0 x k)
    go false k e ih = ih e

value_whole : (vars : List Ty) (x : ℕ) (cs : List (ℕ × Rational)) → AreWhole vars cs → (is_integral (types_in vars x) ≡ true) → (chosen_value x cs).den ≡ 1
value_whole vars x [] h t = zero_whole
value_whole vars x (c ∷ cs) h t = go (eqb c.0 x) refl (value_whole vars x cs (All-tail (λ c. (is_integral (types_in vars c.0) ≡ true) → c.1.den ≡ 1) c cs h) t)
  where
    go : (b : Bool) → eqb c.0 x ≡ b → (chosen_value x cs).den ≡ 1 → (cond b c.1 (chosen_value x cs)).den ≡ 1
    go true k ih = All-head (λ c. (is_integral (types_in vars c.0) ≡ true) → c.1.den ≡ 1) c cs h (subst (λ y. (is_integral (types_in vars y) ≡ true)) (sym (same_number c.0 x k)) t)
    go false k ih = ih

-- A variable has its chosen value, or 0 if none is chosen.
data Chosen (P : ℕ → Type 0) (x : ℕ) (v : Rational) : Type 0 where
  among : P x → Chosen P x v
  unset : v ≡ zeroʳ → Chosen P x v

value_chosen : (P : ℕ → Type 0) (x : ℕ) (cs : List (ℕ × Rational)) → All (λ c. P c.0) cs → Chosen P x (chosen_value x cs)
value_chosen P x [] h = Chosen.unset refl
value_chosen P x (c ∷ cs) h = go (eqb c.0 x) refl (value_chosen P x cs (All-tail (λ c. P c.0) c cs h))
  where
    go : (b : Bool) → eqb c.0 x ≡ b → Chosen P x (chosen_value x cs) → Chosen P x (cond b c.1 (chosen_value x cs))
    go true k ih = Chosen.among (subst P (same_number c.0 x k) (All-head (λ c. P c.0) c cs h))
    go false k ih = ih

-- ---- Rows do not depend on other variables

sum_same : (types : List Ty) (f g : ℕ → Rational) (ts : List (ℕ × ℤ)) → All (λ t. is_numeric (types_in types t.0) ≡ true) ts → ((x : ℕ) → is_numeric (types_in types x) ≡ true → list_any (λ t. eqb t.0 x) ts ≡ true → f x ≡ g x) → sum_of f ts ≡ sum_of g ts
unfolding sum_of
sum_same types f g [] n h = refl
sum_same types f g (t ∷ ts) n h = ap₂ (λ a b. (whole t.1 *ʳ a) +ʳ b) (h t.0 (All-head (λ t. is_numeric (types_in types t.0) ≡ true) t ts n) (ap (λ b. b || list_any (λ u. eqb u.0 t.0) ts) (same t.0))) (sum_same types f g ts (All-tail (λ t. is_numeric (types_in types t.0) ≡ true) t ts n) (λ x m e. h x m (later (eqb t.0 x) _ e)))
  where
    later : (a b : Bool) → b ≡ true → (a || b) ≡ true
    later true b e = refl
    later false b e = e

row_same : (types : List Ty) (f g : ℕ → Rational) (r : Row) → IsNumericRow types r → ((x : ℕ) → is_numeric (types_in types x) ≡ true → occurs_in_row x r ≡ true → f x ≡ g x) → MeetsAt f r → MeetsAt g r
row_same types f g r n h m = record { met = subst (λ y. IsBelowZero r.strict (y +ʳ whole r.rest)) (sum_same types f g r.terms n.numeric h) m.met }

-- `f` and `g` agree on the numeric variables that occur in the rows.
abbrev AgreeOn : List Ty → List Row → (ℕ → Rational) → (ℕ → Rational) → Type 0
AgreeOn types rows f g = (x : ℕ) → is_numeric (types_in types x) ≡ true → 0 < occurrences x rows → f x ≡ g x

occurs_first : (x : ℕ) (r : Row) (rows : List Row) → occurs_in_row x r ≡ true → 0 < occurrences x (r ∷ rows)
occurs_first x r rows e = subst (λ n. 0 < n) (sym (sum_by-cons (λ q. cond (occurs_in_row x q) 1 0) r rows ∙ ap (λ b. cond b 1 0 + occurrences x rows) e)) (positive (occurrences x rows))
  where
    positive : (n : ℕ) → 0 < 1 + n
    positive n = omega arith

occurs_later : (x : ℕ) (r : Row) (rows : List Row) → 0 < occurrences x rows → 0 < occurrences x (r ∷ rows)
occurs_later x r rows h = subst (λ n. 0 < n) (sym (sum_by-cons (λ q. cond (occurs_in_row x q) 1 0) r rows)) (larger (cond (occurs_in_row x r) 1 0) (occurrences x rows) h)
  where
    larger : (m n : ℕ) → 0 < n → 0 < m + n
    larger m n h = omega (arith, h)

pub rows_same : (types : List Ty) (f g : ℕ → Rational) (rows : List Row) → All (IsNumericRow types) rows → AgreeOn types rows f g → All (MeetsAt f) rows → All (MeetsAt g) rows
rows_same types f g [] n h m = All-nil _
rows_same types f g (r ∷ rows) n h m = All-cons (MeetsAt g) r rows (row_same types f g r (All-head (IsNumericRow types) r rows n) (λ x k e. h x k (occurs_first x r rows e)) (All-head (MeetsAt f) r rows m)) (rows_same types f g rows (All-tail (IsNumericRow types) r rows n) (λ x k e. h x k (occurs_later x r rows e)) (All-tail (MeetsAt f) r rows m))

-- ---- The chosen values

pub number_below : (types : List Ty) (x : ℕ) → is_numeric (types_in types x) ≡ true → x < length types
number_below [] x e = absurd (cc)
number_below (ty ∷ types) zero e = omega arith
number_below (ty ∷ types) (suc x) e = let h = number_below types x e in omega (arith, h)

pub greedy_meets : (rows : List Row) (vars : List Ty) (cs : List (ℕ × Rational)) → IsSolvable rows → All (IsNumericRow vars) rows → ChoosesFrom rows vars (Greedy.chose cs) → All (MeetsAt (λ x. chosen_value x cs)) rows
greedy_meets rows vars cs s n c = let h = completed rows vars (reverse (order_of rows (length vars))) [] cs c (record { at_values = s.at_values; agrees = All-nil _; meets = s.meets }) in rows_same vars h.at_values (λ x. chosen_value x cs) rows n (λ x k o. sym (value_agrees h.at_values x cs h.agrees (chosen_any rows vars x (reverse (order_of rows (length vars))) [] cs c (ap (λ b. b || false) (turned_order rows (length vars) x (number_below vars x k) o))))) h.meets

pub greedy_whole : (rows : List Row) (vars : List Ty) (cs : List (ℕ × Rational)) (x : ℕ) → ChoosesFrom rows vars (Greedy.chose cs) → (is_integral (types_in vars x) ≡ true) → (chosen_value x cs).den ≡ 1
greedy_whole rows vars cs x c t = value_whole vars x cs (chosen_whole rows vars (reverse (order_of rows (length vars))) [] cs c (All-nil _)) t

pub greedy_value : (P : Rational → Type 0) (rows : List Row) (vars : List Ty) (cs : List (ℕ × Rational)) (x : ℕ) → ChoosesFrom rows vars (Greedy.chose cs) → P zeroʳ → (0 < occurrences x rows → P (chosen_value x cs)) → P (chosen_value x cs)
greedy_value P rows vars cs x c z h = go (value_chosen (λ y. 0 < occurrences y rows) x cs (chosen_all (λ y. 0 < occurrences y rows) rows vars (reverse (order_of rows (length vars))) [] cs c (turned_occurs rows (length vars)) (All-nil _)))
  where
    go : Chosen (λ y. 0 < occurrences y rows) x (chosen_value x cs) → P (chosen_value x cs)
    go (Chosen.among o) = h o
    go (Chosen.unset e) = subst P (sym e) z
