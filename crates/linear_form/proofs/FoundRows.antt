-- The rows of a path satisfy their invariant, and there are few of them.
use Rattle.std.proofs.Common.{◌≡◌, ℕ, ◌+◌, ◌<◌, ◌≤◌, ◌^◌, List, [], ◌∷◌, ◌++◌, length, refl, sym, ap, ap₂, ◌∙◌, subst, arith, lit<, Bool, true, false, cond, ◌&&◌, ◌||◌}
use Rattle.std.specs.Prelude.{ℤ, pos, unsigned_abs, Option, Some, None}
use Rattle.std.specs.List.{All}
use Rattle.std.proofs.lemmas.List.{length-append, length-map}
use Rattle.std.proofs.lemmas.List.Elements.{All-nil, All-cons}
use Prim.Native.Nat.{zero, suc}
use Rattle.heyvl_num.specs.Rational.{Rational, ratio, oneʳ, ◌*ʳ◌}
use Rattle.heyvl_num.specs.Value.{is_zeroʳ, is_zero_num}
use Rattle.heyvl_num.proofs.exported.Values.{is_zero-*, is_zero-one}
use Rattle.heyvl_num.proofs.exported.Rationals.{*ʳ-one}
use Rattle.heylo_formula.specs.Goals.{Goal}
use Rattle.heylo_formula.specs.Typing.{Types, types_in}
use Rattle.linear_rows.specs.Row.{Row, IsRow}
use Rattle.linear_rows.specs.Terms as row
use Rattle.linear_rows.specs.Terms.{is_narrow}
use Rattle.linear_values.specs.Lin.{Terms, variable, IsAbove, AreNormal, is_sized}
use Rattle.linear_form.specs.Query.{Atom, Taken}
use Rattle.linear_form.specs.Paths.{IsPath, end_at}
use Rattle.linear_rows.specs.TermResults.{are_narrow}
use Rattle.linear_values.specs.Tightening.{Claim, tightened, tight_row, whole_terms, factor, rounded, are_whole, constant_fits, with_row, all_tightened}
use Rattle.heylo_formula.specs.TypedGoals.{IsTypedGoal}
use Rattle.linear_form.specs.PathRows.{claim, negated, answer_claims, path_claims, denial_at, listed, is_unsigned_type, occurs_in_claims, sign_claims, claims_of, rows_of}
use Rattle.linear_form.specs.RowLists.{Lists, AreRows, AreNumericRows, count_of}
use Rattle.linear_form.specs.PlainPaths.{path_of, taken_of}
use Rattle.linear_form.specs.declared.paths.Taken as T
use Rattle.linear_form.specs.declared.path_rows.RowList.{RowList}
use Rattle.linear_form.specs.declared.path_rows.RowList.TheVariants.{Rows, Bits}
use Rattle.linear_values.proofs.exported.KeptTerms.{of_two}
use Rattle.linear_values.proofs.exported.Factors.{normal_nonzero, nonzero_factor}
use Rattle.linear_values.proofs.exported.TightRows.{IsPositive, positive_ratio, factor_positive}
use Rattle.linear_form.proofs.NumericRows.{numeric_rows}
use Rattle.linear_form.proofs.NormalClaims.{AllNormal, all_normal}

-- ---- The terms of a row

number_nonzero : (x : Rational) → is_zeroʳ x ≡ false → x.num ≡ pos 0 → ⊥
unfolding is_zeroʳ
number_nonzero x e k = let l = sym (ap is_zero_num k) ∙ e in absurd (cc)

whole_above : (m : ℕ) (w : Rational) (ts : Terms) → IsAbove m ts → All (λ (u : ℕ × ℤ). m < u.0) (whole_terms w ts)
whole_above m w [] h = All-nil _
whole_above m w (t ∷ ts) h = All-cons (λ (u : ℕ × ℤ). m < u.0) _ _ h.0 (whole_above m w ts h.1)

whole_normal : (w : Rational) (ts : Terms) → is_zeroʳ w ≡ false → AreNormal ts → row.IsNormal (whole_terms w ts)
whole_normal w [] e h = tt
whole_normal w (t ∷ ts) e h = (number_nonzero (w *ʳ t.1) (is_zero-* w t.1 ∙ ap₂ (λ a b. a || b) e h.0), (whole_above t.0 w ts h.1.0, whole_normal w ts e h.1.1))

positive_nonzero : (w : Rational) → IsPositive w → is_zeroʳ w ≡ false
positive_nonzero w p = ap is_zeroʳ (sym (*ʳ-one w)) ∙ nonzero_factor w oneʳ p is_zero-one

factor_nonzero : (t : ℕ × Rational) (ts : Terms) → AreNormal (t ∷ ts) → is_zeroʳ (factor (t ∷ ts)) ≡ false
factor_nonzero t ts h = positive_nonzero (factor (t ∷ ts)) (factor_positive t ts (normal_nonzero (t ∷ ts) h))

multiple_nonzero : (c : Rational) → is_zeroʳ (ratio (pos c.den) 1) ≡ false
multiple_nonzero c = positive_nonzero (ratio (pos c.den) 1) (positive_ratio c.den 1 c.positive (lit< tt))

tight_normal : (types : Types) (ts : Terms) (c : Rational) (strict : Bool) → AreNormal ts → row.IsNormal (tight_row types ts c strict).terms
tight_normal types [] c strict h = tt
tight_normal types (t ∷ ts) c strict h = of_two (λ (r : Row). row.IsNormal r.terms) (are_whole types (t ∷ ts)) (record { terms = whole_terms (factor (t ∷ ts)) (t ∷ ts); rest = rounded strict (factor (t ∷ ts) *ʳ c); strict = false }) _ (whole_normal (factor (t ∷ ts)) (t ∷ ts) (factor_nonzero t ts h) h) (whole_normal _ (t ∷ ts) (is_zero-* _ (factor (t ∷ ts)) ∙ ap₂ (λ a b. a || b) (multiple_nonzero (factor (t ∷ ts) *ʳ c)) (factor_nonzero t ts h)) h)

-- ---- Its numbers

and_left : (a b : Bool) → (a && b) ≡ true → a ≡ true
and_left true b e = refl
and_left false b e = absurd (cc)

and_right : (a b : Bool) → (a && b) ≡ true → b ≡ true
and_right true b e = e
and_right false b e = absurd (cc)

narrow_less : (z : ℤ) → is_narrow z ≡ true → unsigned_abs z < 2 ^ 62
narrow_less z h = grind arith

narrow_terms : (ts : List (ℕ × ℤ)) → are_narrow ts ≡ true → All (λ (t : ℕ × ℤ). unsigned_abs t.1 < 2 ^ 62) ts
narrow_terms [] h = All-nil _
narrow_terms (t ∷ ts) h = All-cons (λ (t : ℕ × ℤ). unsigned_abs t.1 < 2 ^ 62) t ts (narrow_less t.1 (and_left _ _ h)) (narrow_terms ts (and_right (is_narrow t.1) _ h))

chosen_row : (a b : Bool) (r q : Row) → row.IsNormal r.terms → cond (a && (b && (are_narrow r.terms && is_narrow r.rest))) (Some r) None ≡ Some q → IsRow q
chosen_row a b r q h e = go (a && (b && (are_narrow r.terms && is_narrow r.rest))) refl e
  where
    go : (d : Bool) → (a && (b && (are_narrow r.terms && is_narrow r.rest))) ≡ d → cond d (Some r) None ≡ Some q → IsRow q
    go true f e = let n = and_right b _ (and_right a _ f) in let i : r ≡ q = cc in subst IsRow i (record { normal = h; narrow = narrow_terms r.terms (and_left _ _ n); rest_narrow = narrow_less r.rest (and_right (are_narrow r.terms) _ n) })
    go false f e = absurd (cc)

tightened_row : (types : Types) (k : Claim) (r : Row) → AreNormal k.left.terms → tightened types k ≡ Some r → IsRow r
unfolding tightened
tightened_row types k r h e = chosen_row (is_sized k.left) (constant_fits k.left.terms k.left.rest) (tight_row types k.left.terms k.left.rest k.strict) r (tight_normal types k.left.terms k.left.rest k.strict h) e

-- ---- The rows of claims

record AreFound (ks : List Claim) (rows : List Row) : Type 0 where
  are_rows : All IsRow rows
  count : length rows ≡ length ks

found : (types : Types) (ks : List Claim) (rows : List Row) → AllNormal ks → all_tightened types ks ≡ Some rows → AreFound ks rows
found types [] rows h e = let k : [] ≡ rows = cc in subst (AreFound []) k (record { are_rows = All-nil _; count = refl })
found types (k ∷ ks) rows h e = go (tightened types k) refl (all_tightened types ks) refl e (λ qs b. found types ks qs h.1 b)
  where
    go : (o : Option Row) → tightened types k ≡ o → (p : Option (List Row)) → all_tightened types ks ≡ p → with_row o p ≡ Some rows → ((qs : List Row) → all_tightened types ks ≡ Some qs → AreFound ks qs) → AreFound (k ∷ ks) rows
    go (Some r) a (Some qs) b e ih = let i : (r ∷ qs) ≡ rows = cc in let f = ih qs b in subst (AreFound (k ∷ ks)) i (record { are_rows = All-cons IsRow r qs (tightened_row types k r h.0 a) f.are_rows; count = ap suc f.count })
    go (Some r) a None b e ih = absurd (cc)
    go None a (Some qs) b e ih = absurd (cc)
    go None a None b e ih = absurd (cc)

-- ---- The number of claims

count_joined : (ks ls : List Claim) (m n : ℕ) → length ks ≤ m → length ls ≤ n → length (ks ++ ls) ≤ m + n
count_joined ks ls m n h k = let e = length-append ks ls in omega (arith, e, h, k)

one_answer : (q : Atom) (held : Bool) → length (answer_claims q held) ≤ 1
one_answer (Atom.truth x) held = omega arith
one_answer (Atom.row a strict) held = omega arith

path_count : (ps : List Taken) → length (path_claims ps) ≤ length ps
path_count [] = omega arith
path_count (p ∷ ps) = let h = count_joined (answer_claims p.atom p.held) (path_claims ps) 1 (length ps) (one_answer p.atom p.held) (path_count ps) in omega (arith, h)

listed_count : (o : Option Claim) → length (listed o) ≤ 1
listed_count (Some k) = omega arith
listed_count None = omega arith

signs_count : (types : Types) (ks : List Claim) (n : ℕ) → length (sign_claims types ks n) ≤ n
signs_count types ks zero = omega arith
signs_count types ks (suc n) = let h = count_joined (sign_claims types ks n) _ n 1 (signs_count types ks n) (of_two (λ (ls : List Claim). length ls ≤ 1) (is_unsigned_type (types n) && occurs_in_claims n ks) (claim (negated (variable n)) false ∷ []) [] (omega arith) (omega arith)) in omega (arith, h)

claims_count : (g : Goal) (ps : List Taken) (denied : Bool) → length (claims_of g ps denied) ≤ length ps + 1 + length g.types
claims_count g ps denied = count_joined before (sign_claims (types_in g.types) before (length g.types)) (length ps + 1) (length g.types) (count_joined (path_claims ps) _ (length ps) 1 (path_count ps) (of_two (λ (ls : List Claim). length ls ≤ 1) denied (listed (denial_at g.upper (end_at g ps))) [] (listed_count (denial_at g.upper (end_at g ps))) (omega arith))) (signs_count (types_in g.types) before (length g.types))
  where
    before : List Claim
    before = path_claims ps ++ cond denied (listed (denial_at g.upper (end_at g ps))) []

-- ---- The rows of a path

pub listed_rows : (g : Goal) (ps : List Taken) (denied : Bool) (r : RowList) → IsPath g ps → Lists r (rows_of g ps denied) → AreRows r
listed_rows g ps denied (Rows rows) p h = (found (types_in g.types) (claims_of g ps denied) rows.items (all_normal g ps denied p) h).are_rows
listed_rows g ps denied Bits p h = tt

pub few_rows : (g : Goal) (ps : List T.Taken) (denied : Bool) (r : RowList) → IsPath g (path_of ps) → Lists r (rows_of g (path_of ps) denied) → count_of r ≤ length ps + 1 + length g.types
few_rows g ps denied (Rows rows) p h = let f = (found (types_in g.types) (claims_of g (path_of ps) denied) rows.items (all_normal g (path_of ps) denied p) h).count in let c = claims_count g (path_of ps) denied in let l = length-map ps taken_of in omega (arith, f, c, l)
few_rows g ps denied Bits p h = omega arith

pub typed_rows : (g : Goal) (ps : List Taken) (denied : Bool) (r : RowList) → IsPath g ps → Lists r (rows_of g ps denied) → IsTypedGoal g → AreNumericRows g.types r
typed_rows g ps denied (Rows rows) p h w = numeric_rows g ps denied rows.items w p h
typed_rows g ps denied Bits p h w = tt
