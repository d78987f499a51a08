-- An unsigned variable that occurs in the rows of a path has a row that says that it is not
-- negative.
use Rattle.std.proofs.Common.{◌≡◌, ℕ, ◌+◌, ◌<◌, List, [], ◌∷◌, ◌++◌, length, refl, sym, ap, ap₂, ◌∙◌, subst, arith, Bool, true, false, cond, ◌==◌, ◌&&◌, ◌||◌, eqb}
use Rattle.std.specs.Prelude.{Some}
use Prim.Native.Nat.{zero, suc}
use Rattle.std.specs.List.{All, list_any}
use Rattle.std.proofs.lemmas.List.Elements.{All-head, All-tail}
use Rattle.std.proofs.lemmas.List.Sums.{sum_by-cons}
use Rattle.heyvl_num.specs.Rational.{Rational, zeroʳ, leqʳ, ◌≤ʳ◌, ◌*ʳ◌}
use Rattle.heyvl_num.specs.Value.{is_zeroʳ}
use Rattle.heylo_formula.specs.State.{Env, number_of}
use Rattle.heylo_formula.specs.Typing.{Types, types_in}
use Rattle.linear_values.specs.Lin.{Lin, Terms, at, constant, variable, times, scaled}
use Rattle.linear_rows.specs.Numbers.{minus_oneʳ}
use Rattle.linear_form.specs.Paths.{end_at}
use Rattle.linear_values.specs.Tightening.{Claim, tightened, tight_row, rounded, are_whole, factor, whole_terms}
use Rattle.linear_form.specs.PathRows.{claim, negated, path_claims, listed, denial_at, is_unsigned_type, occurs_in_terms, occurs_in_claims, sign_claims, claims_of}
use Rattle.linear_values.specs.Claims.{IsClaimed, AllClaimed}
use Rattle.linear_form.specs.PointLaws.{UnsignedAreNonnegative}
use Rattle.linear_rows.specs.Row.{Row}
use Rattle.linear_rows.specs.VariableOrder.{occurs_in_row, occurrences}
use Rattle.linear_values.proofs.exported.KeptTerms.{of_two}
use Rattle.linear_values.proofs.exported.LinearValues.{leq_minus, variable_at}
use Rattle.linear_form.proofs.MetClaims.{negated_at}
use Rattle.linear_form.proofs.NormalClaims.{all_nonzero}
use Rattle.linear_values.proofs.exported.TightRows.{taken_row}
use Rattle.linear_form.proofs.ClaimedRows.{rows_claim}
use Rattle.linear_form.proofs.DeniedRows.{Gives, gives_rows}
use Rattle.linear_form.proofs.FalsifyingPoints.{first_claimed, second_claimed}

-- ---- A variable that occurs in no claim occurs in no row

or_false_first : (a b : Bool) → (a || b) ≡ false → a ≡ false
or_false_first true b e = absurd (cc)
or_false_first false b e = refl

or_false_second : (a b : Bool) → (a || b) ≡ false → b ≡ false
or_false_second true b e = absurd (cc)
or_false_second false b e = e

turned : (x y : ℕ) → (x == y) ≡ false → eqb y x ≡ false
turned x y e = grind arith

whole_lacks : (x : ℕ) (w : Rational) (ts : Terms) → occurs_in_terms x ts ≡ false → list_any (λ t. eqb t.0 x) (whole_terms w ts) ≡ false
whole_lacks x w [] e = refl
whole_lacks x w (t ∷ ts) e = ap₂ (λ a b. a || b) (turned x t.0 (or_false_first (x == t.0) _ e)) (whole_lacks x w ts (or_false_second (x == t.0) _ e))

abbrev Lacks : ℕ → Row → Type 0
Lacks x r = occurs_in_row x r ≡ false

tight_lacks : (types : Types) (x : ℕ) (ts : Terms) (c : Rational) (strict : Bool) → occurs_in_terms x ts ≡ false → Lacks x (tight_row types ts c strict)
tight_lacks types x [] c strict e = refl
tight_lacks types x (t ∷ ts) c strict e = of_two (Lacks x) (are_whole types (t ∷ ts)) (record { terms = whole_terms (factor (t ∷ ts)) (t ∷ ts); rest = rounded strict (factor (t ∷ ts) *ʳ c); strict = false }) _ (whole_lacks x (factor (t ∷ ts)) (t ∷ ts) e) (whole_lacks x _ (t ∷ ts) e)

tightened_lacks : (types : Types) (x : ℕ) (k : Claim) (r : Row) → occurs_in_terms x k.left.terms ≡ false → tightened types k ≡ Some r → Lacks x r
unfolding tightened
tightened_lacks types x k r h e = subst (Lacks x) (taken_row _ (tight_row types k.left.terms k.left.rest k.strict) r e) (tight_lacks types x k.left.terms k.left.rest k.strict h)

claims_lack : (types : Types) (x : ℕ) (ks : List Claim) → occurs_in_claims x ks ≡ false → Gives types (Lacks x) ks
claims_lack types x [] e = tt
claims_lack types x (k ∷ ks) e = ((λ r f. tightened_lacks types x k r (or_false_first (occurs_in_terms x k.left.terms) _ e) f), claims_lack types x ks (or_false_second (occurs_in_terms x k.left.terms) _ e))

counted : (b : Bool) → b ≡ false → ◌≡◌ {A = ℕ} (cond b 1 0) 0
counted true e = absurd (cc)
counted false e = refl

none_occur : (x : ℕ) (rows : List Row) → All (Lacks x) rows → occurrences x rows ≡ 0
none_occur x [] h = refl
none_occur x (r ∷ rows) h = sum_by-cons (λ q. cond (occurs_in_row x q) 1 0) r rows ∙ ap₂ (λ a b. a + b) (counted (occurs_in_row x r) (All-head (Lacks x) r rows h)) (none_occur x rows (All-tail (Lacks x) r rows h))

-- ---- The signs are about variables that occur

lack_append : (x : ℕ) (ks ls : List Claim) → occurs_in_claims x ks ≡ false → occurs_in_claims x ls ≡ false → occurs_in_claims x (ks ++ ls) ≡ false
lack_append x [] ls e f = f
lack_append x (k ∷ ks) ls e f = ap₂ (λ a b. a || b) (or_false_first (occurs_in_terms x k.left.terms) _ e) (lack_append x ks ls (or_false_second (occurs_in_terms x k.left.terms) _ e) f)

other_lacks : (x n : ℕ) → (x == n) ≡ false → occurs_in_terms x (negated (variable n)).terms ≡ false
unfolding scaled
other_lacks x n e = of_two (λ (a : Lin). occurs_in_terms x a.terms ≡ false) (is_zeroʳ minus_oneʳ) (constant zeroʳ) (record { terms = times minus_oneʳ (variable n).terms; rest = minus_oneʳ *ʳ (variable n).rest }) refl (ap (λ b. b || false) e)

signs_lack : (types : Types) (x : ℕ) (ks : List Claim) (n : ℕ) → occurs_in_claims x ks ≡ false → occurs_in_claims x (sign_claims types ks n) ≡ false
signs_lack types x ks zero e = refl
signs_lack types x ks (suc n) e = lack_append x (sign_claims types ks n) _ (signs_lack types x ks n e) (go (is_unsigned_type (types n)) (occurs_in_claims n ks) refl (x == n) refl)
  where
    go : (u a : Bool) → occurs_in_claims n ks ≡ a → (b : Bool) → (x == n) ≡ b → occurs_in_claims x (cond (u && a) (claim (negated (variable n)) false ∷ []) []) ≡ false
    go true true k true i = absurd (let j : x ≡ n = grind arith in let l : true ≡ false = sym k ∙ ap (λ y. occurs_in_claims y ks) (sym j) ∙ e in cc)
    go true true k false i = ap (λ b. b || false) (other_lacks x n i)
    go true false k b i = refl
    go false a k b i = refl

-- ---- The sign of a variable that occurs

sign_at : (types : Types) (s : Env) (ks : List Claim) (n x : ℕ) → x < n → is_unsigned_type (types x) ≡ true → occurs_in_claims x ks ≡ true → AllClaimed s (sign_claims types ks n) → IsClaimed s (claim (negated (variable x)) false)
sign_at types s ks zero x l u o h = absurd (omega (arith, l))
sign_at types s ks (suc n) x l u o h = go (x == n) refl (λ m. sign_at types s ks n x m u o (first_claimed s (sign_claims types ks n) _ h)) (second_claimed s (sign_claims types ks n) _ h)
  where
    go : (b : Bool) → (x == n) ≡ b → (x < n → IsClaimed s (claim (negated (variable x)) false)) → AllClaimed s (cond (is_unsigned_type (types n) && occurs_in_claims n ks) (claim (negated (variable n)) false ∷ []) []) → IsClaimed s (claim (negated (variable x)) false)
    go true i ih m =
        let j : n ≡ x = grind arith in
        let a : is_unsigned_type (types n) ≡ true = ap (λ y. is_unsigned_type (types y)) j ∙ u in
        let b : occurs_in_claims n ks ≡ true = ap (λ y. occurs_in_claims y ks) j ∙ o in
        let k = subst (λ c. AllClaimed s (cond c (claim (negated (variable n)) false ∷ []) [])) (ap₂ (λ c d. c && d) a b) m in
        subst (λ y. IsClaimed s (claim (negated (variable y)) false)) j k.0
    go false i ih m = ih (grind (arith, l))

sign_says : (s : Env) (x : ℕ) → IsClaimed s (claim (negated (variable x)) false) → zeroʳ ≤ʳ number_of (s x)
sign_says s x h = record { holds = sym (ap (λ y. leqʳ y zeroʳ) (negated_at (variable x) s) ∙ leq_minus zeroʳ (at (variable x) s) ∙ ap (λ y. leqʳ zeroʳ y) (variable_at x s)) ∙ h.claimed }

pub unsigned_nonnegative : UnsignedAreNonnegative
unsigned_nonnegative g ps denied rows s x p e m l u o = go (occurs_in_claims x before) refl
  where
    before : List Claim
    before = path_claims ps ++ cond denied (listed (denial_at g.upper (end_at g ps))) []

    go : (b : Bool) → occurs_in_claims x before ≡ b → zeroʳ ≤ʳ number_of (s x)
    go true k = sign_says s x (sign_at (types_in g.types) s before (length g.types) x l u k (second_claimed s before (sign_claims (types_in g.types) before (length g.types)) (rows_claim (types_in g.types) s (claims_of g ps denied) rows (all_nonzero g ps denied p) e m)))
    go false k = absurd (let n = none_occur x rows (gives_rows (types_in g.types) (Lacks x) (claims_of g ps denied) rows e (claims_lack (types_in g.types) x (claims_of g ps denied) (lack_append x before (sign_claims (types_in g.types) before (length g.types)) k (signs_lack (types_in g.types) x before (length g.types) k)))) in omega (arith, n, o))
