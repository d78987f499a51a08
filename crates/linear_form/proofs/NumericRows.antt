-- Each variable of a row of a typed goal has a type of numbers.
use Rattle.std.proofs.Common.{◌≡◌, ℕ, List, [], ◌∷◌, ◌++◌, length, refl, subst, Bool, true, false, cond, ◌&&◌}
use Rattle.std.specs.Prelude.{Option, Some, None}
use Prim.Native.Nat.{zero, suc}
use Rattle.std.specs.List.{All}
use Rattle.std.proofs.lemmas.List.Elements.{All-nil, All-cons}
use Rattle.heyvl_num.specs.Rational.{Rational, ◌*ʳ◌}
use Rattle.heylo_formula.specs.Goals.{Goal}
use Rattle.heylo_formula.specs.Typing.{Types, types_in}
use Rattle.heylo_formula.specs.declared.types.Ty.{Ty}
use Rattle.linear_values.specs.Lin.{Terms, variable, Linear}
use Rattle.linear_rows.specs.Numbers.{minus_oneʳ}
use Rattle.linear_form.specs.Query.{Query, Atom, Taken}
use Rattle.linear_form.specs.Query.Query.{done, bits, ask}
use Rattle.linear_form.specs.Questions.{Ends}
use Rattle.linear_form.specs.Paths.{IsPath, end_at}
use Rattle.heylo_formula.specs.TypedGoals.{IsTypedGoal}
use Rattle.linear_values.specs.Tightening.{Claim, tightened, tight_row, rounded, are_whole, factor, whole_terms, with_row, all_tightened}
use Rattle.linear_form.specs.PathRows.{claim, negated, answer_claims, path_claims, below_claim, listed, denial_at, is_unsigned_type, occurs_in_claims, sign_claims, claims_of, rows_of}
use Rattle.linear_rows.specs.Row.{Row}
use Rattle.linear_rows.specs.VariableTypes.{is_numeric, IsNumericRow}
use Rattle.linear_values.proofs.exported.KeptTerms.{of_two}
use Rattle.linear_values.proofs.exported.TightRows.{taken_row}
use Rattle.linear_form.proofs.TypedTrees.{NumberTerms, IsNumberValue, IsTypedAtom, IsTypedPath, AreNumberEnds, scaled_numbers, minus_numbers, typed_path, typed_end}

-- ---- The claims

abbrev pub NumberClaims : Types → List Claim → Type 0
NumberClaims types [] = Unit {0}
NumberClaims types (k ∷ ks) = NumberTerms types k.left.terms × NumberClaims types ks

numbers_append : (types : Types) (ks ls : List Claim) → NumberClaims types ks → NumberClaims types ls → NumberClaims types (ks ++ ls)
numbers_append types [] ls h m = m
numbers_append types (k ∷ ks) ls h m = (h.0, numbers_append types ks ls h.1 m)

answer_numbers : (types : Types) (q : Atom) (held : Bool) → IsTypedAtom types q → NumberClaims types (answer_claims q held)
answer_numbers types (Atom.truth x) held h = tt
answer_numbers types (Atom.row a strict) true h = (h, tt)
answer_numbers types (Atom.row a strict) false h = (scaled_numbers types minus_oneʳ a h, tt)

path_numbers : (types : Types) (ps : List Taken) → IsTypedPath types ps → NumberClaims types (path_claims ps)
path_numbers types [] h = tt
path_numbers types (p ∷ ps) h = numbers_append types (answer_claims p.atom p.held) (path_claims ps) (answer_numbers types p.atom p.held h.0) (path_numbers types ps h.1)

below_numbers : (types : Types) (x y : Linear) → IsNumberValue types x → IsNumberValue types y → NumberClaims types (listed (below_claim x y))
below_numbers types (Some a) (Some b) h k = (minus_numbers types a b h k, tt)
below_numbers types (Some a) None h k = (tt, tt)
below_numbers types None y h k = tt

denial_numbers : (types : Types) (up : Bool) (t : Query Ends) → AreNumberEnds types t → NumberClaims types (listed (denial_at up t))
denial_numbers types true (done e) h = below_numbers types e.0 e.1 h.0 h.1
denial_numbers types false (done e) h = below_numbers types e.1 e.0 h.1 h.0
denial_numbers types up bits h = tt
denial_numbers types up (ask q y n) h = tt

pub unsigned_number : (ty : Ty) → is_unsigned_type ty ≡ true → is_numeric ty ≡ true
unsigned_number Ty.Bool e = absurd (cc)
unsigned_number Ty.Int e = absurd (cc)
unsigned_number Ty.UInt e = refl
unsigned_number Ty.UReal e = refl

signs_numbers : (types : Types) (ks : List Claim) (n : ℕ) → NumberClaims types (sign_claims types ks n)
signs_numbers types ks zero = tt
signs_numbers types ks (suc n) = numbers_append types (sign_claims types ks n) _ (signs_numbers types ks n) (go (is_unsigned_type (types n)) refl (occurs_in_claims n ks))
  where
    go : (a : Bool) → is_unsigned_type (types n) ≡ a → (b : Bool) → NumberClaims types (cond (a && b) (claim (negated (variable n)) false ∷ []) [])
    go true e true = (scaled_numbers types minus_oneʳ (variable n) (unsigned_number (types n) e, tt), tt)
    go true e false = tt
    go false e b = tt

pub number_claims : (g : Goal) (ps : List Taken) (denied : Bool) → IsTypedGoal g → IsPath g ps → NumberClaims (types_in g.types) (claims_of g ps denied)
number_claims g ps denied w p = numbers_append types before (sign_claims types before (length g.types)) (numbers_append types (path_claims ps) (cond denied (listed (denial_at g.upper (end_at g ps))) []) (path_numbers types ps (typed_path g ps w p)) (of_two (NumberClaims types) denied (listed (denial_at g.upper (end_at g ps))) [] (denial_numbers types g.upper (end_at g ps) (typed_end g ps w p)) tt)) (signs_numbers types before (length g.types))
  where
    types : Types
    types = types_in g.types

    before : List Claim
    before = path_claims ps ++ cond denied (listed (denial_at g.upper (end_at g ps))) []

-- ---- The rows

whole_numbers : (types : Types) (w : Rational) (ts : Terms) → NumberTerms types ts → All (λ t. is_numeric (types t.0) ≡ true) (whole_terms w ts)
whole_numbers types w [] h = All-nil _
whole_numbers types w (t ∷ ts) h = All-cons (λ t. is_numeric (types t.0) ≡ true) _ _ h.0 (whole_numbers types w ts h.1)

abbrev HasNumbers : Types → Row → Type 0
HasNumbers types r = All (λ t. is_numeric (types t.0) ≡ true) r.terms

tight_numbers : (types : Types) (ts : Terms) (c : Rational) (strict : Bool) → NumberTerms types ts → HasNumbers types (tight_row types ts c strict)
tight_numbers types [] c strict h = All-nil _
tight_numbers types (t ∷ ts) c strict h = of_two (HasNumbers types) (are_whole types (t ∷ ts)) (record { terms = whole_terms (factor (t ∷ ts)) (t ∷ ts); rest = rounded strict (factor (t ∷ ts) *ʳ c); strict = false }) _ (whole_numbers types (factor (t ∷ ts)) (t ∷ ts) h) (whole_numbers types _ (t ∷ ts) h)

tightened_numbers : (types : Types) (k : Claim) (r : Row) → NumberTerms types k.left.terms → tightened types k ≡ Some r → HasNumbers types r
unfolding tightened
tightened_numbers types k r h e = subst (HasNumbers types) (taken_row _ (tight_row types k.left.terms k.left.rest k.strict) r e) (tight_numbers types k.left.terms k.left.rest k.strict h)

all_numbers : (tys : List Ty) (ks : List Claim) (rows : List Row) → NumberClaims (types_in tys) ks → all_tightened (types_in tys) ks ≡ Some rows → All (IsNumericRow tys) rows
all_numbers tys [] rows h e = let k : [] ≡ rows = cc in subst (All (IsNumericRow tys)) k (All-nil _)
all_numbers tys (k ∷ ks) rows h e = go (tightened (types_in tys) k) refl (all_tightened (types_in tys) ks) refl e (λ qs b. all_numbers tys ks qs h.1 b)
  where
    go : (o : Option Row) → tightened (types_in tys) k ≡ o → (p : Option (List Row)) → all_tightened (types_in tys) ks ≡ p → with_row o p ≡ Some rows → ((qs : List Row) → all_tightened (types_in tys) ks ≡ Some qs → All (IsNumericRow tys) qs) → All (IsNumericRow tys) rows
    go (Some r) a (Some qs) b e ih = let i : (r ∷ qs) ≡ rows = cc in subst (All (IsNumericRow tys)) i (All-cons (IsNumericRow tys) r qs (record { numeric = tightened_numbers (types_in tys) k r h.0 a }) (ih qs b))
    go (Some r) a None b e ih = absurd (cc)
    go None a (Some qs) b e ih = absurd (cc)
    go None a None b e ih = absurd (cc)

pub numeric_rows : (g : Goal) (ps : List Taken) (denied : Bool) (rows : List Row) → IsTypedGoal g → IsPath g ps → rows_of g ps denied ≡ Some rows → All (IsNumericRow g.types) rows
numeric_rows g ps denied rows w p e = all_numbers g.types (claims_of g ps denied) rows (number_claims g ps denied w p) e
