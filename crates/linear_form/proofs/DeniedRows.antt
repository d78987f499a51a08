-- The rows of a path without the denied goal are among those with it.
use Rattle.std.proofs.Common.{◌≡◌, ℕ, List, [], ◌∷◌, ◌++◌, length, refl, sym, ◌∙◌, subst, Bool, true, false, cond, ◌&&◌, ◌||◌}
use Rattle.std.specs.Prelude.{Option, Some, None}
use Prim.Native.Nat.{zero, suc}
use Rattle.std.specs.List.{All, Contains}
use Rattle.std.proofs.lemmas.List.{append-nil}
use Rattle.std.proofs.lemmas.List.Elements.{All-nil, All-cons, All-head, All-tail, All-contains_itself}
use Rattle.heylo_formula.specs.Goals.{Goal}
use Rattle.heylo_formula.specs.Typing.{Types, types_in}
use Rattle.linear_values.specs.Lin.{variable}
use Rattle.linear_form.specs.Query.{Taken}
use Rattle.linear_form.specs.Paths.{end_at}
use Rattle.linear_values.specs.Tightening.{Claim, tightened, with_row, all_tightened}
use Rattle.linear_form.specs.PathRows.{claim, negated, path_claims, listed, denial_at, is_unsigned_type, occurs_in_terms, occurs_in_claims, sign_claims, with_signs, claims_of, rows_of}
use Rattle.linear_rows.specs.Row.{Row}
use Rattle.linear_rows.specs.Solutions.{MeetsAt}
use Rattle.linear_form.specs.RowListLaws.{DeniedRowsAreMore, DeniedRowsAreStronger}

-- ---- A property of the row of each claim

abbrev pub Gives : Types → (Row → Type 0) → List Claim → Type 0
Gives types P [] = Unit {0}
Gives types P (k ∷ ks) = ((r : Row) → tightened types k ≡ Some r → P r) × Gives types P ks

pub gives_append : (types : Types) (P : Row → Type 0) (ks ls : List Claim) → Gives types P ks → Gives types P ls → Gives types P (ks ++ ls)
gives_append types P [] ls h m = m
gives_append types P (k ∷ ks) ls h m = (h.0, gives_append types P ks ls h.1 m)

pub gives_first : (types : Types) (P : Row → Type 0) (ks ls : List Claim) → Gives types P (ks ++ ls) → Gives types P ks
gives_first types P [] ls h = tt
gives_first types P (k ∷ ks) ls h = (h.0, gives_first types P ks ls h.1)

pub gives_second : (types : Types) (P : Row → Type 0) (ks ls : List Claim) → Gives types P (ks ++ ls) → Gives types P ls
gives_second types P [] ls h = h
gives_second types P (k ∷ ks) ls h = gives_second types P ks ls h.1

pub gives_rows : (types : Types) (P : Row → Type 0) (ks : List Claim) (rows : List Row) → all_tightened types ks ≡ Some rows → Gives types P ks → All P rows
gives_rows types P [] rows e h = let k : [] ≡ rows = cc in subst (All P) k (All-nil P)
gives_rows types P (k ∷ ks) rows e h = go (tightened types k) refl (all_tightened types ks) refl e (λ qs b. gives_rows types P ks qs b h.1)
  where
    go : (o : Option Row) → tightened types k ≡ o → (p : Option (List Row)) → all_tightened types ks ≡ p → with_row o p ≡ Some rows → ((qs : List Row) → all_tightened types ks ≡ Some qs → All P qs) → All P rows
    go (Some r) a (Some qs) b e ih = let i : (r ∷ qs) ≡ rows = cc in subst (All P) i (All-cons P r qs (h.0 r a) (ih qs b))
    go (Some r) a None b e ih = absurd (cc)
    go None a (Some qs) b e ih = absurd (cc)
    go None a None b e ih = absurd (cc)

pub rows_give : (types : Types) (P : Row → Type 0) (ks : List Claim) (rows : List Row) → all_tightened types ks ≡ Some rows → All P rows → Gives types P ks
rows_give types P [] rows e h = tt
rows_give types P (k ∷ ks) rows e h = go (tightened types k) refl (all_tightened types ks) refl e (rows_give types P ks)
  where
    go : (o : Option Row) → tightened types k ≡ o → (p : Option (List Row)) → all_tightened types ks ≡ p → with_row o p ≡ Some rows → ((qs : List Row) → all_tightened types ks ≡ Some qs → All P qs → Gives types P ks) → Gives types P (k ∷ ks)
    go (Some r) a (Some qs) b e ih =
        let i : rows ≡ (r ∷ qs) = cc in
        let j = subst (All P) i h in
        ((λ s f. let m : Some r ≡ Some s = sym a ∙ f in let n : r ≡ s = cc in subst P n (All-head P r qs j)), ih qs b (All-tail P r qs j))
    go (Some r) a None b e ih = absurd (cc)
    go None a (Some qs) b e ih = absurd (cc)
    go None a None b e ih = absurd (cc)

-- ---- The signs of more claims

pub occurs_more : (x : ℕ) (ks ls : List Claim) → occurs_in_claims x ks ≡ true → occurs_in_claims x (ks ++ ls) ≡ true
occurs_more x [] ls e = absurd (cc)
occurs_more x (k ∷ ks) ls e = go (occurs_in_terms x k.left.terms) e (occurs_more x ks ls)
  where
    go : (b : Bool) → (b || occurs_in_claims x ks) ≡ true → (occurs_in_claims x ks ≡ true → occurs_in_claims x (ks ++ ls) ≡ true) → (b || occurs_in_claims x (ks ++ ls)) ≡ true
    go true e ih = refl
    go false e ih = ih e

signs_give : (types : Types) (P : Row → Type 0) (ks ls : List Claim) (n : ℕ) → Gives types P (sign_claims types (ks ++ ls) n) → Gives types P (sign_claims types ks n)
signs_give types P ks ls zero h = tt
signs_give types P ks ls (suc n) h = gives_append types P (sign_claims types ks n) _ (signs_give types P ks ls n (gives_first types P (sign_claims types (ks ++ ls) n) _ h)) (go (is_unsigned_type (types n)) (occurs_in_claims n ks) refl (occurs_in_claims n (ks ++ ls)) refl (gives_second types P (sign_claims types (ks ++ ls) n) _ h))
  where
    go : (u a : Bool) → occurs_in_claims n ks ≡ a → (b : Bool) → occurs_in_claims n (ks ++ ls) ≡ b → Gives types P (cond (u && b) (claim (negated (variable n)) false ∷ []) []) → Gives types P (cond (u && a) (claim (negated (variable n)) false ∷ []) [])
    go true true e true f m = m
    go true true e false f m = let k = occurs_more n ks ls e in absurd (cc)
    go true false e b f m = tt
    go false a e b f m = tt

-- ---- The claims and the rows of a path

fewer_give : (g : Goal) (P : Row → Type 0) (ps : List Taken) → Gives (types_in g.types) P (claims_of g ps true) → Gives (types_in g.types) P (claims_of g ps false)
fewer_give g P ps h = subst (λ ks. Gives (types_in g.types) P (with_signs g ks)) (sym (append-nil (path_claims ps))) (gives_append (types_in g.types) P (path_claims ps) (sign_claims (types_in g.types) (path_claims ps) (length g.types)) (gives_first (types_in g.types) P (path_claims ps) denied (gives_first (types_in g.types) P (path_claims ps ++ denied) _ h)) (signs_give (types_in g.types) P (path_claims ps) denied (length g.types) (gives_second (types_in g.types) P (path_claims ps ++ denied) _ h)))
  where
    denied : List Claim
    denied = listed (denial_at g.upper (end_at g ps))

pub all_fewer : (g : Goal) (P : Row → Type 0) (ps : List Taken) (rows denied : List Row) → rows_of g ps false ≡ Some rows → rows_of g ps true ≡ Some denied → All P denied → All P rows
all_fewer g P ps rows denied e f h = gives_rows (types_in g.types) P (claims_of g ps false) rows e (fewer_give g P ps (rows_give (types_in g.types) P (claims_of g ps true) denied f h))

pub denied_more : DeniedRowsAreMore
denied_more g ps rows denied e f = all_fewer g (Contains denied) ps rows denied e f (All-contains_itself denied)

pub denied_stronger : DeniedRowsAreStronger
denied_stronger g ps rows denied e f s = record { at_values = s.at_values; meets = all_fewer g (MeetsAt s.at_values) ps rows denied e f s.meets }
