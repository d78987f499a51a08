-- The places of the rows of a path among its rows with the denied goal.
use Rattle.std.proofs.Common.{◌≡◌, ℕ, List, [], ◌∷◌, ◌++◌, length, refl, sym, ap, ◌∙◌, subst, Bool, true, false, cond, ◌&&◌}
use Rattle.std.specs.Prelude.{Option, Some, None, is_some}
use Rattle.std.proofs.lemmas.List.{append-nil}
use Prim.Native.Nat.{zero, suc}
use Rattle.heylo_formula.specs.Typing.{Types, types_in}
use Rattle.linear_values.specs.Lin.{variable}
use Rattle.linear_form.specs.Paths.{end_at}
use Rattle.linear_values.specs.Tightening.{Claim, tightened, with_row, all_tightened}
use Rattle.linear_form.specs.PathRows.{claim, negated, path_claims, listed, denial_at, is_unsigned_type, occurs_in_claims, sign_claims}
use Rattle.linear_rows.specs.Row.{Row}
use Rattle.linear_form.specs.RowListLaws.{StandAmong, MakesRoom, DeniedGoalMakesRoom}
use Rattle.linear_form.proofs.DeniedRows.{occurs_more}
use Rattle.linear_form.proofs.RowsOfClaims.{joined, tightened_append}

-- ---- Subsequences of claims

data Among : List Claim → List Claim → Type 0 where
  none : Among [] []
  here : (k : Claim) (ks ls : List Claim) → Among ks ls → Among (k ∷ ks) (k ∷ ls)
  past : (l : Claim) (ks ls : List Claim) → Among ks ls → Among ks (l ∷ ls)

among_append : (ks ls ms ns : List Claim) → Among ks ls → Among ms ns → Among (ks ++ ms) (ls ++ ns)
among_append _ _ ms ns Among.none h = h
among_append _ _ ms ns (Among.here k ks ls a) h = Among.here k (ks ++ ms) (ls ++ ns) (among_append ks ls ms ns a h)
among_append _ _ ms ns (Among.past l ks ls a) h = Among.past l (ks ++ ms) (ls ++ ns) (among_append ks ls ms ns a h)

signs_among : (types : Types) (ks ls : List Claim) (n : ℕ) → Among (sign_claims types ks n) (sign_claims types (ks ++ ls) n)
signs_among types ks ls zero = Among.none
signs_among types ks ls (suc n) = among_append (sign_claims types ks n) (sign_claims types (ks ++ ls) n) _ _ (signs_among types ks ls n) (go (is_unsigned_type (types n)) (occurs_in_claims n ks) refl (occurs_in_claims n (ks ++ ls)) refl)
  where
    sign : Claim
    sign = claim (negated (variable n)) false

    go : (u a : Bool) → occurs_in_claims n ks ≡ a → (b : Bool) → occurs_in_claims n (ks ++ ls) ≡ b → Among (cond (u && a) (sign ∷ []) []) (cond (u && b) (sign ∷ []) [])
    go true true e true f = Among.here sign [] [] Among.none
    go true true e false f = let k = occurs_more n ks ls e in absurd (cc)
    go true false e true f = Among.past sign [] [] Among.none
    go true false e false f = Among.none
    go false a e b f = Among.none

-- ---- Their rows

-- A row before the rows of the remaining claims.
record FirstRow (types : Types) (k : Claim) (ks : List Claim) (rows : List Row) : Type 0 where
  row : Row
  others : List Row
  is_row : tightened types k ≡ Some row
  are_others : all_tightened types ks ≡ Some others
  whole : rows ≡ row ∷ others

first_row : (types : Types) (k : Claim) (ks : List Claim) (rows : List Row) → all_tightened types (k ∷ ks) ≡ Some rows → FirstRow types k ks rows
first_row types k ks rows e = go (tightened types k) refl (all_tightened types ks) refl e
  where
    go : (o : Option Row) → tightened types k ≡ o → (p : Option (List Row)) → all_tightened types ks ≡ p → with_row o p ≡ Some rows → FirstRow types k ks rows
    go (Some r) a (Some qs) b e = record { row = r; others = qs; is_row = a; are_others = b; whole = let i : rows ≡ (r ∷ qs) = cc in i }
    go (Some r) a None b e = absurd (cc)
    go None a (Some qs) b e = absurd (cc)
    go None a None b e = absurd (cc)

rows_among : (types : Types) (ks ls : List Claim) (rows more : List Row) → Among ks ls → all_tightened types ks ≡ Some rows → all_tightened types ls ≡ Some more → StandAmong rows more
rows_among types _ _ rows more Among.none e f = let i : [] ≡ rows = cc in let j : [] ≡ more = cc in subst (λ z. StandAmong z more) i (subst (λ z. StandAmong [] z) j StandAmong.none)
rows_among types _ _ rows more (Among.here k ks ls a) e f =
    let h = first_row types k ks rows e in
    let m = first_row types k ls more f in
    let o : Some h.row ≡ Some m.row = sym h.is_row ∙ m.is_row in
    let same : h.row ≡ m.row = cc in
    subst (λ z. StandAmong z more) (sym h.whole) (subst (λ z. StandAmong (h.row ∷ h.others) z) (sym m.whole ∙ refl) (subst (λ r. StandAmong (h.row ∷ h.others) (r ∷ m.others)) same (StandAmong.here h.row h.others m.others (rows_among types ks ls h.others m.others a h.are_others m.are_others))))
rows_among types _ _ rows more (Among.past l ks ls a) e f =
    let m = first_row types l ls more f in
    subst (λ z. StandAmong rows z) (sym m.whole) (StandAmong.past m.row rows m.others (rows_among types ks ls rows m.others a e m.are_others))

-- The rows of some claims, followed by those of further claims.
pub record TwoParts (types : Types) (ks ls : List Claim) (rows : List Row) : Type 0 where
  pub first : List Row
  pub second : List Row
  pub are_first : all_tightened types ks ≡ Some first
  pub are_second : all_tightened types ls ≡ Some second
  pub whole : rows ≡ first ++ second

pub two_parts : (types : Types) (ks ls : List Claim) (rows : List Row) → all_tightened types (ks ++ ls) ≡ Some rows → TwoParts types ks ls rows
two_parts types ks ls rows e = go (all_tightened types ks) refl (all_tightened types ls) refl (sym (tightened_append types ks ls) ∙ e)
  where
    go : (o : Option (List Row)) → all_tightened types ks ≡ o → (p : Option (List Row)) → all_tightened types ls ≡ p → joined o p ≡ Some rows → TwoParts types ks ls rows
    go (Some a) h (Some b) k e = record { first = a; second = b; are_first = h; are_second = k; whole = let i : rows ≡ a ++ b = cc in i }
    go (Some a) h None k e = absurd (cc)
    go None h p k e = absurd (cc)

tightened_length : (types : Types) (ks : List Claim) (rows : List Row) → all_tightened types ks ≡ Some rows → length rows ≡ length ks
tightened_length types [] rows e = let i : [] ≡ rows = cc in ap length (sym i)
tightened_length types (k ∷ ks) rows e = let h = first_row types k ks rows e in ap length h.whole ∙ ap suc (tightened_length types ks h.others h.are_others)

-- ---- The denied goal after the answers

room : (types : Types) (n : ℕ) (ks : List Claim) (d : Claim) (rows more : List Row) → all_tightened types ((ks ++ []) ++ sign_claims types (ks ++ []) n) ≡ Some rows → all_tightened types ((ks ++ (d ∷ [])) ++ sign_claims types (ks ++ (d ∷ [])) n) ≡ Some more → MakesRoom (length ks) rows more
room types n ks d rows more e f =
    let a = two_parts types (ks ++ []) (sign_claims types (ks ++ []) n) rows e in
    let b = two_parts types (ks ++ (d ∷ [])) (sign_claims types (ks ++ (d ∷ [])) n) more f in
    let c = two_parts types ks (d ∷ []) b.first b.are_first in
    let h = first_row types d [] c.second c.are_second in
    let i : Some [] ≡ Some h.others = h.are_others in
    let j : h.others ≡ [] = cc in
    let p : all_tightened types ks ≡ Some a.first = ap (all_tightened types) (sym (append-nil ks)) ∙ a.are_first in
    let q : Some a.first ≡ Some c.first = sym p ∙ c.are_first in
    let same : a.first ≡ c.first = cc in
    record {
      first = a.first;
      denied_goal = h.row;
      signs = a.second;
      more_signs = b.second;
      counted = tightened_length types ks a.first p;
      split = a.whole;
      denied_split = b.whole ∙ ap (λ z. z ++ b.second) (c.whole ∙ ap (λ z. c.first ++ z) (h.whole ∙ ap (λ z. h.row ∷ z) j) ∙ ap (λ z. z ++ (h.row ∷ [])) (sym same)) ∙ regroup a.first b.second h.row;
      among = rows_among types (sign_claims types (ks ++ []) n) (sign_claims types (ks ++ (d ∷ [])) n) a.second b.second (subst (λ z. Among (sign_claims types z n) (sign_claims types (ks ++ (d ∷ [])) n)) (sym (append-nil ks)) (signs_among types ks (d ∷ []) n)) a.are_second b.are_second;
    }
  where
    regroup : (xs ys : List Row) (r : Row) → (xs ++ (r ∷ [])) ++ ys ≡ xs ++ (r ∷ ys)
    regroup [] ys r = refl
    regroup (x ∷ xs) ys r = ap (λ z. x ∷ z) (regroup xs ys r)

pub denied_makes_room : DeniedGoalMakesRoom
denied_makes_room g ps rows denied h e f = go (denial_at g.upper (end_at g ps)) refl h
  where
    go : (o : Option Claim) → denial_at g.upper (end_at g ps) ≡ o → is_some o ≡ true → MakesRoom (length (path_claims ps)) rows denied
    go (Some d) k s = room (types_in g.types) (length g.types) (path_claims ps) d rows denied e (ap (λ o. all_tightened (types_in g.types) ((path_claims ps ++ listed o) ++ sign_claims (types_in g.types) (path_claims ps ++ listed o) (length g.types))) (sym k) ∙ f)
    go None k s = absurd (cc)
