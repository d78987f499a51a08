-- An elimination preserves the invariant of rows in the program.
use Rattle.std.proofs.Common.{◌≡◌, ℕ, ◌*◌, ◌<◌, ◌^◌, List, [], ◌∷◌, refl, sym, arith, subst, Bool, true, ◌&&◌, nat_lt}
use Rattle.std.specs.Prelude.{ℤ, pos, unsigned_abs}
use Rattle.std.proofs.Math.Nat.{mul-pos}
use Rattle.std.specs.List.{All}
use Rattle.std.proofs.lemmas.List.Elements.{All-nil, All-cons, All-head, All-tail, All-append, All-filter}
use Rattle.std.proofs.lemmas.Bool.Decides.{nat_tests}
use Rattle.linear_rows.specs.Terms.{IsNormal, add_terms, is_narrow}
use Rattle.linear_rows.specs.TermResults.{are_narrow}
use Rattle.linear_rows.proofs.exported.Normal.{add-normal}
use Rattle.linear_elim.specs.Joins.{Derived, size, lowest, join, join_fits, derived_fits, joined_row, joined_shares, joined_over, share_divisor}
use Rattle.linear_elim.specs.internal.DerivedRows.{IsDerived}
use Rattle.linear_elim.specs.Steps.{lowers, uppers, kept, joins, pairs, fits_each, pairs_fit, step_fits, eliminate_one}
use Rattle.linear_elim.proofs.Lowest.{lowest-is}
use Rattle.linear_elim.proofs.Shapes.{rows_normal, lowest-normal, divided-normal}
use Rattle.linear_elim.proofs.Shares.{quotient_positive, divides}
use Rattle.linear_rows.proofs.exported.SameTerms.{and_true}
use Rattle.linear_elim.specs.Elimination.{Rule, tidied_by}
use Rattle.linear_elim.proofs.RuledRows.{ruled-all}

narrow_out : (n : ℕ) → nat_lt n (2 ^ 62) ≡ true → n < 2 ^ 62
narrow_out n e = grind (arith, nat_tests)

pub narrow_all_out : (ts : List (ℕ × ℤ)) → are_narrow ts ≡ true → All (λ t. unsigned_abs t.1 < 2 ^ 62) ts
narrow_all_out [] e = All-nil _
narrow_all_out (t ∷ ts) e = let h = and_true (is_narrow t.1) (are_narrow ts) e in All-cons (λ t. unsigned_abs t.1 < 2 ^ 62) t ts (narrow_out (unsigned_abs t.1) h.0) (narrow_all_out ts h.1)

lowest_row : (x : ℕ) (l u : Derived) → (join x l u).row ≡ lowest (joined_row x l u)
unfolding join
lowest_row x l u = refl

normal_shares : (x : ℕ) (l u : Derived) → IsNormal (join x l u).shares
unfolding join
normal_shares x l u = divided-normal (share_divisor x l u) (joined_shares x l u) (divides (joined_shares x l u) (joined_over x l u)).0 (add-normal (pos (size x u * u.over)) l.shares (add_terms (pos (size x l * l.over)) u.shares []) (add-normal (pos (size x l * l.over)) u.shares [] tt))

positive_over : (x : ℕ) (l u : Derived) → 0 < l.over → 0 < u.over → 0 < (join x l u).over
unfolding join
positive_over x l u h k = quotient_positive (share_divisor x l u) (joined_over x l u) (divides (joined_shares x l u) (joined_over x l u)).1 (mul-pos (mul-pos h k) (lowest-is (joined_row x l u)).positive)

join-derived : (x : ℕ) (l u : Derived) → IsDerived l → IsDerived u → true ≡ join_fits x l u → IsDerived (join x l u)
join-derived x l u h k e = go (last_of _ (derived_fits (join x l u)) (sym e))
  where
    last_of : (a b : Bool) → (a && b) ≡ true → b ≡ true
    last_of a b e = (and_true a b e).1

    go : derived_fits (join x l u) ≡ true → IsDerived (join x l u)
    go e =
        let a = and_true _ (is_narrow (pos (join x l u).over)) e in
        let b = and_true _ (are_narrow (join x l u).shares) a.0 in
        let d = and_true (are_narrow (join x l u).row.terms) (is_narrow (join x l u).row.rest) b.0 in
        record {
          is_row = record { normal = subst (λ r. IsNormal r.terms) (sym (lowest_row x l u)) (lowest-normal (joined_row x l u) (rows_normal (size x u) l.row (size x l) u.row)); narrow = narrow_all_out (join x l u).row.terms d.0; rest_narrow = narrow_out _ d.1 };
          shares_normal = normal_shares x l u;
          over_positive = positive_over x l u h.over_positive k.over_positive;
          over_narrow = narrow_out _ a.1;
        }

joins-derived : (x : ℕ) (l : Derived) (us : List Derived) → IsDerived l → All IsDerived us → fits_each x l us ≡ true → All IsDerived (joins x l us)
unfolding fits_each
joins-derived x l [] h k e = All-nil _
joins-derived x l (u ∷ us) h k e = let f = and_true (join_fits x l u) (fits_each x l us) e in All-cons IsDerived (join x l u) (joins x l us) (join-derived x l u h (All-head IsDerived u us k) (sym f.0)) (joins-derived x l us h (All-tail IsDerived u us k) f.1)

pairs-derived : (x : ℕ) (ls us : List Derived) → All IsDerived ls → All IsDerived us → pairs_fit x ls us ≡ true → All IsDerived (pairs x ls us)
unfolding pairs pairs_fit
pairs-derived x [] us h k e = All-nil _
pairs-derived x (l ∷ ls) us h k e = let f = and_true (fits_each x l us) (pairs_fit x ls us) e in All-append IsDerived (joins x l us) (pairs x ls us) (joins-derived x l us (All-head IsDerived l ls h) k f.0) (pairs-derived x ls us (All-tail IsDerived l ls h) k f.1)

pub step-derived : (rule : Rule) (x : ℕ) (rows : List Derived) → All IsDerived rows → true ≡ step_fits x rows → All IsDerived (tidied_by rule (eliminate_one x rows))
step-derived rule x rows h e = ruled-all rule IsDerived (eliminate_one x rows) (All-append IsDerived (kept x rows) (pairs x (lowers x rows) (uppers x rows)) (All-filter _ IsDerived rows h) (pairs-derived x (lowers x rows) (uppers x rows) (All-filter _ IsDerived rows h) (All-filter _ IsDerived rows h) (sym e)))
