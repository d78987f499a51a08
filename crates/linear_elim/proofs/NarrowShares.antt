-- The multipliers of the rows of an elimination are below 2^62.
use Rattle.std.proofs.Common.{◌≡◌, ℕ, ◌<◌, ◌^◌, List, [], ◌∷◌, sym, arith, true, ◌&&◌}
use Rattle.std.specs.Prelude.{ℤ, pos, unsigned_abs}
use Prim.Native.Nat.{suc}
use Rattle.std.specs.List.{All}
use Rattle.std.proofs.lemmas.List.Elements.{All-nil, All-cons, All-append, All-filter}
use Rattle.linear_rows.specs.Terms.{is_narrow}
use Rattle.linear_rows.specs.TermResults.{are_narrow}
use Rattle.linear_rows.specs.Row.{Row}
use Rattle.linear_elim.specs.Joins.{Derived, join, join_fits, derived_fits, row_fits}
use Rattle.linear_elim.specs.Steps.{lowers, uppers, kept, pairs, fits_each, pairs_fit, step_fits, eliminate_one}
use Rattle.linear_elim.specs.Elimination.{Rule, own, start, elimination_by}
use Rattle.linear_elim.specs.Elimination.Outcome.{refuted}
use Rattle.linear_elim.proofs.Solutions.{pairs-all}
use Rattle.linear_rows.proofs.exported.SameTerms.{and_true}
use Rattle.linear_elim.proofs.KeptRows.{narrow_all_out}
use Rattle.linear_elim.proofs.Solvability.{refuted-all}

abbrev pub AreNarrowShares : Derived → Type 0
AreNarrowShares r = All (λ s. unsigned_abs s.1 < 2 ^ 62) r.shares

join-narrow : (x : ℕ) (l u : Derived) → join_fits x l u ≡ true → AreNarrowShares (join x l u)
join-narrow x l u e =
    let d = (and_true _ (derived_fits (join x l u)) e).1 in
    let a = and_true (row_fits (join x l u).row && are_narrow (join x l u).shares) (is_narrow (pos (join x l u).over)) d in
    let b = and_true (row_fits (join x l u).row) (are_narrow (join x l u).shares) a.0 in
    narrow_all_out (join x l u).shares b.1

each-narrow : (x : ℕ) (l : Derived) (us : List Derived) → fits_each x l us ≡ true → All (λ u. AreNarrowShares (join x l u)) us
unfolding fits_each
each-narrow x l [] e = All-nil _
each-narrow x l (u ∷ us) e = let f = and_true (join_fits x l u) (fits_each x l us) e in All-cons (λ u. AreNarrowShares (join x l u)) u us (join-narrow x l u f.0) (each-narrow x l us f.1)

pairs-narrow : (x : ℕ) (ls us : List Derived) → pairs_fit x ls us ≡ true → All (λ l. All (λ u. AreNarrowShares (join x l u)) us) ls
unfolding pairs_fit
pairs-narrow x [] us e = All-nil _
pairs-narrow x (l ∷ ls) us e = let f = and_true (fits_each x l us) (pairs_fit x ls us) e in All-cons (λ l. All (λ u. AreNarrowShares (join x l u)) us) l ls (each-narrow x l us f.0) (pairs-narrow x ls us f.1)

step-narrow : (x : ℕ) (rows : List Derived) → true ≡ step_fits x rows → All AreNarrowShares rows → All AreNarrowShares (eliminate_one x rows)
step-narrow x rows e h = All-append AreNarrowShares (kept x rows) (pairs x (lowers x rows) (uppers x rows)) (All-filter _ AreNarrowShares rows h) (pairs-all AreNarrowShares x (lowers x rows) (uppers x rows) (pairs-narrow x (lowers x rows) (uppers x rows) (sym e)))

start-narrow : (k : ℕ) (rows : List Row) → All AreNarrowShares (start k rows)
unfolding start
start-narrow k [] = All-nil _
start-narrow k (r ∷ rs) = All-cons AreNarrowShares (own k r) (start (suc k) rs) (All-cons (λ (s : ℕ × ℤ). unsigned_abs s.1 < 2 ^ 62) (k, pos 1) [] (omega arith) (All-nil _)) (start-narrow (suc k) rs)

pub refuted-narrow : (rule : Rule) (order : List ℕ) (rows : List Row) (c : Derived) → elimination_by rule order rows ≡ refuted c → AreNarrowShares c
refuted-narrow rule order rows c e = (refuted-all rule AreNarrowShares step-narrow 0 order (start 0 rows) c e (start-narrow 0 rows)).0
