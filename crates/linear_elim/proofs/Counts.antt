-- The numbers of rows and of steps if there are more than 4,096 rows.
use Rattle.std.proofs.Common.{◌≡◌, ℕ, ◌+◌, ◌*◌, ◌<◌, ◌≤◌, ◌^◌, List, [], ◌∷◌, length, length-append, refl, sym, ap, ◌∙◌, arith, subst, Bool, true, false, cond, ltb}
use Rattle.std.specs.Prelude.{Option, Some, None}
use Rattle.std.proofs.lemmas.Bool.Decides.{nat_tests}
use Rattle.std.proofs.lemmas.Nat.{mul-le}
use Rattle.std.proofs.lemmas.List.{length-map}
use Prim.Native.Nat.{suc}
use Rattle.std.specs.List.{filter}
use Rattle.linear_rows.specs.Row.{Row}
use Rattle.linear_elim.specs.Joins.{Derived, join}
use Rattle.linear_elim.specs.Steps.{lowers, uppers, kept, joins, pairs, eliminate_one, is_stronger, put_row, strongest, has_terms, tidied, contradiction, step_fits}
use Rattle.linear_rows.specs.SameTerms.{same_terms}
use Rattle.linear_elim.specs.Elimination.{Step, Outcome, step_of, gathered, after_step, ended_by, unless_many, run, start, elimination}
use Rattle.linear_elim.specs.Elimination.Rule.{keeps}
use Rattle.linear_elim.specs.Elimination.Outcome.{refuted, standing, too_many, too_great}

fewer_pass : (p : Derived → Bool) (rows : List Derived) → length (filter p rows) ≤ length rows
fewer_pass p [] = omega arith
fewer_pass p (r ∷ rs) = go (p r) (fewer_pass p rs)
  where
    go : (b : Bool) → length (filter p rs) ≤ length rs → length (cond b (r ∷ filter p rs) (filter p rs)) ≤ suc (length rs)
    go true h = omega (arith, h)
    go false h = omega (arith, h)

put_length : (r : Derived) (ks : List Derived) → length (put_row r ks) ≤ suc (length ks)
unfolding put_row
put_length r [] = omega arith
put_length r (k ∷ ks) = go (same_terms k.row.terms r.row.terms) (put_length r ks)
  where
    go : (b : Bool) → length (put_row r ks) ≤ suc (length ks) → length (cond b (cond (is_stronger r.row k.row) r k ∷ ks) (k ∷ put_row r ks)) ≤ suc (suc (length ks))
    go true h = omega arith
    go false h = omega (arith, h)

strongest_length : (ks rs : List Derived) → length (strongest ks rs) ≤ length ks + length rs
unfolding strongest
strongest_length ks [] = omega arith
strongest_length ks (r ∷ rs) = let h = strongest_length (put_row r ks) rs in let l = put_length r ks in omega (arith, h, l)

pub tidied_length : (rows : List Derived) → length (tidied rows) ≤ length rows
tidied_length rows = let h = strongest_length [] (filter (λ r. has_terms r.row.terms) rows) in let l = fewer_pass (λ r. has_terms r.row.terms) rows in omega (arith, h, l)

pairs_length : (x : ℕ) (ls us : List Derived) → length (pairs x ls us) ≡ length ls * length us
unfolding pairs
pairs_length x [] us = omega arith
pairs_length x (l ∷ ls) us = length-append (joins x l us) (pairs x ls us) ∙ sum (length us) (length ls) _ _ (length-map us (join x l)) (pairs_length x ls us)
  where
    sum : (n m a b : ℕ) → a ≡ n → b ≡ m * n → a + b ≡ suc m * n
    sum n m a b e h = grind (arith, e, h)

small_step : (a b k : ℕ) → a ≤ 4096 → b ≤ 4096 → k ≤ 4096 → k + a * b < 2 ^ 32
small_step a b k h l m = let p : a * b ≤ 4096 * 4096 = mul-le a b 4096 4096 h l in omega (arith, p, m)

step_length : (x : ℕ) (rows : List Derived) → length rows ≤ 4096 → length (eliminate_one x rows) < 2 ^ 32
step_length x rows h =
    subst (λ n. n < 2 ^ 32) (sym (length-append (kept x rows) (pairs x (lowers x rows) (uppers x rows)) ∙ ap (λ n. length (kept x rows) + n) (pairs_length x (lowers x rows) (uppers x rows))))
    (small_step (length (lowers x rows)) (length (uppers x rows)) (length (kept x rows)) (both _ (fewer_pass _ rows)) (both _ (fewer_pass _ rows)) (both _ (fewer_pass _ rows)))
  where
    both : (n : ℕ) → n ≤ length rows → n ≤ 4096
    both n k = omega (arith, k, h)

after-many : (s : Step) (o : Outcome) (m k : ℕ) → after_step s o ≡ too_many m k → o ≡ too_many m k
after-many s (refuted d) m k e = absurd (cc)
after-many s (standing ss) m k e = absurd (cc)
after-many s (too_many n j) m k e = e
after-many s too_great m k e = absurd (cc)

few_rows : (n : ℕ) → ltb 4096 n ≡ false → n ≤ 4096
few_rows n e = grind (arith, nat_tests)

-- The steps and the rows are few enough for 32 bits.
pub record IsCounted (n : ℕ) (xs : List ℕ) (m k : ℕ) : Type 0 where
  pub steps : m ≤ n + length xs
  pub rows : k < 2 ^ 32

stops_here : (n : ℕ) (xs : List ℕ) (rows : List Derived) (m k : ℕ) → length rows < 2 ^ 32 → too_many n (length (tidied rows)) ≡ too_many m k → IsCounted n xs m k
stops_here n xs rows m k h e =
    let a : n ≡ m = cc in
    let b : length (tidied rows) ≡ k = cc in
    let l = tidied_length rows in
    record { steps = omega (arith, a); rows = omega (arith, b, l, h) }

run-many : (n : ℕ) (xs : List ℕ) (rows : List Derived) (m k : ℕ) → run keeps n xs (gathered keeps rows) ≡ too_many m k → length rows < 2 ^ 32 → IsCounted n xs m k
unfolding run
run-many n [] rows m k e h = go (contradiction rows) e
  where
    many : (b : Bool) → cond b (too_many n (length (tidied rows))) (standing []) ≡ too_many m k → IsCounted n [] m k
    many true e = stops_here n [] rows m k h e
    many false e = absurd (cc)

    go : (o : Option Derived) → ended_by o (unless_many n (tidied rows) (standing [])) ≡ too_many m k → IsCounted n [] m k
    go None e = many (ltb 4096 (length (tidied rows))) e
    go (Some d) e = absurd (cc)
run-many n (x ∷ xs) rows m k e h = go (λ l f. later (run-many (suc n) xs (eliminate_one x (tidied rows)) m k f (step_length x (tidied rows) l))) (contradiction rows) e
  where
    later : IsCounted (suc n) xs m k → IsCounted n (x ∷ xs) m k
    later i = let l = i.steps in record { steps = omega (arith, l); rows = i.rows }

    many : (length (tidied rows) ≤ 4096 → run keeps (suc n) xs (gathered keeps (eliminate_one x (tidied rows))) ≡ too_many m k → IsCounted n (x ∷ xs) m k) → (b : Bool) → ltb 4096 (length (tidied rows)) ≡ b → (f : Bool) → cond b (too_many n (length (tidied rows))) (cond f (after_step (step_of x (tidied rows)) (run keeps (suc n) xs (gathered keeps (eliminate_one x (tidied rows))))) too_great) ≡ too_many m k → IsCounted n (x ∷ xs) m k
    many ih true q f e = stops_here n (x ∷ xs) rows m k h e
    many ih false q true e = ih (few_rows _ q) (after-many _ _ m k e)
    many ih false q false e = absurd (cc)

    go : (length (tidied rows) ≤ 4096 → run keeps (suc n) xs (gathered keeps (eliminate_one x (tidied rows))) ≡ too_many m k → IsCounted n (x ∷ xs) m k) → (o : Option Derived) → ended_by o (unless_many n (tidied rows) (cond (step_fits x (tidied rows)) (after_step (step_of x (tidied rows)) (run keeps (suc n) xs (gathered keeps (eliminate_one x (tidied rows))))) too_great)) ≡ too_many m k → IsCounted n (x ∷ xs) m k
    go ih None e = many ih (ltb 4096 (length (tidied rows))) refl (step_fits x (tidied rows)) e
    go ih (Some d) e = absurd (cc)

start_length : (k : ℕ) (rows : List Row) → length (start k rows) ≡ length rows
unfolding start
start_length k [] = refl
start_length k (r ∷ rs) = ap suc (start_length (suc k) rs)

pub elimination-many : (order : List ℕ) (rows : List Row) (m k : ℕ) → too_many m k ≡ elimination order rows → length rows < 2 ^ 32 → IsCounted 0 order m k
elimination-many order rows m k e h = run-many 0 order (start 0 rows) m k (sym e) (subst (λ n. n < 2 ^ 32) (sym (start_length 0 rows)) h)
