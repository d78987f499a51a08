-- Points as a list of numerators over one denominator, and the rows that they satisfy.
use Rattle.std.proofs.Common.{◌≡◌, ℕ, ◌<◌, ◌≤◌, ◌+◌, List, [], ◌∷◌, length, take, drop, get_or, refl, ap, ◌∙◌, sym, subst, arith}
use Rattle.std.specs.Prelude.{ℤ, pos, ◌+ℤ◌, ◌*ℤ◌}
use borrow.Author.Differences.{ints}
use Prim.Native.Nat.{suc}
use Rattle.std.proofs.Math.Seq.{drop-cons}
use Rattle.std.proofs.Math.ListN.{drop_of_length-le}
use Rattle.std.specs.List.{All}
use Rattle.std.proofs.lemmas.List.Elements.{All-weaker, All-nil, All-cons, All-append}
use Rattle.std.proofs.lemmas.List.{take_more}
use Rattle.linear_rows.specs.Terms.{sum_at}
use Rattle.linear_rows.proofs.exported.Sums.{sum_at-nil, sum_at-cons}
use Rattle.linear_rows.specs.Row.{Row}
use Rattle.linear_rows.specs.Points.{Point, IsBelow, Meets, IsMetSomewhere}
use Rattle.linear_guess.specs.Spots.{top_at, IsMetBy, AreMetBy}

to_points : (below : ℕ) (tops : List ℤ) (rows : List Row) (w : Point) → w.below ≡ below → w.top ≡ top_at tops → All (IsMetBy below tops) rows → All (Meets w) rows
to_points below tops rows w e f h = All-weaker (IsMetBy below tops) (Meets w) (λ r m. record { met = subst (λ t. IsBelow r.strict (sum_at t r.terms +ℤ (r.rest *ℤ pos w.below))) (sym f) (subst (λ b. IsBelow r.strict (sum_at (top_at tops) r.terms +ℤ (r.rest *ℤ pos b))) (sym e) m.met) }) rows h

pub met_somewhere : (below : ℕ) (tops : List ℤ) (rows : List Row) → 0 < below → All (IsMetBy below tops) rows → IsMetSomewhere rows
met_somewhere below tops rows p h =
    let w : Point = record { below = below; positive = p; top = top_at tops } in
    record { at_point = w; meets = to_points below tops rows w refl refl h }

pub none_met : (below : ℕ) (tops : List ℤ) (rows : List Row) → AreMetBy below tops (take 0 rows)
none_met below tops [] = All-nil (IsMetBy below tops)
none_met below tops (r ∷ rows) = All-nil (IsMetBy below tops)

pub met_more : (below : ℕ) (tops : List ℤ) (rows : List Row) (i : ℕ) (r : Row) (ts : List ℤ) → i < length rows → r ≡ get_or rows i r → ts ≡ tops → AreMetBy below tops (take i rows) → IsMetBy below ts r → AreMetBy below tops (take (i + 1) rows)
met_more below tops rows i r ts p e f h m = subst (AreMetBy below tops) (sym (take_more rows i r p)) (All-append (IsMetBy below tops) (take i rows) (get_or rows i r ∷ []) h (All-cons (IsMetBy below tops) (get_or rows i r) [] (subst (IsMetBy below tops) e (subst (λ t. IsMetBy below t r) f m)) (All-nil (IsMetBy below tops))))

-- ---- Sums of terms, from the first on

one_more : (z y p r s : ℤ) → z +ℤ (p +ℤ r) ≡ s → y ≡ p +ℤ z → y +ℤ r ≡ s
one_more z y p r s e f = omega (arith, ints, e, f)

next_place : (i : ℕ) → suc i ≡ i + 1
next_place i = omega arith

none_before : (z : ℤ) → pos 0 +ℤ z ≡ z
none_before z = omega (arith, ints)

none_left : (z w s : ℤ) → w ≡ pos 0 → z +ℤ w ≡ s → z ≡ s
none_left z w s e f = omega (arith, ints, e, f)

pub terms_start : (f : ℕ → ℤ) (ts : List (ℕ × ℤ)) → pos 0 +ℤ sum_at f (drop 0 ts) ≡ sum_at f ts
terms_start f ts = none_before (sum_at f ts)

pub terms_next : (f : ℕ → ℤ) (ts : List (ℕ × ℤ)) (i : ℕ) (d : ℕ × ℤ) (c z y : ℤ) → i < length ts → z +ℤ sum_at f (drop i ts) ≡ sum_at f ts → c ≡ (get_or ts i d).1 → y ≡ (c *ℤ f (get_or ts i d).0) +ℤ z → y +ℤ sum_at f (drop (i + 1) ts) ≡ sum_at f ts
terms_next f ts i d c z y l h a e =
    let k : drop i ts ≡ get_or ts i d ∷ drop (i + 1) ts = drop-cons ts i d l ∙ ap (λ n. get_or ts i d ∷ drop n ts) (next_place i) in
    one_more z y _ (sum_at f (drop (i + 1) ts)) (sum_at f ts) (sym (ap (λ w. z +ℤ w) (ap (sum_at f) k ∙ sum_at-cons f (get_or ts i d) (drop (i + 1) ts))) ∙ h) (e ∙ ap (λ k. (k *ℤ f (get_or ts i d).0) +ℤ z) a)

pub terms_end : (f : ℕ → ℤ) (ts : List (ℕ × ℤ)) (i : ℕ) (z : ℤ) → length ts ≤ i → z +ℤ sum_at f (drop i ts) ≡ sum_at f ts → z ≡ sum_at f ts
terms_end f ts i z l h = none_left z (sum_at f (drop i ts)) (sum_at f ts) (ap (sum_at f) (drop_of_length-le ts l) ∙ sum_at-nil f) h
