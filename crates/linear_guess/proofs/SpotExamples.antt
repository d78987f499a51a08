-- A point, rows that it satisfies, and the record of a search on them, computed.
use Rattle.std.proofs.Common.{◌≡◌, ℕ, List, [], ◌∷◌, take, true, false, arith, subst, sym}
use Rattle.std.specs.Prelude.{ℤ, pos, negsuc}
use borrow.Author.Differences.{ints}
use Rattle.std.specs.List.{All}
use Rattle.std.proofs.lemmas.List.Elements.{All-nil, All-cons, All-head, All-tail}
use Rattle.linear_rows.specs.Terms.{sum_at}
use Rattle.linear_rows.specs.Row.{Row}
use Rattle.linear_guess.specs.Spots.{IsMetBy, AreMetBy}
use Rattle.linear_guess.specs.Searches.{IsKnown, Remembers}
use Rattle.linear_guess.specs.declared.known_points.KnownPoint.{KnownPoint}
use Rattle.linear_guess.specs.declared.search.Search.{Search}

-- The rows `x <= 2`, `1 < x` and `2 <= x`.
abbrev at_most_two : Row
at_most_two = record { terms = (0, pos 1) ∷ []; rest = negsuc 1; strict = false }

abbrev more_than_one : Row
more_than_one = record { terms = (0, negsuc 0) ∷ []; rest = pos 1; strict = true }

abbrev at_least_two : Row
at_least_two = record { terms = (0, negsuc 0) ∷ []; rest = pos 2; strict = false }

abbrev rows : List Row
rows = at_most_two ∷ more_than_one ∷ at_least_two ∷ []

-- x = 3/2 satisfies the first two rows, and violates the third.
abbrev tops : List ℤ
tops = pos 3 ∷ []

meets_two : AreMetBy 2 tops (take 2 rows)
unfolding sum_at
meets_two = All-cons (IsMetBy 2 tops) at_most_two (more_than_one ∷ []) (record { met = omega (arith, ints) }) (All-cons (IsMetBy 2 tops) more_than_one [] (record { met = omega (arith, ints) }) (All-nil (IsMetBy 2 tops)))

misses_the_third : AreMetBy 2 tops rows → ⊥
unfolding sum_at
misses_the_third h = let third = All-head (IsMetBy 2 tops) at_least_two [] (All-tail (IsMetBy 2 tops) more_than_one (at_least_two ∷ []) (All-tail (IsMetBy 2 tops) at_most_two (more_than_one ∷ at_least_two ∷ []) h)) in omega (arith, ints, third.met)

known_of_two : (point : KnownPoint) → point.spot.below ≡ 2 → point.spot.tops.items ≡ tops → point.met ≡ 2 → IsKnown rows point
known_of_two point b t m = record {
  positive = omega arith;
  within = omega arith;
  met = subst (λ (n : ℕ). AreMetBy point.spot.below point.spot.tops.items (take n rows)) (sym m) (subst (λ (l : List ℤ). AreMetBy point.spot.below l (take 2 rows)) (sym t) (subst (λ (n : ℕ). AreMetBy n tops (take 2 rows)) (sym b) meets_two));
}

not_known_of_three : (point : KnownPoint) → point.spot.below ≡ 2 → point.spot.tops.items ≡ tops → point.met ≡ 3 → IsKnown rows point → ⊥
not_known_of_three point b t m h = misses_the_third (subst (λ (n : ℕ). AreMetBy n tops rows) b (subst (λ (l : List ℤ). AreMetBy point.spot.below l rows) t (subst (λ (n : ℕ). AreMetBy point.spot.below point.spot.tops.items (take n rows)) m h.met)))

remembers_two : (s : Search) → s.known.spot.below ≡ 2 → s.known.spot.tops.items ≡ tops → s.known.met ≡ 2 → s.earlier.items ≡ [] → Remembers s rows
remembers_two s b t m e = record {
  known = known_of_two s.known b t m;
  earlier = subst (All (IsKnown rows)) (sym e) (All-nil (IsKnown rows));
}
