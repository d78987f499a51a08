-- Records on the first rows of a path.
use Rattle.std.proofs.Common.{◌≡◌, ℕ, ◌+◌, ◌<◌, ◌≤◌, List, length, take, min, sym, ◌∙◌, subst, arith}
use Rattle.std.specs.List.{AllWithin}
use Rattle.std.proofs.lemmas.List.{take-take, length-take, get_or-set_other, length-set}
use Rattle.std.specs.Prelude.{slice_set}
use Rattle.std.proofs.lemmas.List.Elements.{All-take, AllWithin-more_set}
use Rattle.linear_rows.specs.Row.{Row}
use Rattle.linear_guess.specs.declared.spots.Spot.{Spot}
use Rattle.linear_guess.specs.declared.known_points.KnownPoint.{KnownPoint}
use Rattle.linear_guess.specs.Spots.{IsMetBy, AreMetBy}
use Rattle.linear_guess.specs.Searches.{IsKnown}

pub first_of_first : (n : ℕ) (rows : List Row) → take n rows ≡ take n (take n rows)
first_of_first n rows = sym (take-take n n rows (omega arith))

pub known_first : (spot : Spot) (rows : List Row) (n kept m : ℕ) → 0 < spot.below → n ≤ length rows → m ≡ min n kept → AreMetBy spot.below spot.tops.items (take n rows) → IsKnown (take kept rows) (record { spot = spot; met = m })
known_first spot rows n kept m p l e h = record {
  positive = p;
  within = omega (arith, e, l, length-take kept rows);
  met = subst (AreMetBy spot.below spot.tops.items) (take-take m n rows (omega (arith, e)) ∙ sym (take-take m kept rows (omega (arith, e)))) (All-take (IsMetBy spot.below spot.tops.items) m (take n rows) h);
}

pub changed_more : (P Q : KnownPoint → Type 0) (points : List KnownPoint) (i : ℕ) (p : KnownPoint) → i < length points → Q p → AllWithin Q points 0 i → AllWithin P points i (length points) → AllWithin Q (slice_set points i p) 0 (i + 1) × AllWithin P (slice_set points i p) (i + 1) (length (slice_set points i p))
changed_more P Q points i p l q h k = (AllWithin-more_set points i p l Q h q, λ j d a b. subst P (sym (get_or-set_other points i j p d (omega (arith, a)))) (k j d (omega (arith, a)) (omega (arith, b, length-set points i p))))
