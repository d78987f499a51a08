-- The trail of a walk: its path with the data of each answer, the rows of the answers, the first
-- row of each variable, what is found of the rows, and the comparisons that are known.
use Rattle.std.specs.Prelude.{◌≡◌, ℕ, List, [], ◌∷◌, ◌++◌, length, true, false, Option, Some, None}
use Rattle.heylo_formula.specs.Goals.{Goal}
use Rattle.linear_form.specs.Query.{Taken, onto}
use Rattle.linear_form.specs.Cells.{IsDropped}
use Rattle.linear_rows.specs.Row.{Row}
use Rattle.linear_rows.specs.Occurrences.{AreOccurrences}
use Rattle.linear_form.specs.PlainPaths.{path_of, taken_of}
use Rattle.linear_form.specs.declared.paths.Taken as T
use Rattle.linear_form.specs.RowLists.{ArePathRows, LackLastRow}
use Rattle.linear_form.specs.Places.{IsOn}
use Rattle.linear_guess.specs.Searches.{Remembers}
use Rattle.linear_form.specs.declared.places.Place.{Place}
use Rattle.farkas_check.specs.AcceptedCertificates.{IsRefuted}
use Rattle.region_split.specs.internal.KnownComparisons.{AreKnown}
use Rattle.region_split.specs.declared.trail.Way.{Way}
use Rattle.region_split.specs.declared.trail.Way.TheVariants.{Open, Closed}
use Rattle.region_split.specs.declared.trail.Trail.{Trail}

-- `IsDroppedBy g ps ms`: the path `ps` is dropped, with the multipliers `ms` of a certificate.
pub record IsDroppedBy (g : Goal) (ps : List Taken) (ms : List (ℕ × ℕ)) : Type 0 where
  pub dropped : IsDropped g ps
  pub refuted : IsRefuted g ps ms

-- `IsWay g ps t w`: `w` is the data of the answer `t` at the end of the path `ps`: the evaluation
-- that asked it, or, if the answer is yes, that the path is dropped with the opposite answer.
abbrev pub IsWay : Goal → List Taken → Taken → Way → Type 0
IsWay g ps t (Open p) = IsOn g ps p
IsWay g ps t (Closed ms) = t.held ≡ true → IsDroppedBy g (onto ps t.atom false) ms.items

-- `ArePlaces g ps places`: the evaluation before the first comparison, followed by the data of each
-- answer of the path `ps`.
pub data ArePlaces (g : Goal) : List Taken → List Way → Type 0 where
  start : (p : Place) → IsOn g [] p → ArePlaces g [] (Open p ∷ [])
  answer : (ps : List Taken) (t : Taken) (places : List Way) (w : Way) → ArePlaces g ps places
      → IsWay g ps t w → ArePlaces g (ps ++ (t ∷ [])) (places ++ (w ∷ []))

-- `AreRowsSoFar g ps rows`: `rows` are the rows of the path `ps` without its last answer.
pub data AreRowsSoFar (g : Goal) : List Taken → List Row → Type 0 where
  start : AreRowsSoFar g [] []
  answer : (ps : List Taken) (rows : List Row) → LackLastRow g ps rows → AreRowsSoFar g ps rows

-- `Comes g t`: the trail `t` is at a front, and the last answer of its path has no row yet.
pub record Comes (g : Goal) (t : Trail) : Type 0 where
  pub places : ArePlaces g (path_of t.path.items) t.places.items
  pub rows : AreRowsSoFar g (path_of t.path.items) t.rows.items
  pub occurrences : AreOccurrences (length g.types) t.rows.items t.occurrences
  pub remembers : Remembers t.search.value t.rows.items
  pub known : AreKnown g.types t.atoms

-- `Stands g t`: the trail `t` is at a front, and has the rows of all its answers.
pub record Stands (g : Goal) (t : Trail) : Type 0 where
  pub places : ArePlaces g (path_of t.path.items) t.places.items
  pub rows : ArePathRows g (path_of t.path.items) t.rows.items
  pub occurrences : AreOccurrences (length g.types) t.rows.items t.occurrences
  pub remembers : Remembers t.search.value t.rows.items
  pub known : AreKnown g.types t.atoms

-- `Rises g t`: the trail `t` goes up: it has the rows of all its answers, and what is recorded of
-- further rows that were removed.
pub record Rises (g : Goal) (t : Trail) : Type 0 where
  pub places : ArePlaces g (path_of t.path.items) t.places.items
  pub rows : ArePathRows g (path_of t.path.items) t.rows.items
  pub more : List Row
  pub occurrences : AreOccurrences (length g.types) (t.rows.items ++ more) t.occurrences
  pub remembers : Remembers t.search.value (t.rows.items ++ more)
  pub known : AreKnown g.types t.atoms

-- `StandsAt g ps t`: the trail `t` is at the path `ps`.
pub record StandsAt (g : Goal) (ps : List Taken) (t : Trail) : Type 0 where
  pub stands : Stands g t
  pub path : path_of t.path.items ≡ ps

-- `ComesBy g from answer t`: the trail `t` is the trail `from` with one more answer.
pub record ComesBy (g : Goal) (from : Trail) (answer : T.Taken) (t : Trail) : Type 0 where
  pub comes : Comes g t
  pub path : path_of t.path.items ≡ path_of from.path.items ++ (taken_of answer ∷ [])

-- `StoodBefore g t before answer way`: the trail `t` was `before` with one more answer and its
-- data.
pub record StoodBefore (g : Goal) (t : Trail) (before : Trail) (answer : T.Taken) (way : Way)
    : Type 0 where
  pub rises : Rises g before
  pub asked : IsWay g (path_of before.path.items) (taken_of answer) way
  pub path : path_of t.path.items ≡ path_of before.path.items ++ (taken_of answer ∷ [])

-- `IsBack g t before r`: `r` is the last answer of the trail `t` with its data, which leaves the
-- trail `before`; none if there is no answer.
abbrev pub IsBack : Goal → Trail → Trail → Option (T.Taken × Way) → Type 0
IsBack g t before (Some p) = StoodBefore g t before p.0 p.1
IsBack g t before None = path_of t.path.items ≡ []
