-- What a search records of the rows of a path.
use Rattle.std.specs.Prelude.{◌<◌, ◌≤◌, List, length, take}
use Rattle.std.specs.List.{All}
use Rattle.linear_rows.specs.Row.{Row}
use Rattle.linear_guess.specs.Spots.{AreMetBy}
use Rattle.linear_guess.specs.declared.known_points.KnownPoint.{KnownPoint}
use Rattle.linear_guess.specs.declared.search.Search.{Search}

-- `IsKnown rows point`: the point satisfies the first `point.met` rows of `rows`.
pub record IsKnown (rows : List Row) (point : KnownPoint) : Type 0 where
  pub positive : 0 < point.spot.below
  pub within : point.met ≤ length rows
  pub met : AreMetBy point.spot.below point.spot.tops.items (take point.met rows)

-- `Remembers s rows`: the point in use and each earlier point of the search `s` satisfies as many
-- of the first rows of `rows` as is recorded.
pub record Remembers (s : Search) (rows : List Row) : Type 0 where
  pub known : IsKnown rows s.known
  pub earlier : All (IsKnown rows) s.earlier.items
