-- For the proofs of other crates: what a search records of rows, it records of these rows and more.
use Rattle.std.proofs.Common.{List, ◌++◌, arith, subst, sym}
use Rattle.std.proofs.lemmas.List.{take-append-le, length-append}
use Rattle.std.proofs.lemmas.List.Elements.{All-weaker}
use Rattle.linear_rows.specs.Row.{Row}
use Rattle.linear_guess.specs.Spots.{AreMetBy}
use Rattle.linear_guess.specs.Searches.{IsKnown, Remembers}
use Rattle.linear_guess.specs.declared.known_points.KnownPoint.{KnownPoint}
use Rattle.linear_guess.specs.declared.search.Search.{Search}

known_more : (rows more : List Row) (point : KnownPoint) → IsKnown rows point → IsKnown (rows ++ more) point
known_more rows more point h = record { positive = h.positive; within = omega (arith, h.within, length-append rows more); met = subst (AreMetBy point.spot.below point.spot.tops.items) (sym (take-append-le point.met rows more h.within)) h.met }

pub remembers_more : (s : Search) (rows more : List Row) → Remembers s rows → Remembers s (rows ++ more)
remembers_more s rows more h = record { known = known_more rows more s.known h.known; earlier = All-weaker (IsKnown rows) (IsKnown (rows ++ more)) (known_more rows more) s.earlier.items h.earlier }
