use Rattle.std.specs.Prelude.{List}
use Rattle.linear_rows.specs.Row.{Row}
use Rattle.linear_guess.specs.Searches.{Remembers}
use Rattle.linear_guess.proofs.search.Search.go_back.Given as goal

abbrev pub invariant-loop : goal.invariant-loop
invariant-loop l = (rows : List Row) → Remembers l.fn.self rows → Remembers l.self rows
