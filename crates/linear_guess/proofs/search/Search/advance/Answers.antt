use Rattle.std.proofs.Common.{take, refl}
use Rattle.linear_guess.specs.Searches.{Remembers}
use Rattle.linear_guess.proofs.KnownRows.{first_of_first, known_first}
use Rattle.linear_guess.proofs.search.Search.advance.Goals as goal

pub returns-clause-met : goal.returns-clause-met
returns-clause-met c =
    let rows = c.args.rows.now in
    let whole : Remembers c.forget.new.self rows = c.forget.ensures rows rows c.requires refl in
    c.met_from-met.ensures.met whole.known.met

pub returns-clause-remembered : goal.returns-clause-remembered
returns-clause-remembered c =
    let rows = c.args.rows.now in
    let whole : Remembers c.forget.new.self rows = c.forget.ensures rows rows c.requires refl in
    let first : Remembers c.forget.new.self (take c.args.kept rows) = c.forget.ensures rows _ c.requires (first_of_first c.args.kept rows) in
    record {
      known = known_first c.forget.new.self.known.spot rows c.met_from-met.result c.args.kept c.least-self.result whole.known.positive c.met_from-met.ensures.within c.least-self.ensures (c.met_from-met.ensures.met whole.known.met);
      earlier = first.earlier;
    }
