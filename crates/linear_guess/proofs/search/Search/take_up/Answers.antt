use Rattle.std.proofs.Common.{subst}
use Rattle.std.specs.Prelude.{IfSome}
use Rattle.std.proofs.lemmas.List.Elements.{All-pop}
use Rattle.linear_guess.specs.Searches.{IsKnown}
use Rattle.linear_guess.proofs.search.Search.take_up.Goals as goal

pub returns-in-Some : goal.returns-in-Some
returns-in-Some c rows h =
    let parts = All-pop (IsKnown rows) c.args.self.now.earlier.items c.pop.new.self.items c.pop.result c.pop.ensures.items h.earlier in
    record { known = subst (λ r. IfSome r (IsKnown rows)) c.in-Some.is parts.1; earlier = parts.0 }
