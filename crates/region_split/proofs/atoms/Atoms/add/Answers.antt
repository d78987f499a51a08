use Rattle.std.proofs.Common.{sym, subst}
use Rattle.std.proofs.lemmas.List.Elements.{All-push}
use Rattle.region_split.specs.internal.KnownComparisons.{AreKnown, IsKnownQuestion}
use Rattle.region_split.proofs.atoms.Atoms.add.Goals as goal

pub returns-clause-known : goal.returns-clause-known
returns-clause-known c types a y n =
    let q = rw c.in-Some.is at (c.in_ok-known.ensures.known types y n) in
    let k = All-push (IsKnownQuestion types) c.self.inside.known.items c.in-Some.known (subst (AreKnown types) (sym c.self.view_is) a) q in
    subst (AreKnown types) (sym c.in_ok-push.ensures.items) k
