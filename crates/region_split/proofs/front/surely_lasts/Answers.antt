use Rattle.std.proofs.Common.{refl, sym, subst}
use Rattle.linear_form.specs.LastingPaths.{IsNoEnd}
use Rattle.linear_form.specs.Paths.{IsPath}
use Rattle.linear_form.specs.PlainPaths.{path_of, taken_of}
use Rattle.region_split.specs.internal.Trails.{ArePlaces}
use Rattle.region_split.proofs.Trails.{path_split, path_counted}
use Rattle.region_split.proofs.front.surely_lasts.Goals as goal

pub returns-in-Some-last_place : goal.returns-in-Some-last_place
returns-in-Some-last_place c g h p a =
    let ps = path_of c.in-Some.before.now in
    let t = taken_of c.in-Some.field-0-0.now in
    let e = path_split c.args.path.now c.in-Some.before.now c.in-Some.field-0-0.now c.in-Some.ensures.cases.0 in
    let o = c.in-Some-last_place.ensures.asked g ps t (subst (λ xs. ArePlaces g xs c.args.places.now) e a) in
    subst (IsNoEnd g) (sym e) (c.asks_on.ensures g ps t h (path_counted c.in-Some.before.now _ refl) o (subst (IsPath g) e p))
