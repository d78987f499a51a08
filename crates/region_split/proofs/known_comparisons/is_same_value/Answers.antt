use Rattle.std.proofs.Common.{◌≡◌}
use Rattle.region_split.proofs.KnownFractions.{same_where, same_value}
use Rattle.region_split.proofs.known_comparisons.is_same_value.Goals as goal

pub returns-then-eq : goal.returns-then-eq
returns-then-eq c t =
    let p = c.deref-then-eq.ensures.value in
    let q = c.deref.ensures.value in
    let r = c.are_same_value_terms.ensures t in
    let e : c.args.a.now.terms.items ≡ c.args.b.now.terms.items = cc in
    same_value c.args.a.now.terms.items c.args.b.now.terms.items c.args.a.now.rest c.args.b.now.rest e (same_where _ _ c.eq.result c.eq.ensures c.if-eq.true)
