use Rattle.std.proofs.Common.{sym, subst, arith}
use Rattle.std.specs.List.{All}
use Rattle.std.proofs.lemmas.List.{with_items_is}
use Rattle.linear_guess.specs.Searches.{IsKnown}
use Rattle.linear_guess.proofs.search.Search.forget.Goals as goal

pub returns : goal.returns
returns c before after h e = c.go_back.ensures after (record {
  known = c.truncate.ensures before after h.known e;
  earlier = subst (All (IsKnown after)) (sym (with_items_is c.args.self.now.earlier c.truncate_each.new.points (omega (arith, c.truncate_each.auto.points, c.deref_mut.ensures.len)))) (c.truncate_each.ensures before after (subst (All (IsKnown before)) (sym c.deref_mut.ensures.value) h.earlier) e);
})
