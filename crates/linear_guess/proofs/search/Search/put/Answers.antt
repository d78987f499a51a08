use Rattle.std.proofs.Common.{subst, sym}
use Rattle.std.proofs.lemmas.List.Elements.{All-same, All-push}
use Rattle.linear_guess.specs.Searches.{IsKnown}
use Rattle.linear_guess.proofs.search.Search.put.Goals as goal

pub returns-in_ok-push : goal.returns-in_ok-push
returns-in_ok-push c rows h k = record {
  known = subst (IsKnown rows) (sym c.replace-before.ensures.after) k;
  earlier = All-same (IsKnown rows) c.push.new.self.items _ c.in_ok-push.ensures.items (All-push (IsKnown rows) c.args.self.now.earlier.items c.replace-before.result h.earlier (subst (IsKnown rows) (sym c.replace-before.ensures.value) h.known));
}
