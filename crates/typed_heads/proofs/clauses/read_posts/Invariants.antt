use Rattle.heylo_formula.specs.PlainTrees.{form_of}
use Rattle.typed_heads.proofs.ClauseForms.{Reads}
use Rattle.typed_heads.proofs.LocalsLeft.{fronts_left}
use Rattle.typed_heads.proofs.PreAndPost.{posts}
use Rattle.typed_heads.proofs.clauses.read_posts.Given as goal
use Rattle.std.proofs.Common.{map, ◌+◌, ◌≡◌}

-- The clauses so far have been read, and the numbers of the remaining quantifiers end where those
-- of all do.
abbrev pub invariant-loop-e : goal.invariant-loop-e
invariant-loop-e l = record {
  kept : l.scope ≡ l.fn.scope;
  reads : Reads (posts l.co l.fn.scope) l.all l.first l.e-index l.next (map form_of l.forms.items);
  range : l.next + fronts_left l.all l.e-index ≡ l.first + fronts_left l.all 0;
}
