use Rattle.heylo_formula.specs.PlainTrees.{form_of}
use Rattle.typed_heads.proofs.clauses.clause.Given as goal
use Rattle.static_rules.specs.Files.{clause}
use Rattle.typed_heads.specs.internal.Clauses.{joined_behind}
use Rattle.std.proofs.Common.{map, ◌≡◌}
use Rattle.std.specs.Prelude.{option_map}
use Rattle.std.specs.Vec.Iter.{into_iter_items}

abbrev pub invariant-loop-one : goal.invariant-loop-one
invariant-loop-one l = joined_behind l.co (option_map form_of l.joined) (map form_of (into_iter_items l.one-iterator)) ≡ clause l.co (map form_of l.fn.all.items)
