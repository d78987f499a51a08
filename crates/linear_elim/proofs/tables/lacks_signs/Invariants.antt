use Rattle.std.proofs.Common.{ℕ, List, drop}
use Rattle.std.specs.Prelude.{ℤ}
use Rattle.std.specs.List.{All}
use Rattle.linear_elim.specs.declared.tables.Name.{Name}
use Rattle.linear_elim.specs.internal.CountedRows.{Lacks}
use Rattle.linear_elim.specs.internal.Signless.{sign_terms}
use Rattle.linear_elim.proofs.tables.lacks_signs.Given as goal

abbrev pub invariant-loop-i : goal.invariant-loop-i
invariant-loop-i l = (f : Name → List (ℕ × ℤ)) → All (λ x. Lacks f l.table (sign_terms x)) (drop l.i l.variables) → All (λ x. Lacks f l.fn.table (sign_terms x)) l.fn.variables
