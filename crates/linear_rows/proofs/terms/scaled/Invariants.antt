use Rattle.std.proofs.Common.{◌≡◌, ◌<◌, ◌^◌, ◌++◌, drop}
use Rattle.std.specs.Prelude.{unsigned_abs}
use Rattle.std.specs.List.{All}
use Rattle.linear_rows.specs.TermResults.{scaled_terms, are_wide}
use Rattle.linear_rows.proofs.terms.scaled.Given as goal

abbrev pub invariant-loop-v : goal.invariant-loop-v
invariant-loop-v l = record { so_far : l.out.items ++ scaled_terms l.p (drop l.v-index l.terms) ≡ scaled_terms l.fn.p l.fn.terms; wide : All (λ t. unsigned_abs t.1 < 2 ^ 126) l.out.items; fits : are_wide l.p (drop l.v-index l.terms) ≡ are_wide l.fn.p l.fn.terms }
