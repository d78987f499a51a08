use Rattle.heylo_formula.specs.PlainTrees.{form_of}
use Rattle.typed_heads.proofs.ClauseForms.{Reads}
use Rattle.typed_heads.proofs.PreAndPost.{pres}
use Rattle.typed_heads.proofs.clauses.read_pres.Given as goal
use Rattle.std.proofs.Common.{map}

abbrev pub invariant-loop-e : goal.invariant-loop-e
invariant-loop-e l = Reads (pres l.scope) l.all l.next l.e-index l.next (map form_of l.forms.items)
