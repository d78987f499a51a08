use Rattle.heyvl_print.specs.Canonical.{canonical_text}
use Rattle.heyvl_syntax.specs.Procedures.{Procedure}
use Rattle.spelled_files.proofs.print_laws.printed_text_prints_itself.Goals as goal
use Rattle.std.proofs.Common.{List, subst, ◌≡◌}

-- -
pub returns : goal.returns
returns c = λ bytes file other one two.
    let (again, spelled, stable) = c.printing_is_stable.ensures bytes file one in
    subst (λ (p : List Procedure). canonical_text p ≡ canonical_text file) (c.spelling_is_unique.ensures (canonical_text file) again other spelled two) stable
