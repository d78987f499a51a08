-- The sizes of the formulas and conditions of resolved trees. This project's own.
use Rattle.heyvl_acts.specs.FormSizes.{FormsWithin}
use Rattle.heyvl_acts.specs.Rules.{Each}
use Rattle.heyvl_syntax.specs.Procedures.{Procedure}
use Rattle.heyvl_syntax.specs.Sizes.{nodes_of_procedure}
use Rattle.static_rules.specs.Files.{file_findings, typed}
use Rattle.std.specs.Prelude.{List, [], ◌*◌, ◌+◌, ◌≡◌}
use Rattle.typed_expressions.specs.Signatures.{called}

-- In a file without findings, each formula and condition of a typed procedure has at most 64 nodes
-- more than twice the number of nodes of the procedure's expressions.
abbrev pub ResolvedFormsAreSmall : Type 0
ResolvedFormsAreSmall = (ps : List Procedure) → file_findings ps ≡ []
    → Each (λ p. FormsWithin (2 * nodes_of_procedure p + 64) (typed (called ps) p)) ps
