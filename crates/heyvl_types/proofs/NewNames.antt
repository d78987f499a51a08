-- The name of a declaration without findings is not visible before it.
use Rattle.static_rules.proofs.exported.Findings.{all_kept, back_none}
use Rattle.typed_expressions.specs.Findings.{at}
use Rattle.typed_expressions.specs.Scopes.{Scope, is_visible}
use Rattle.typed_expressions.specs.Signatures.{Called}
use Rattle.static_rules.specs.StatementRules.{value_findings, var_rules}
use Rattle.static_rules.specs.declared.settings.Setting.{Setting}
use Rattle.heyvl_syntax.specs.Statements.{RightSide}
use Rattle.heyvl_places.specs.declared.spans.Span.{Span}
use Rattle.heyvl_syntax.specs.declared.types.TypeName.{TypeName}
use Rattle.std.proofs.Common.{List, None, Option, Some, [], false, ◌++◌, ◌≡◌, ℕ}

pub not_visible : (h : Setting) (called : Called) (n : ℕ) (sc : Scope) (x : List ℕ) (t : TypeName) (r : Option RightSide) (s : Span) → value_findings n sc r ++ at s (var_rules h called n sc x t r) ≡ [] → is_visible sc x ≡ false
not_visible h called n sc x t None s e = (all_kept s (var_rules h called n sc x t None) e).0
not_visible h called n sc x t (Some r) s e = (all_kept s (var_rules h called n sc x t (Some r)) (back_none (value_findings n sc (Some r)) (at s (var_rules h called n sc x t (Some r))) e)).1.0
