use Rattle.std.proofs.Common.{◌∙◌}
use Rattle.typed_expressions.proofs.exported.ScopeEntries.{equal_entries}
use Rattle.typed_expressions.proofs.scopes.Scope.copy.Goals as goal

pub returns : goal.returns
returns c = equal_entries c.self.inside.entries.entries c.in_ok-clone.field-0.entries c.in_ok-clone.ensures.cases ∙ c.self.view_is
