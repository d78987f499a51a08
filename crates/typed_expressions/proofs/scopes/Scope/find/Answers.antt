use Rattle.std.proofs.Common.{ap, ◌∙◌}
use Rattle.typed_expressions.proofs.exported.ScopeEntries.{find_entries}
use Rattle.typed_expressions.proofs.scopes.Scope.find.Goals as goal
use Rattle.typed_expressions.specs.Scopes.{find}

pub returns : goal.returns
returns c = c.copied.ensures ∙ c.get.ensures.value ∙ find_entries c.as_bytes.result.now c.self.inside.entries.entries ∙ ap (λ s. find s c.as_bytes.result.now) c.self.view_is ∙ ap (λ x. find c.args.self.now x) c.as_bytes.ensures
