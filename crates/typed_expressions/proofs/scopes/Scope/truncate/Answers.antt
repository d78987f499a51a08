use Rattle.std.proofs.Common.{ap, take, ◌∙◌}
use Rattle.typed_expressions.proofs.exported.ScopeEntries.{take_entries}
use Rattle.typed_expressions.proofs.scopes.Scope.truncate.Goals as goal
use Rattle.typed_expressions.specs.Views.{entries_of}

pub returns : goal.returns
returns c = ap entries_of c.truncate.ensures.entries ∙ take_entries c.args.kept c.self.inside.entries.entries ∙ ap (λ s. take c.args.kept s) c.self.view_is
