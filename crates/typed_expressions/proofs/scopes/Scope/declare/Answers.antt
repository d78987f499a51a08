use Rattle.std.proofs.Common.{ap, ◌∙◌}
use Rattle.typed_expressions.proofs.exported.ScopeEntries.{insert_entries, last_local}
use Rattle.typed_expressions.proofs.scopes.Scope.declare.Goals as goal
use Rattle.typed_expressions.specs.Scopes.{with_local}
use Rattle.typed_expressions.specs.Views.{entries_of}

pub returns-clause-shown : goal.returns-clause-shown
returns-clause-shown c =
    ap entries_of (c.in_ok-insert.ensures.entries) ∙ insert_entries c.in_ok-bytes.bytes c.args.local c.self.inside.entries.entries
    ∙ ap (λ s. with_local c.in_ok-bytes.bytes.items c.args.local s) c.self.view_is
    ∙ ap (λ x. with_local x c.args.local c.args.self.now) (c.in_ok-bytes.ensures.items ∙ c.as_bytes.ensures)

pub returns-clause-last : goal.returns-clause-last
returns-clause-last c = λ h. returns-clause-shown c ∙ last_local _ _ _ h
