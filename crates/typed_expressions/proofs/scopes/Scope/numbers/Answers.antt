use Rattle.std.proofs.Common.{ap, map, ◌++◌, ◌∙◌}
use Rattle.typed_expressions.proofs.exported.ScopeEntries.{numbers_entries}
use Rattle.typed_expressions.proofs.scopes.Scope.numbers.Goals as goal
use Rattle.typed_expressions.specs.Scopes.{numbers}

pub loop-local-init : goal.loop-local-init
loop-local-init c =
    ap (λ r. r ++ map (λ x. x.number) c.into_iter-local-iterator.result) c.in_ok-all.ensures.items
    ∙ ap (map (λ x. x.number)) (c.into_iter-local-iterator.ensures.into_iter_gives ∙ c.values-local-items.ensures.rest)
    ∙ numbers_entries c.self.inside.entries.entries ∙ ap numbers c.self.view_is
