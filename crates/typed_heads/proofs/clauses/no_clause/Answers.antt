use Rattle.heyvl_num.specs.Value.{zeroᵛ}
use Rattle.typed_heads.proofs.clauses.no_clause.Goals as goal
use Rattle.static_rules.specs.Files.{clause}
use Rattle.std.proofs.Common.{[], ap, sym, ◌∙◌}

pub returns-then-co : goal.returns-then-co
unfolding zeroᵛ
returns-then-co c = c.nothing.ensures ∙ ap (λ b. clause b []) (sym c.if-co.true)
