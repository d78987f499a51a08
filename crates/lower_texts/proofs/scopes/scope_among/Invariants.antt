use Rattle.heyvl_acts.specs.PlainActs.{acts_of}
use Rattle.lower_texts.proofs.scopes.scope_among.Given as goal
use Rattle.lower_texts.specs.internal.FirstScopes.{first_scope}
use Rattle.std.proofs.Common.{drop, ◌≡◌}

abbrev pub invariant-loop-act : goal.invariant-loop-act
invariant-loop-act l = first_scope (acts_of (drop l.act-index l.acts)) ≡ first_scope (acts_of l.acts)
