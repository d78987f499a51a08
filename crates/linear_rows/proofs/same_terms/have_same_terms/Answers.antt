use Rattle.linear_rows.proofs.SameTerms.{lengths_differ}
use Rattle.linear_rows.proofs.same_terms.have_same_terms.Goals as goal

pub returns-then-a-b : goal.returns-then-a-b
returns-then-a-b c = lengths_differ _ _ c.if-a-b.true
