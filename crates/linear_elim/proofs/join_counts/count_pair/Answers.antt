use Rattle.linear_elim.specs.internal.CountedRows.{join_at, terms_at}
use Rattle.linear_elim.proofs.CountedTerms.{found_same, number_some, counts_put}
use Rattle.linear_elim.proofs.join_counts.count_pair.Goals as goal

pub returns-then-branch-clause-found : goal.returns-then-branch-clause-found
returns-then-branch-clause-found c = λ t. found_same (join_at c.args.step.now c.args.i c.args.j) c.args.out.now.found (number_some _ c.args.number c.if-number-eq0.false (c.requires.number c.if-number-eq0.false).0)

pub returns-then-branch-clause-table : goal.returns-then-branch-clause-table
returns-then-branch-clause-table c = λ t. counts_put (terms_at c.args.step.now c.args.kept.now) c.args.out.now.table c.put_join.new.table (join_at c.args.step.now c.args.i c.args.j) (number_some _ c.args.number c.if-number-eq0.false (c.requires.number c.if-number-eq0.false).0) (c.in_ok-put_join.ensures c.if-branch.true)
