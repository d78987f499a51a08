use Rattle.std.proofs.Common.{refl}
use Rattle.linear_elim.specs.internal.CountedRows.{terms_at}
use Rattle.linear_elim.proofs.CountedTerms.{put_free}
use Rattle.linear_elim.proofs.tables.put.Goals as goal

pub returns-in-Free : goal.returns-in-Free
returns-in-Free c =
    let r = rw c.in-Free.is at c.in_ok-place_of.ensures in
    λ t. put_free (terms_at c.args.step.now c.args.kept.now) c.args.table.now c.fill.new.self (terms_at c.args.step.now c.args.kept.now c.args.name) c.in-Free.place c.in-Free.print c.args.name r refl c.fill.ensures.places (c.fill.ensures.prints t) (c.fill.ensures.names t) (c.fill.ensures.count t)
