use Rattle.verify_core.proofs.certificate_verdicts.miss_of.Goals as goal

pub returns-in-None : goal.returns-in-None
returns-in-None c = c.tree_for.ensures.none c.in-None.is
