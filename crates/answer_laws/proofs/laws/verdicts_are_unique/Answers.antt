use Rattle.answer_laws.proofs.SameDecisions.{decided_verdicts_unique}
use Rattle.answer_laws.proofs.SameMisses.{checked_verdicts_unique}
use Rattle.answer_laws.proofs.laws.verdicts_are_unique.Goals as goal

pub returns : goal.returns
returns c = record { decided = decided_verdicts_unique c.decisions_are_unique.ensures; checked = checked_verdicts_unique c.certificates_are_told_apart.ensures.never_both c.certificates_are_told_apart.ensures.one_place }
