use Rattle.std.proofs.Common.{ap, subst, ◌∙◌}
use Rattle.linear_form.specs.PlainPaths.{atom_of}
use Rattle.linear_form.specs.internal.LastingTrees.{IsComparison}
use Rattle.linear_form.specs.internal.PlainParts.{part_of, work_of}
use Rattle.linear_form.proofs.PlainPartsAre.{asks_work, two_work, choice_work}
use Rattle.linear_form.proofs.ReadyParts.{arms_last, choice_follows, comparison_lasts, none_lasts, part_asks, two_follows}
use Rattle.linear_form.proofs.SureQuestions.{lasts_first, lasts_later}
use Rattle.linear_form.proofs.ready_parts.surely_asks.Goals as goal

pub returns-then-is_comparison : goal.returns-then-is_comparison
returns-then-is_comparison c h t = let e = ap work_of c.in-Asks.is ∙ asks_work _ _ _ in rw e (comparison_lasts 0 (atom_of c.in-Asks.atom.value) _ _ (subst (λ a. IsComparison (atom_of a)) c.deref.ensures (c.is_comparison.ensures t)) (none_lasts _) (none_lasts _))

pub returns-then-deref : goal.returns-then-deref
returns-then-deref c h t = let e = ap work_of c.in-Asks.is ∙ asks_work _ _ _ in let k = rw e at h in rw e (arms_last (atom_of c.in-Asks.atom.value) _ _ (part_asks c.in-Asks.yes.value _ c.deref-else-is_comparison.ensures k.0 c.if-deref.true) (part_asks c.in-Asks.no.value _ c.deref-then-deref.ensures k.1 t))

pub returns-then-deref-2 : goal.returns-then-deref-2
returns-then-deref-2 c h t = let e = ap work_of c.in-Two.is ∙ two_work _ _ _ in let k = rw e at h in rw e (lasts_first 1 _ _ (part_asks c.in-Two.first.value _ c.deref-in-Two.ensures k.0 c.if-deref-2.true))

pub returns-else-deref-2 : goal.returns-else-deref-2
returns-else-deref-2 c h t = let e = ap work_of c.in-Two.is ∙ two_work _ _ _ in let k = rw e at h in rw e (lasts_later 1 _ _ (two_follows c.in-Two.field-0 (part_of c.in-Two.first.value) (part_of c.in-Two.second.value) (part_asks c.in-Two.second.value _ c.deref-else-deref-2.ensures k.1 t)))

pub returns-then-deref-3 : goal.returns-then-deref-3
returns-then-deref-3 c h t = let e = ap work_of c.in-Choice.is ∙ choice_work _ _ _ in let k = rw e at h in rw e (lasts_first 1 _ _ (part_asks c.in-Choice.test.value _ c.deref-in-Choice.ensures k.0 c.if-deref-3.true))

pub returns-then-deref-4 : goal.returns-then-deref-4
returns-then-deref-4 c h t = let e = ap work_of c.in-Choice.is ∙ choice_work _ _ _ in let k = rw e at h in rw e (lasts_later 1 _ _ (choice_follows (part_of c.in-Choice.test.value) (part_of c.in-Choice.yes.value) (part_of c.in-Choice.no.value) (part_asks c.in-Choice.yes.value _ c.deref-else-deref-3.ensures k.1.0 c.if-deref-4.true) (part_asks c.in-Choice.no.value _ c.deref-then-deref-4.ensures k.1.1 t)))
