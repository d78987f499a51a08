use Rattle.std.proofs.Common.{ap, sym, ◌∙◌}
use Rattle.linear_form.specs.internal.Evaluations.{frame_asks}
use Rattle.linear_form.specs.internal.Parts.{notes_later}
use Rattle.linear_form.specs.internal.PlainParts.{work_of}
use Rattle.linear_form.specs.declared.parts.Part.{Part}
use Rattle.linear_form.proofs.PartsThatWait.{none_later}
use Rattle.linear_form.proofs.further_questions.frame_asks.Goals as goal

pub returns-in_default : goal.returns-in_default
returns-in_default c = sym (ap frame_asks c.in-First.is ∙ ap (λ (p : Part). notes_later (work_of p.work)) (sym c.deref.ensures) ∙ none_later c.deref.result.now.work c.in_default.not-Two c.in_default.not-Choice)
