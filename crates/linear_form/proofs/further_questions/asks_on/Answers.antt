use Rattle.std.proofs.Common.{◌≡◌, ap, subst, sym, ◌∙◌}
use Rattle.std.proofs.lemmas.Bool.{eqb-true}
use Rattle.linear_form.specs.PlainPaths.{atom_of}
use Rattle.linear_form.specs.internal.Evaluations.{standing, IsReadyEvaluation}
use Rattle.linear_form.specs.internal.LastingTrees.{IsComparison}
use Rattle.linear_form.proofs.FramesThatAsk.{question_twice, waiting_twice}
use Rattle.linear_form.proofs.SureQuestions.{no_end_here}
use Rattle.linear_form.proofs.further_questions.asks_on.Goals.{then-evaluation-count, else-evaluation-count}
use Rattle.linear_form.proofs.further_questions.asks_on.Goals as goal

pub returns-then-frames_ask : goal.returns-then-frames_ask
returns-then-frames_ask c g ps t r l on path =
    let both : (c.deref-evaluation.result.now.at ≡ c.args.count) × IsComparison (atom_of c.in-Asks.atom.value) = elim c.if-evaluation-count.branch [ then-evaluation-count w ↦ (w.if-evaluation-count.true, subst (λ a. IsComparison (atom_of a)) w.deref-then-evaluation-count.ensures (w.is_comparison.ensures (sym w.value-is ∙ c.if-is_comparison.true))) | else-evaluation-count w ↦ absurd (w.if-evaluation-count.false (eqb-true _ _ (sym w.value-is ∙ c.if-is_comparison.true))) ] in
    no_end_here g ps t c.args.place.now c.deref-evaluation.result.now c.args.count (ap standing c.deref-evaluation.ensures ∙ c.place.view_is) both.0 (waiting_twice c.deref-evaluation.result.now c.in-Part.part c.deref.result.now c.in-Asks.atom c.in-Asks.yes c.in-Asks.no c.deref-then-is_comparison.result.now c.in-Part.is c.deref.ensures c.in-Asks.is both.1 (subst IsReadyEvaluation (sym c.deref-evaluation.ensures) c.place.invariant) c.deref-then-is_comparison.ensures.value (sym c.frames_ask.ensures ∙ c.if-frames_ask.true)) l on

pub returns-then-deref : goal.returns-then-deref
returns-then-deref c g ps t r l on path =
    let both : (c.deref-evaluation.result.now.at ≡ c.args.count) × IsComparison (atom_of c.in-Asks.atom.value) = elim c.if-evaluation-count.branch [ then-evaluation-count w ↦ (w.if-evaluation-count.true, subst (λ a. IsComparison (atom_of a)) w.deref-then-evaluation-count.ensures (w.is_comparison.ensures (sym w.value-is ∙ c.if-is_comparison.true))) | else-evaluation-count w ↦ absurd (w.if-evaluation-count.false (eqb-true _ _ (sym w.value-is ∙ c.if-is_comparison.true))) ] in
    no_end_here g ps t c.args.place.now c.deref-evaluation.result.now c.args.count (ap standing c.deref-evaluation.ensures ∙ c.place.view_is) both.0 (question_twice c.deref-evaluation.result.now c.in-Part.part c.deref.result.now c.in-Asks.atom c.in-Asks.yes c.in-Asks.no c.in-Part.is c.deref.ensures c.in-Asks.is both.1 (subst IsReadyEvaluation (sym c.deref-evaluation.ensures) c.place.invariant) (ap (λ p. p.asks) (sym c.deref-else-frames_ask.ensures) ∙ c.if-deref.true) (ap (λ p. p.asks) (sym c.deref-then-deref.ensures) ∙ r)) l on
