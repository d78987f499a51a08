use Rattle.std.proofs.Common.{◌≡◌, ap, subst, ◌∙◌}
use Rattle.linear_form.specs.internal.GoalParts.{with_operand, IsOver}
use Rattle.linear_form.specs.internal.PlainParts.{part_of, work_of}
use Rattle.linear_form.specs.declared.parts.Part.{Part}
use Rattle.linear_form.proofs.ReadyParts.{asks_ready, choice_operand, two_operand}
use Rattle.linear_form.proofs.ready_parts.with_question.Goals.{in-Two, in-Choice}
use Rattle.linear_form.proofs.ready_parts.with_question.Goals as goal

pub returns : goal.returns
returns c =
    let d = c.deref.ensures in
    let o : work_of c.args.work ≡ with_operand (work_of c.args.work) (part_of c.deref.result.now) = elim c.match-work.branch [ in-Two w ↦ two_operand c.args.work w.in-Two.field-0 w.in-Two.field-1 w.in-Two.second c.deref.result.now w.in-Two.is (d ∙ ap (λ b. b.now.value) w.asking-is) | in-Choice w ↦ choice_operand c.args.work w.in-Choice.test w.in-Choice.field-1 w.in-Choice.field-2 c.deref.result.now w.in-Choice.is (d ∙ ap (λ b. b.now.value) w.asking-is) ] in
    let h = rw c.in-Some.is at c.in_ok-one.ensures in
    let k = rw c.in-Some-2.is at c.in_ok-other.ensures in
    asks_ready c.args.work c.deref.result.now c.in-Asks.atom c.in_ok-clone.field-0 c.in-Asks.yes c.in-Asks.no c.in-Some.one c.in-Some-2.other o c.in-Asks.is c.in_ok-clone.ensures.cases (subst (λ (p : Part). IsOver (work_of c.args.work) (part_of p) (part_of c.in-Some.one.value)) c.deref-2.ensures h) (subst (λ (p : Part). IsOver (work_of c.args.work) (part_of p) (part_of c.in-Some-2.other.value)) c.deref-3.ensures k)
