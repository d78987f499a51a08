use Rattle.std.proofs.Common.{sym, ap, subst, Ok, Err, Some, None, ◌∙◌}
use Rattle.heylo_formula.specs.Goals.{goal_of}
use Rattle.linear_form.specs.AskAnswers.{Answers}
use Rattle.linear_form.specs.Paths.{end_at}
use Rattle.linear_form.specs.PlainPaths.{path_of, atom_of}
use Rattle.linear_form.specs.internal.Evaluations.{standing}
use Rattle.linear_form.specs.internal.Run.Evaluation.{decide}
use Rattle.linear_form.specs.declared.cursor.Stop.TheVariants.{Bits, Decide}
use Rattle.linear_form.proofs.EvaluationRuns.{moved, step_at}
use Rattle.linear_form.proofs.EndAnswers.{on_bits, on_decides, on_end}
use Rattle.linear_form.proofs.continuations.go_on_from.Goals.{in-Ok-Some, in-Err-Decide+in_ok-copy_atom-in-Err-Decide, in-Err-Bits}
use Rattle.linear_form.proofs.continuations.go_on_from.Goals as goal

pub steps-preserved : goal.steps-preserved
steps-preserved c = let h = step_at (path_of c.args.path.now) c.deref_mut.result.now c.steps.evaluation.value c.advance.new.place (Ok None) c.deref_mut.ensures.value (rw c.in-Ok-None.field-0-is at c.in-Ok-None.ensures) in let m = moved (goal_of c.args.goal.now) (path_of c.args.path.now) c.steps.evaluation.value c.advance.new.place c.requires.path c.steps.invariant.on h.0 in record { on = m.0; ready = m.1 }

pub returns-in-steps-clause-asked : goal.returns-in-steps-clause-asked
returns-in-steps-clause-asked c = elim c.match-advance.branch [
  | in-Ok-Some w ↦ (let h = step_at (path_of c.args.path.now) c.deref_mut.result.now c.steps.evaluation.value c.advance.new.place (Ok (Some w.in-Ok-Some.ask)) c.deref_mut.ensures.value (rw w.in-Ok-Some.field-0-is at w.in-Ok-Some.ensures) in subst (λ a. Answers a (end_at (goal_of c.args.goal.now) (path_of c.args.path.now))) (sym (w.ask-is ∙ w.into_inner-ask.ensures)) (on_end (goal_of c.args.goal.now) (path_of c.args.path.now) (standing c.steps.evaluation.value) w.in-Ok-Some.ask.value c.requires.path c.steps.invariant.on h.0))
  | in-Err-Decide+in_ok-copy_atom-in-Err-Decide w ↦ (let h = step_at (path_of c.args.path.now) c.deref_mut.result.now c.steps.evaluation.value c.advance.new.place (Err (Decide w.in-Err-Decide.atom)) c.deref_mut.ensures.value (rw w.in-Err-Decide.field-0-is at w.in-Err-Decide.ensures) in subst (λ a. Answers a (end_at (goal_of c.args.goal.now) (path_of c.args.path.now))) (sym w.ask-is) (on_decides (goal_of c.args.goal.now) (path_of c.args.path.now) (standing c.steps.evaluation.value) _ c.requires.path c.steps.invariant.on (h.0 ∙ ap decide (sym (w.in_ok-copy_atom-in-Err-Decide.ensures ∙ ap atom_of (w.deref.ensures ∙ ap (λ b. b.value) w.in-Err-Decide.atom-is))))))
  | in-Err-Bits w ↦ (let h = step_at (path_of c.args.path.now) c.deref_mut.result.now c.steps.evaluation.value c.advance.new.place (Err Bits) c.deref_mut.ensures.value (rw w.in-Err-Bits.field-0-is at w.in-Err-Bits.ensures) in subst (λ a. Answers a (end_at (goal_of c.args.goal.now) (path_of c.args.path.now))) (sym w.ask-is) (on_bits (goal_of c.args.goal.now) (path_of c.args.path.now) (standing c.steps.evaluation.value) c.requires.path c.steps.invariant.on h.0))
]

pub returns-in-steps-clause-on : goal.returns-in-steps-clause-on
returns-in-steps-clause-on c = elim c.match-advance.branch [
  | in-Ok-Some w ↦ (let h = step_at (path_of c.args.path.now) c.deref_mut.result.now c.steps.evaluation.value c.advance.new.place (Ok (Some w.in-Ok-Some.ask)) c.deref_mut.ensures.value (rw w.in-Ok-Some.field-0-is at w.in-Ok-Some.ensures) in (moved (goal_of c.args.goal.now) (path_of c.args.path.now) c.steps.evaluation.value c.advance.new.place c.requires.path c.steps.invariant.on h.1).0)
  | in-Err-Decide+in_ok-copy_atom-in-Err-Decide w ↦ (let h = step_at (path_of c.args.path.now) c.deref_mut.result.now c.steps.evaluation.value c.advance.new.place (Err (Decide w.in-Err-Decide.atom)) c.deref_mut.ensures.value (rw w.in-Err-Decide.field-0-is at w.in-Err-Decide.ensures) in (moved (goal_of c.args.goal.now) (path_of c.args.path.now) c.steps.evaluation.value c.advance.new.place c.requires.path c.steps.invariant.on h.1).0)
  | in-Err-Bits w ↦ (let h = step_at (path_of c.args.path.now) c.deref_mut.result.now c.steps.evaluation.value c.advance.new.place (Err Bits) c.deref_mut.ensures.value (rw w.in-Err-Bits.field-0-is at w.in-Err-Bits.ensures) in (moved (goal_of c.args.goal.now) (path_of c.args.path.now) c.steps.evaluation.value c.advance.new.place c.requires.path c.steps.invariant.on h.1).0)
]
