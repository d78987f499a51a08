use Rattle.std.proofs.Common.{◌≡◌, ◌++◌, map}
use Rattle.verify_core.specs.Outcomes.{all_shown, loop_answer}
use Rattle.verify_core.proofs.answering.loop_answers.Given as goal

abbrev pub invariant-loop-one : goal.invariant-loop-one
invariant-loop-one l = record {
  loops : l.loops.items ≡ map loop_answer l.yielded;
  made : l.made.items ≡ l.initial.made.items ++ all_shown l.yielded;
}
