use Rattle.std.proofs.Common.{◌≡◌, drop}
use Rattle.verify_core.specs.internal.Marks.{first_marked}
use Rattle.verify_core.proofs.reached_answers.first_marked.Given as goal

abbrev pub invariant-loop-q : goal.invariant-loop-q
invariant-loop-q l = first_marked l.marks (drop l.q-index l.numbers) ≡ first_marked l.marks l.numbers
