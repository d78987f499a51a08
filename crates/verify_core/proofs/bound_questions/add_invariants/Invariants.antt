use Rattle.std.proofs.Common.{◌≡◌, ◌++◌, drop, map}
use Rattle.act_walks.specs.Lent.{lent}
use Rattle.verify_core.specs.internal.BoundQuestions.{asked_invariants, plain}
use Rattle.verify_core.proofs.bound_questions.add_invariants.Given as goal

abbrev pub invariant-loop-act : goal.invariant-loop-act
invariant-loop-act l = map plain l.all.items ++ asked_invariants (map lent (drop l.act-index l.acts)) ≡ map plain l.initial.all.items ++ asked_invariants (map lent l.acts)
