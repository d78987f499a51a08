use Rattle.linear_elim.proofs.ChoiceRuns.{IsStateUpTo}
use Rattle.linear_elim.proofs.choices.state.Given as goal

abbrev pub invariant-loop-i : goal.invariant-loop-i
invariant-loop-i l = IsStateUpTo l.vars l.chosen l.out.items l.i
