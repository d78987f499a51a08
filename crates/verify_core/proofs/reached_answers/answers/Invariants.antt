use Rattle.std.proofs.Common.{◌≡◌, ◌+◌, List, length}
use Rattle.std.specs.Vec.Iter.{into_iter_items}
use Rattle.heyvl_acts.specs.PlainActs.{procedures_of}
use Rattle.verify_core.specs.Verdicts.{IsAnswer}
use Rattle.verify_core.specs.declared.outcomes.GoalOutcome.{GoalOutcome}
use Rattle.verify_core.specs.internal.Own.{EachNumbered, IsOwnBy}
use Rattle.verify_core.proofs.reached_answers.answers.Given as goal

abbrev pub invariant-loop-one : goal.invariant-loop-one
invariant-loop-one l = record {
  done : l.p ≡ length l.all.items;
  count : l.p + length (into_iter_items l.one-iterator) ≡ length l.fn.own.items;
  answers : (table ranks : List (List GoalOutcome)) → EachNumbered (IsOwnBy (procedures_of l.typed) table ranks) 0 l.fn.own.items → EachNumbered (IsAnswer (procedures_of l.typed) table ranks) 0 l.all.items × EachNumbered (IsOwnBy (procedures_of l.typed) table ranks) l.p (into_iter_items l.one-iterator);
}
