use Rattle.std.proofs.Common.{List, map, ◌++◌}
use Rattle.heyvl_acts.specs.Acts.{procedure_at}
use Rattle.heyvl_acts.specs.PlainActs.{procedures_of}
use Rattle.heyvl_acts.specs.Rules.{Each}
use Rattle.verify_core.specs.internal.BoundQuestions.{AreMadeFor, IsAsked, NamedQuestion, asked_question, plain}
use Rattle.verify_core.proofs.procedure_goals.add_bounds.Given as goal

abbrev pub invariant-loop-one : goal.invariant-loop-one
invariant-loop-one l = record {
  goals : (questions : List NamedQuestion) → AreMadeFor l.p questions l.initial.more.items → AreMadeFor l.p (questions ++ map (asked_question (procedure_at (procedures_of l.typed) l.p)) (map plain l.yielded)) l.more.items;
  asked : Each (IsAsked (procedures_of l.typed) (procedure_at (procedures_of l.typed) l.p)) (map plain l.one-iterator.rest.items);
}
