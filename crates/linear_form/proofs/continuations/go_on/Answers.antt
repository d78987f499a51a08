use Rattle.std.proofs.Common.{sym, subst, ◌∙◌}
use Rattle.heylo_formula.specs.Goals.{goal_of}
use Rattle.linear_form.specs.Places.{IsOn}
use Rattle.linear_form.specs.PlainPaths.{path_of}
use Rattle.linear_form.proofs.Clones.{same_standing, ready_evaluation}
use Rattle.linear_form.proofs.continuations.go_on.Goals as goal

pub invariant_of-go_on_from : goal.invariant_of-go_on_from
invariant_of-go_on_from c = ready_evaluation c.place.inside.evaluation.value c.in_ok-evaluation.evaluation.value c.in_ok-evaluation.ensures.cases c.place.invariant

pub go_on_from-requires-clause-on : goal.go_on_from-requires-clause-on
go_on_from-requires-clause-on c = subst (IsOn (goal_of c.args.goal.now) (path_of c.args.path.now)) (sym (same_standing c.place.inside.evaluation.value c.in_ok-evaluation.evaluation.value c.in_ok-evaluation.ensures.cases ∙ c.place.view_is)) c.requires.on
