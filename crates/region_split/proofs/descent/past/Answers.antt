use Rattle.std.proofs.Common.{sym, subst, arith}
use Rattle.heylo_formula.specs.Goals.{goal_of}
use Rattle.linear_form.specs.AskAnswers.{Answers}
use Rattle.linear_form.specs.Paths.{IsPath, end_at}
use Rattle.linear_form.specs.PlainPaths.{path_of}
use Rattle.linear_form.specs.Places.{IsOn}
use Rattle.goal_answers.specs.declared.causes.Cause.TheVariants.{Bits}
use Rattle.region_split.proofs.PathAnswers.{bits_there, question_there}
use Rattle.region_split.proofs.Steps.{come_path, step_below, front_ends}
use Rattle.region_split.proofs.descent.past.Goals as goal

pub go_on_from-requires-clause-path : goal.go_on_from-requires-clause-path
go_on_from-requires-clause-path c = subst (λ xs. IsPath (goal_of c.args.goal.now) (path_of xs)) (sym c.deref.ensures.value) (come_path (goal_of c.args.goal.now) (path_of c.args.walk.now.trail.path.items) c.args.walk.now c.requires.stands.come)

pub go_on_from-requires-clause-on : goal.go_on_from-requires-clause-on
go_on_from-requires-clause-on c = subst (λ xs. IsOn (goal_of c.args.goal.now) (path_of xs) c.args.place) (sym c.deref.ensures.value) c.requires.on

pub returns-in-Decide : goal.returns-in-Decide
returns-in-Decide c =
    let g = goal_of c.args.goal.now in
    let ps = path_of c.args.walk.now.trail.path.items in
    let a = subst (λ xs. Answers c.in_ok-ask.field-0.ask (end_at g (path_of xs))) c.deref.ensures.value c.in_ok-ask.ensures.asked in
    let o = subst (λ xs. IsOn g (path_of xs) c.in_ok-ask.field-0.place) c.deref.ensures.value c.in_ok-ask.ensures.on in
    (record { stands = c.requires.stands; goes_on = question_there g ps c.in-Decide.atom c.requires.kept (rw c.in-Decide.is at a); on = o }, omega arith)

pub end-requires-clause-at_end : goal.end-requires-clause-at_end
end-requires-clause-at_end c =
    let g = goal_of c.args.goal.now in
    let ps = path_of c.args.walk.now.trail.path.items in
    let a = subst (λ xs. Answers c.in_ok-ask.field-0.ask (end_at g (path_of xs))) c.deref.ensures.value c.in_ok-ask.ensures.asked in
    c.end_of.ensures ps c.requires.kept (rw c.in-End.is at a)

pub returns-in-End : goal.returns-in-End
returns-in-End c = step_below (goal_of c.args.goal.now) _ _ c.end.new.walk c.end.result (omega arith) c.end.ensures

pub returns-in-Bits : goal.returns-in-Bits
returns-in-Bits c =
    let g = goal_of c.args.goal.now in
    let ps = path_of c.args.walk.now.trail.path.items in
    let a = subst (λ xs. Answers c.in_ok-ask.field-0.ask (end_at g (path_of xs))) c.deref.ensures.value c.in_ok-ask.ensures.asked in
    front_ends g ps c.args.walk.now Bits c.requires.linear c.requires.stands.come (bits_there g ps c.requires.kept (rw c.in-Bits.is at a))
